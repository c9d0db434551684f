-- The words of the format: each is a field, and those of one list are apart.
use Rattle.std.proofs.Common.{◌≡◌, ℕ, zero, suc, ◌^◌, ◌<◌, ◌≤◌, Bool, true, not, ◌&&◌, ltb, leb, List, [], ◌∷◌, length, get_or, decimal, sym, refl, ap, arith}
use Rattle.std.specs.List.{AllByRecursion}
use Rattle.std.specs.Str.{bytes_eq}
use Rattle.std.proofs.lemmas.Fmt.{digits_decimal, decimal_nonempty}
use Rattle.std.proofs.lemmas.List.Elements.{All-from_get_or, recursion_from_All}
use Rattle.std.proofs.lemmas.Slice.Eq.{bytes_eq-Decides}
use Rattle.std.proofs.lemmas.Str.Parse.{digit_at}
use Rattle.std.proofs.lemmas.Bool.{leb-true, ltb-true, and_parts, not-true, both_ways}
use Rattle.text.specs.Lines.{Mark, Field}
use Rattle.text.proofs.Digits.{own}
use Rattle.mesh.specs.declared.link.Link.{Link}
use Rattle.mesh.specs.Rules.{InRange}
use Rattle.vocab.specs.declared.kinds.Table.{Table}
use Rattle.vocab.specs.declared.kinds.Table.TheVariants.{Settings, Links, Steps}
use Rattle.vocab.specs.declared.kinds.Kind.{Kind}
use Rattle.vocab.specs.declared.kinds.Kind.TheVariants.{Cost, Width}
use Rattle.vocab.specs.declared.kinds.Detector.{Detector}
use Rattle.vocab.specs.declared.kinds.Detector.TheVariants.{Tree, Credit}
use Rattle.vocab.specs.declared.kinds.Channel.{Channel}
use Rattle.vocab.specs.declared.kinds.Channel.TheVariants.{Queue, Stack, Picked}
use Rattle.vocab.specs.declared.kinds.Action.{Action}
use Rattle.vocab.specs.declared.kinds.Action.TheVariants.{Deliver, Work, Control}
use Rattle.vocab.specs.declared.kinds.Setting.{Setting}
use Rattle.vocab.specs.declared.kinds.Step.{Step}
use Rattle.format.specs.Tables.{setting_values, link_values, step_values}
use Rattle.vocab.specs.Words.{names, kind_word, detector_word, channel_word, action_word}
use Rattle.format.specs.Content.{SettingInRange}
use Rattle.format.specs.Filling.{Apart}

-- a test of the bytes of a word
abbrev marked : List ℕ → Bool
marked [] = true
marked (b ∷ t) = (leb 33 b && leb b 126) && marked t

marks : (t : List ℕ) → marked t ≡ true → AllByRecursion Mark t
marks [] h = tt
marks (b ∷ t) h =
    let p = and_parts (leb 33 b && leb b 126) (marked t) h in
    let q = and_parts (leb 33 b) (leb b 126) p.0 in
    ((leb-true 33 b q.0, leb-true b 126 q.1), marks t p.1)

-- a test that every text of a list is a field
abbrev fielded : List (List ℕ) → Bool
fielded [] = true
fielded (t ∷ ts) = (ltb 0 (length t) && marked t) && fielded ts

fields : (ts : List (List ℕ)) → fielded ts ≡ true → AllByRecursion Field ts
fields [] h = tt
fields (t ∷ ts) h =
    let p = and_parts (ltb 0 (length t) && marked t) (fielded ts) h in
    let q = and_parts (ltb 0 (length t)) (marked t) p.0 in
    ((ltb-true 0 (length t) q.0, marks t q.1), fields ts p.1)

pub kind_field : (w : Kind) → Field (kind_word w)
kind_field Cost = (fields (kind_word Cost ∷ []) refl).0
kind_field Width = (fields (kind_word Width ∷ []) refl).0

pub detector_field : (w : Detector) → Field (detector_word w)
detector_field Tree = (fields (detector_word Tree ∷ []) refl).0
detector_field Credit = (fields (detector_word Credit ∷ []) refl).0

pub channel_field : (w : Channel) → Field (channel_word w)
channel_field Queue = (fields (channel_word Queue ∷ []) refl).0
channel_field Stack = (fields (channel_word Stack ∷ []) refl).0
channel_field Picked = (fields (channel_word Picked ∷ []) refl).0

pub action_field : (w : Action) → Field (action_word w)
action_field Deliver = (fields (action_word Deliver ∷ []) refl).0
action_field Work = (fields (action_word Work ∷ []) refl).0
action_field Control = (fields (action_word Control ∷ []) refl).0

pub names_fields : (t : Table) → AllByRecursion Field (names t)
names_fields Settings = fields (names Settings) refl
names_fields Links = fields (names Links) refl
names_fields Steps = fields (names Steps) refl

pub names_some : (t : Table) → (0 < length (names t)) × (length (names t) ≤ 5)
names_some Settings = (omega arith, omega arith)
names_some Links = (omega arith, omega arith)
names_some Steps = (omega arith, omega arith)

-- a test that no word of a list is there twice
abbrev absent : List ℕ → List (List ℕ) → Bool
absent w [] = true
absent w (x ∷ xs) = not (bytes_eq w x) && absent w xs

abbrev single : List (List ℕ) → Bool
single [] = true
single (w ∷ ws) = absent w ws && single ws

absent_at : (w : List ℕ) (xs : List (List ℕ)) → absent w xs ≡ true → (i : ℕ) → i < length xs → w ≡ get_or xs i [] → ⊥
absent_at w [] h i l e = omega arith
absent_at w (x ∷ xs) h zero l e = let p = and_parts (not (bytes_eq w x)) (absent w xs) h in both_ways (bytes_eq w x) (not-true (bytes_eq w x) p.0) ((bytes_eq-Decides w x).1 e)
absent_at w (x ∷ xs) h (suc i) l e = absent_at w xs (and_parts (not (bytes_eq w x)) (absent w xs) h).1 i (omega arith) e

single_apart : (ws : List (List ℕ)) → single ws ≡ true → Apart ws
single_apart [] h i j a b e = absurd (omega arith)
single_apart (w ∷ ws) h zero zero a b e = refl
single_apart (w ∷ ws) h zero (suc j) a b e = absurd (absent_at w ws (and_parts (absent w ws) (single ws) h).0 j (omega arith) e)
single_apart (w ∷ ws) h (suc i) zero a b e = absurd (absent_at w ws (and_parts (absent w ws) (single ws) h).0 i (omega arith) (sym e))
single_apart (w ∷ ws) h (suc i) (suc j) a b e = ap suc (single_apart ws (and_parts (absent w ws) (single ws) h).1 i j (omega arith) (omega arith) e)

pub names_apart : (t : Table) → Apart (names t)
names_apart Settings = single_apart (names Settings) refl
names_apart Links = single_apart (names Links) refl
names_apart Steps = single_apart (names Steps) refl

-- a number is a field
pub decimal_field : (n : ℕ) → n < 2 ^ 64 → Field (decimal n)
decimal_field n h = (decimal_nonempty n h, recursion_from_All Mark (decimal n) (All-from_get_or Mark (decimal n) 0 (λ i l. let d = digit_at (decimal n) i (digits_decimal own n h) l in (omega arith, omega arith))))

-- the columns of the rows are fields
pub setting_fields : (h : Setting) → SettingInRange h → AllByRecursion Field (setting_values h)
setting_fields h r = (decimal_field h.nodes (omega (arith, r.few)), (decimal_field h.root (omega (arith, r.small)), (kind_field h.kind, (detector_field h.detector, (channel_field h.channel, tt)))))

pub link_fields : (nodes : ℕ) (l : Link) → nodes ≤ 64 → InRange nodes l → AllByRecursion Field (link_values l)
link_fields nodes l few r = (decimal_field l.from (omega (arith, r.0.0)), (decimal_field l.to (omega (arith, r.0.1)), (decimal_field l.cost (omega (arith, r.1)), (decimal_field l.width (omega (arith, r.2.1)), tt))))

pub step_fields : (s : Step) → s.pick ≤ 65535 → AllByRecursion Field (step_values s)
step_fields s h = (action_field s.action, (decimal_field s.pick (omega arith), tt))
