-- A row that keeps its ranges passes the checks of its fields; and what a line begins with.
use Rattle.std.proofs.Common.{◌≡◌, ℕ, zero, suc, ◌+◌, ◌^◌, ◌<◌, ◌≤◌, true, false, ◌&&◌, leb, List, [], ◌∷◌, ◌++◌, length, get_or, decimal, sym, refl, ◌∙◌, subst, arith}
use Rattle.std.specs.List.{AllByRecursion}
use Rattle.std.proofs.lemmas.Fmt.{digits_decimal, decimal_nonempty}
use Rattle.std.proofs.lemmas.List.Elements.{All-from_recursion}
use Rattle.std.proofs.lemmas.List.{get_or-map}
use Rattle.std.proofs.lemmas.Str.Parse.{digit_at}
use Rattle.std.proofs.lemmas.Bool.{le-leb, and_from}
use Rattle.fault.specs.Checks.{Passes}
use Rattle.text.specs.Lines.{Field, spaced}
use Rattle.text.proofs.Digits.{own}
use Rattle.mesh.specs.declared.link.Link.{Link}
use Rattle.mesh.specs.Rules.{InRange}
use Rattle.vocab.specs.declared.kinds.Table.TheVariants.{Steps}
use Rattle.vocab.specs.declared.kinds.Setting.{Setting}
use Rattle.vocab.specs.declared.kinds.Step.{Step}
use Rattle.format.specs.Columns.{Order, arranged}
use Rattle.format.specs.Tables.{setting_values, link_values, step_values, setting_takes, link_takes, step_takes}
use Rattle.vocab.specs.Words.{names}
use Rattle.format.specs.Content.{SettingInRange}
use Rattle.format.specs.Verdict.{field_checks, digit_first}
use Rattle.format.proofs.Fills.{fields_pass}
use Rattle.format.proofs.Orders.{cut_of}

-- Each column of a row holds what it takes, so each field of its line does.
pub row_passes : (takes : ℕ → List ℕ → Type 0) (o : List ℕ) (xs : List (List ℕ)) (line : List ℕ) → Order (length xs) o → 0 < length xs → AllByRecursion Field xs → ((k : ℕ) → k < length xs → takes k (get_or xs k [])) → line ≡ spaced (arranged o xs) → Passes (field_checks takes line 0 o)
row_passes takes o xs line q some w holds e =
    let c = cut_of o xs line q some w e in
    fields_pass takes line (arranged o xs) c.0 o 0 (λ j l.
    let z : j ≡ 0 + j = omega arith in
    let at = get_or-map (λ k. get_or xs k []) o j 0 [] l in
    subst (λ a. takes (get_or o j 0) (get_or (arranged o xs) a [])) z (subst (takes (get_or o j 0)) (sym at) (holds (get_or o j 0) (All-from_recursion (λ y. y < length xs) o q.below j 0 l))))

pub setting_holds : (h : Setting) → SettingInRange h → (k : ℕ) → k < 5 → setting_takes k (get_or (setting_values h) k [])
setting_holds h r zero l = (h.nodes, record { is = refl; least = r.some; most = r.few })
setting_holds h r (suc zero) l = (h.root, record { is = refl; least = omega arith; most = r.small })
setting_holds h r (suc (suc zero)) l = (h.kind, refl)
setting_holds h r (suc (suc (suc zero))) l = (h.detector, refl)
setting_holds h r (suc (suc (suc (suc zero)))) l = (h.channel, refl)
setting_holds h r (suc (suc (suc (suc (suc k))))) l = absurd (omega arith)

pub link_holds : (nodes : ℕ) (l : Link) → InRange nodes l → (k : ℕ) → k < 4 → link_takes nodes k (get_or (link_values l) k [])
link_holds nodes l r zero h = (l.from, record { is = refl; least = omega arith; most = omega (arith, r.0.0) })
link_holds nodes l r (suc zero) h = (l.to, record { is = refl; least = omega arith; most = omega (arith, r.0.1) })
link_holds nodes l r (suc (suc zero)) h = (l.cost, record { is = refl; least = omega arith; most = r.1 })
link_holds nodes l r (suc (suc (suc zero))) h = (l.width, record { is = refl; least = r.2.0; most = r.2.1 })
link_holds nodes l r (suc (suc (suc (suc k)))) h = absurd (omega arith)

pub step_holds : (s : Step) → s.pick ≤ 65535 → (k : ℕ) → k < 2 → step_takes k (get_or (step_values s) k [])
step_holds s p zero l = (s.action, refl)
step_holds s p (suc zero) l = (s.pick, record { is = refl; least = omega arith; most = p })
step_holds s p (suc (suc k)) l = absurd (omega arith)

-- a line begins as its first field does
first_append : (f t : List ℕ) → 0 < length f → digit_first (f ++ t) ≡ digit_first f
first_append [] t h = absurd (omega arith)
first_append (b ∷ f) t h = refl

first_spaced : (f : List ℕ) (fs : List (List ℕ)) → 0 < length f → digit_first (spaced (f ∷ fs)) ≡ digit_first f
first_spaced f [] h = refl
first_spaced f (g ∷ fs) h = first_append f (32 ∷ spaced (g ∷ fs)) h

by_first_byte : (t : List ℕ) → 0 < length t → digit_first t ≡ (leb 48 (get_or t 0 0) && leb (get_or t 0 0) 57)
by_first_byte [] h = absurd (omega arith)
by_first_byte (b ∷ t) h = refl

decimal_first : (n : ℕ) → n < 2 ^ 64 → digit_first (decimal n) ≡ true
decimal_first n h =
    let some = decimal_nonempty n h in
    let d = digit_at (decimal n) 0 (digits_decimal own n h) some in
    by_first_byte (decimal n) some ∙ and_from (leb 48 (get_or (decimal n) 0 0)) (leb (get_or (decimal n) 0 0) 57) (le-leb 48 (get_or (decimal n) 0 0) d.0) (le-leb (get_or (decimal n) 0 0) 57 d.1)

link_column : (nodes : ℕ) (l : Link) → nodes ≤ 64 → InRange nodes l → (k : ℕ) → k < 4 → (0 < length (get_or (link_values l) k [])) × (digit_first (get_or (link_values l) k []) ≡ true)
link_column nodes l few r zero h = (decimal_nonempty l.from (omega (arith, r.0.0)), decimal_first l.from (omega (arith, r.0.0)))
link_column nodes l few r (suc zero) h = (decimal_nonempty l.to (omega (arith, r.0.1)), decimal_first l.to (omega (arith, r.0.1)))
link_column nodes l few r (suc (suc zero)) h = (decimal_nonempty l.cost (omega (arith, r.1)), decimal_first l.cost (omega (arith, r.1)))
link_column nodes l few r (suc (suc (suc zero))) h = (decimal_nonempty l.width (omega (arith, r.2.1)), decimal_first l.width (omega (arith, r.2.1)))
link_column nodes l few r (suc (suc (suc (suc k)))) h = absurd (omega arith)

-- a link line begins with a digit
pub link_first : (p : List ℕ) (nodes : ℕ) (l : Link) → Order 4 p → nodes ≤ 64 → InRange nodes l → digit_first (spaced (arranged p (link_values l))) ≡ true
link_first [] nodes l q few r = absurd (omega (arith, q.long))
link_first (k ∷ p) nodes l q few r =
    let c = link_column nodes l few r k q.below.0 in
    first_spaced (get_or (link_values l) k []) (arranged p (link_values l)) c.0 ∙ c.1

step_name : (k : ℕ) → k < 2 → (0 < length (get_or (names Steps) k [])) × (digit_first (get_or (names Steps) k []) ≡ false)
step_name zero h = (omega arith, refl)
step_name (suc zero) h = (omega arith, refl)
step_name (suc (suc k)) h = absurd (omega arith)

-- the names of the steps begin with a letter
pub names_first : (q : List ℕ) → Order 2 q → digit_first (spaced (arranged q (names Steps))) ≡ false
names_first [] r = absurd (omega (arith, r.long))
names_first (k ∷ q) r =
    let c = step_name k r.below.0 in
    first_spaced (get_or (names Steps) k []) (arranged q (names Steps)) c.0 ∙ c.1
