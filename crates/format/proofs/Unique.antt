-- A line writes one row.
use Rattle.std.proofs.Common.{◌≡◌, ℕ, ◌<◌, ◌≤◌, List, [], length, get_or, sym, refl, ap, ◌∙◌, subst, arith}
use Rattle.std.specs.List.{AllByRecursion}
use Rattle.std.proofs.lemmas.Fmt.{decimal_injective}
use Rattle.text.specs.Lines.{Field, spaced}
use Rattle.text.specs.FieldsOnce.{fields_same}
use Rattle.mesh.specs.declared.link.Link.{Link}
use Rattle.vocab.specs.declared.kinds.Kind.{Kind}
use Rattle.vocab.specs.declared.kinds.Kind.TheVariants.{Cost, Width}
use Rattle.vocab.specs.declared.kinds.Detector.{Detector}
use Rattle.vocab.specs.declared.kinds.Detector.TheVariants.{Tree, Credit}
use Rattle.vocab.specs.declared.kinds.Channel.{Channel}
use Rattle.vocab.specs.declared.kinds.Channel.TheVariants.{Queue, Stack, Picked}
use Rattle.vocab.specs.declared.kinds.Action.{Action}
use Rattle.vocab.specs.declared.kinds.Action.TheVariants.{Deliver, Work, Control}
use Rattle.vocab.specs.declared.kinds.Setting.{Setting}
use Rattle.vocab.specs.declared.kinds.Step.{Step}
use Rattle.format.specs.Columns.{Order, arranged}
use Rattle.format.specs.Tables.{setting_values, link_values, step_values}
use Rattle.vocab.specs.Words.{kind_word, detector_word, channel_word, action_word}
use Rattle.format.specs.Verdict.{SettingLine, LinkLine}
use Rattle.format.proofs.Orders.{cut_of, column}
use Rattle.format.proofs.Known.{setting_fields, link_fields, step_fields}

-- words with other first letters are other words
apart : {T : Type 0} (x y : ℕ) (s t : List ℕ) → get_or s 0 0 ≡ x → get_or t 0 0 ≡ y → (x ≡ y → ⊥) → s ≡ t → T
apart x y s t e f n h = absurd (n (sym e ∙ ap (λ l. get_or l 0 0) h ∙ f))

kind_same : (v w : Kind) → kind_word v ≡ kind_word w → v ≡ w
kind_same Cost Cost e = refl
kind_same Cost Width e = apart 99 119 (kind_word Cost) (kind_word Width) refl refl (λ z. omega arith) e
kind_same Width Cost e = apart 119 99 (kind_word Width) (kind_word Cost) refl refl (λ z. omega arith) e
kind_same Width Width e = refl

detector_same : (v w : Detector) → detector_word v ≡ detector_word w → v ≡ w
detector_same Tree Tree e = refl
detector_same Tree Credit e = apart 116 99 (detector_word Tree) (detector_word Credit) refl refl (λ z. omega arith) e
detector_same Credit Tree e = apart 99 116 (detector_word Credit) (detector_word Tree) refl refl (λ z. omega arith) e
detector_same Credit Credit e = refl

channel_same : (v w : Channel) → channel_word v ≡ channel_word w → v ≡ w
channel_same Queue Queue e = refl
channel_same Queue Stack e = apart 113 115 (channel_word Queue) (channel_word Stack) refl refl (λ z. omega arith) e
channel_same Queue Picked e = apart 113 112 (channel_word Queue) (channel_word Picked) refl refl (λ z. omega arith) e
channel_same Stack Queue e = apart 115 113 (channel_word Stack) (channel_word Queue) refl refl (λ z. omega arith) e
channel_same Stack Stack e = refl
channel_same Stack Picked e = apart 115 112 (channel_word Stack) (channel_word Picked) refl refl (λ z. omega arith) e
channel_same Picked Queue e = apart 112 113 (channel_word Picked) (channel_word Queue) refl refl (λ z. omega arith) e
channel_same Picked Stack e = apart 112 115 (channel_word Picked) (channel_word Stack) refl refl (λ z. omega arith) e
channel_same Picked Picked e = refl

action_same : (v w : Action) → action_word v ≡ action_word w → v ≡ w
action_same Deliver Deliver e = refl
action_same Deliver Work e = apart 100 119 (action_word Deliver) (action_word Work) refl refl (λ z. omega arith) e
action_same Deliver Control e = apart 100 99 (action_word Deliver) (action_word Control) refl refl (λ z. omega arith) e
action_same Work Deliver e = apart 119 100 (action_word Work) (action_word Deliver) refl refl (λ z. omega arith) e
action_same Work Work e = refl
action_same Work Control e = apart 119 99 (action_word Work) (action_word Control) refl refl (λ z. omega arith) e
action_same Control Deliver e = apart 99 100 (action_word Control) (action_word Deliver) refl refl (λ z. omega arith) e
action_same Control Work e = apart 99 119 (action_word Control) (action_word Work) refl refl (λ z. omega arith) e
action_same Control Control e = refl

-- Two rows that are written as one line, with the columns in one order, have the same text in each column: the line
-- has one cut into fields, and each column stands at one place of it.
pub columns_same : (o : List ℕ) (line : List ℕ) (xs ys : List (List ℕ)) → Order (length xs) o → length xs ≡ length ys → 0 < length xs → AllByRecursion Field xs → AllByRecursion Field ys → line ≡ spaced (arranged o xs) → line ≡ spaced (arranged o ys) → (k : ℕ) → k < length xs → get_or xs k [] ≡ get_or ys k []
columns_same o line xs ys q n some v w e f k l =
    let a = cut_of o xs line q some v e in
    let b = cut_of o ys line (subst (λ m. Order m o) n q) (subst (λ m. 0 < m) n some) w f in
    column (length xs) o q xs ys (fields_same line _ _ a.0 b.0) k l

pub setting_same : (o line : List ℕ) (h k : Setting) → Order 5 o → SettingLine o line h → SettingLine o line k → h ≡ k
setting_same o line h k q v w =
    let c = columns_same o line (setting_values h) (setting_values k) q refl (omega arith) (setting_fields h v.range) (setting_fields k w.range) v.is w.is in
    let e0 = decimal_injective h.nodes k.nodes (omega (arith, v.range.few)) (omega (arith, w.range.few)) (c 0 (omega arith)) in
    let e1 = decimal_injective h.root k.root (omega (arith, v.range.small)) (omega (arith, w.range.small)) (c 1 (omega arith)) in
    let e2 = kind_same h.kind k.kind (c 2 (omega arith)) in
    let e3 = detector_same h.detector k.detector (c 3 (omega arith)) in
    let e4 = channel_same h.channel k.channel (c 4 (omega arith)) in
    λ i. record { nodes = e0 i; root = e1 i; kind = e2 i; detector = e3 i; channel = e4 i }

pub link_same : (o : List ℕ) (nodes : ℕ) (line : List ℕ) (l m : Link) → Order 4 o → nodes ≤ 64 → LinkLine o nodes line l → LinkLine o nodes line m → l ≡ m
link_same o nodes line l m q few v w =
    let c = columns_same o line (link_values l) (link_values m) q refl (omega arith) (link_fields nodes l few v.range) (link_fields nodes m few w.range) v.is w.is in
    let a = v.range in
    let b = w.range in
    let e0 = decimal_injective l.from m.from (omega (arith, a.0.0)) (omega (arith, b.0.0)) (c 0 (omega arith)) in
    let e1 = decimal_injective l.to m.to (omega (arith, a.0.1)) (omega (arith, b.0.1)) (c 1 (omega arith)) in
    let e2 = decimal_injective l.cost m.cost (omega (arith, a.1)) (omega (arith, b.1)) (c 2 (omega arith)) in
    let e3 = decimal_injective l.width m.width (omega (arith, a.2.1)) (omega (arith, b.2.1)) (c 3 (omega arith)) in
    λ i. record { from = e0 i; to = e1 i; cost = e2 i; width = e3 i }

pub step_same : (o line : List ℕ) (s t : Step) → Order 2 o → s.pick ≤ 65535 → t.pick ≤ 65535 → line ≡ spaced (arranged o (step_values s)) → line ≡ spaced (arranged o (step_values t)) → s ≡ t
step_same o line s t q a b e f =
    let c = columns_same o line (step_values s) (step_values t) q refl (omega arith) (step_fields s a) (step_fields t b) e f in
    let e0 = action_same s.action t.action (c 0 (omega arith)) in
    let e1 = decimal_injective s.pick t.pick (omega arith) (omega arith) (c 1 (omega arith)) in
    λ i. record { action = e0 i; pick = e1 i }
