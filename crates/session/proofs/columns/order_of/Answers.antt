use Rattle.std.proofs.Common.{◌≡◌, None, Some, Option, ok_or, Err, Result, ℕ, ◌+◌, ◌<◌, eqb, List, [], length, get_or, drop, sym, refl, ◌∙◌, subst, arith}
use Rattle.std.proofs.lemmas.List.Elements.{contains_decides, Contains-from_at, at_from_Contains}
use Rattle.std.proofs.lemmas.List.{length-map, length-set, take_more_set}
use Rattle.std.proofs.lemmas.Bool.{both_ways}
use Rattle.std.proofs.lemmas.Bool.Decides.{Decides-eqb}
use Rattle.std.proofs.lemmas.Result.{err_from_is_err_and}
use Rattle.text.specs.Lines.{spaced}
use Rattle.text.specs.FieldsOnce.{fields_same}
use Rattle.vocab.specs.declared.faults.LineFault.{LineFault}
use Rattle.vocab.specs.declared.faults.LineFault.TheVariants.{WrongNames}
use Rattle.format.specs.Columns.{texts, Order, arranged}
use Rattle.format.specs.Filling.{Found}
use Rattle.format.proofs.Fills.{next_field}
use Rattle.format.proofs.Orders.{Sofar, NoOrder, unknown, again, one_more, cut_of}
use Rattle.session.proofs.columns.order_of.Given as given
use Rattle.session.proofs.columns.order_of.Goals as goal
use Rattle.session.proofs.columns.order_of.Goals.{After-find, After-loop-i}

-- as many words as columns, and as fields
many : (g : given.Over) (c : After-find g) → length (texts c.args.words.now) ≡ g.row.N
many g c = length-map c.args.words.now (λ x. x.now) ∙ c.requires.many

long : (g : given.Over) (c : After-find g) → length c.loop-i.invariant.1.0 ≡ length (texts c.args.words.now)
long g c = c.loop-i.invariant.1.1.1 ∙ sym (many g c)

within : (g : given.Over) (c : After-find g) → c.loop-i.i < length c.loop-i.invariant.1.0
within g c = omega (arith, c.loop-i.invariant.1.1.1, c.loop-i-test.true)

cut : (g : given.Over) (c : After-find g) → (c.first_field.result.0.now ≡ get_or c.loop-i.invariant.1.0 c.loop-i.i []) × (c.first_field.result.1.now ≡ spaced (drop (c.loop-i.i + 1) c.loop-i.invariant.1.0))
cut g c =
    let i = c.loop-i.invariant.1 in
    next_field c.args.line.now i.0 c.loop-i.i c.loop-i.rest.now c.first_field.result.0.now c.first_field.result.1.now i.1.0 (within g c) i.2 c.first_field.ensures

-- fields in no order of the words make a line in no order of them
no_line : (g : given.Over) (c : After-find g) → NoOrder (texts c.args.words.now) c.loop-i.invariant.1.0 → ((o : List ℕ) × Order g.row.N o × (c.args.line.now ≡ spaced (arranged o (texts c.args.words.now)))) → ⊥
no_line g c none (o, q, e) =
    let p = subst (λ n. Order n o) (sym (many g c)) q in
    none o p (fields_same c.args.line.now _ _ c.loop-i.invariant.1.1.0 (cut_of o _ _ p (omega (arith, many g c, c.requires.some)) c.requires.fields e).0)

-- `ok_or` answers its own error
refused_as : (o : Option ℕ) (f : LineFault) → ◌≡◌ {A = Result ℕ LineFault} (Err f) (ok_or o WrongNames) → o ≡ None → f ≡ WrongNames
refused_as None f is none = cc
refused_as (Some k) f is none = cc

pub returns-in_err-k : goal.returns-in_err-k
returns-in_err-k g c =
    let p = (goal.at.returns-in_err-k g c).After-find in
    let r = err_from_is_err_and c.from_residual.result c.from_residual.ensures.1 in
    let none : c.find.result ≡ None = c.in_err-k.ensures.ok_part in
    let unknown_word = subst (Found (texts c.args.words.now) c.first_field.result.0.now) none c.find.ensures in
    let wrong : c.in_err-k.field-0.0 ≡ WrongNames = refused_as _ _ c.in_err-k.ensures.value none in
    rw (r.1, r.2, wrong) (no_line g p (unknown _ _ _ _ c.requires.apart (long g p) (within g p) c.loop-i.invariant.1.3 (λ k l e. unknown_word k l (e ∙ sym (cut g p).0))), refl)

pub returns-then-contains : goal.returns-then-contains
returns-then-contains g c =
    let p = (goal.at.returns-then-contains g c).After-find in
    let h = subst (Found (texts c.args.words.now) c.first_field.result.0.now) c.in_ok-k.ensures.ok_part c.find.ensures in (
      no_line g p (again _ _ _ _ c.requires.apart (long g p) (within g p) c.loop-i.invariant.1.3 c.in_ok-k.k h.0 (h.1 ∙ (cut g p).0) (Contains-from_at _ _ ((contains_decides eqb Decides-eqb _ _ _ c.contains.ensures.cases).0 c.if-contains.true))),
      refl,
    )

pub loop-i-preserved : goal.loop-i-preserved
loop-i-preserved g c =
    let p = (goal.at.loop-i-preserved g c).After-find in
    let h = subst (Found (texts c.args.words.now) c.first_field.result.0.now) c.in_ok-k.ensures.ok_part c.find.ensures in
    let i = c.loop-i.invariant in
    let inside : c.loop-i.i < length c.loop-i.order = omega (arith, i.0, c.loop-i-test.true) in (
      length-set c.loop-i.order c.loop-i.i c.in_ok-k.k ∙ i.0,
      (
        i.1.0,
        i.1.1,
        (cut g p).1,
        subst (Sofar (texts c.args.words.now) i.1.0 (c.loop-i.i + 1)) (sym (take_more_set c.loop-i.order c.loop-i.i c.in_ok-k.k inside))
            (one_more _ _ _ _ c.requires.apart (long g p) (within g p) i.1.3 c.in_ok-k.k h.0 (h.1 ∙ (cut g p).0)
            (λ has. both_ways _ c.if-contains.false ((contains_decides eqb Decides-eqb _ _ _ c.contains.ensures.cases).1 (at_from_Contains _ _ has)))),
      ),
    )
