use Rattle.std.proofs.Common.{◌≡◌, ◌-◌, ◌∷◌, ◌++◌, [], List, ℕ, length, take, drop, get_or, refl, sym, ap, ◌≤◌, ◌∙◌, subst, arith, ltb-false, ltb-true, true-eqb, append-nil}
use borrow.Author.Tests.{eqb-false}
use Rattle.std.proofs.lemmas.List.{length_push, length-append, nil_from_length}
use Rattle.std.proofs.lemmas.List.Elements.{recursion_from_All}
use Rattle.std.specs.List.{AllByRecursion}
use Rattle.text.specs.Lines.{Mark, Fields, Field}
use Rattle.text.proofs.Cuts.{Span, all_marks, whole, not_mark, headed, one_more, done, room, line_is, no_line, endless, other_stop}
use Rattle.text.proofs.cut.first_line.Goals as goal
use Rattle.text.proofs.cut.first_line.Goals.{After-split_at, Else-is_empty, In-10, in_default-via-then-after-lt1, in_default-via-else-after-lt1+in_default-1}

cut : (c : After-split_at) → Span c.loop-after.rest.now c.split_at.result.0.now c.split_at.result.1.now c.span.result
cut c = record {
  within = c.span.ensures.within;
  marks = recursion_from_All Mark _ c.span.ensures.marks;
  stops = c.span.ensures.stops;
  front = c.split_at.ensures.front;
  back = c.split_at.ensures.back;
}

-- the rest is a field and what follows it
parts : (c : After-split_at) → c.loop-after.rest.now ≡ c.split_at.result.0.now ++ c.split_at.result.1.now
parts c = whole _ _ _ _ (cut c)

-- the field, where it is not empty
field : (c : Else-is_empty) → Field c.split_at.result.0.now
field c =
    let a = (goal.at.overflow_add-fields c).After-split_at in
    let some : length c.split_at.result.0.now ≡ 0 → ⊥ = eqb-false _ _ (sym c.is_empty.ensures ∙ c.if-is_empty.false) in
    (omega (arith, some), all_marks _ _ _ _ (cut a))

-- A byte that follows the field, and what follows that byte.
after_is : (c : After-split_at) (b : ℕ) → 1 ≤ length c.split_at.result.1.now → get_or c.split_at.result.1.now 0 0 ≡ b → c.loop-after.rest.now ≡ c.split_at.result.0.now ++ (b ∷ take (length c.split_at.result.1.now - 1) (drop 1 c.split_at.result.1.now))
after_is c b some e = parts c ∙ ap (λ t. c.split_at.result.0.now ++ t) (headed _ b some e)

-- with no field in front the rest begins with no byte of a field
pub returns-then-is_empty : goal.returns-then-is_empty
returns-then-is_empty c line after fs e w =
    let a = (goal.at.returns-then-is_empty c).After-split_at in
    let none = nil_from_length c.split_at.result.0.now (true-eqb _ 0 (sym c.if-is_empty.true ∙ c.is_empty.ensures)) in
    let e' : c.loop-after.rest.now ≡ c.split_at.result.1.now = parts a ∙ ap (λ t. t ++ c.split_at.result.1.now) none in
    no_line _ (λ some m. not_mark _ _ _ _ (cut a) (omega (arith, ap length e')) (subst (λ t. Mark (get_or t 0 0)) e' m)) (c.loop-after.invariant.1.left (line, after, fs, e, w))

pub overflow_add-fields : goal.overflow_add-fields
overflow_add-fields c =
    let a = (goal.at.overflow_add-fields c).After-split_at in
    let i = c.loop-after.invariant in
    omega (arith, room _ _ _ i.1, i.2, ap length (parts a), length-append c.split_at.result.0.now c.split_at.result.1.now, (field c).0)

-- what follows the line feed
abbrev next : In-10 → List ℕ
next c = take (length c.split_at.result.1.now - 1) (drop 1 c.split_at.result.1.now)

-- what stands before it
abbrev front : In-10 → List ℕ
front c = take (length c.args.text.now - length c.split_at.result.1.now) c.args.text.now

ended : (c : In-10) → (c.args.text.now ≡ front c ++ 10 ∷ next c) × Fields (front c) (c.loop-after.invariant.0 ++ c.split_at.result.0.now ∷ [])
ended c =
    let a = (goal.at.invariant_of-result c).After-split_at in
    let b = (goal.at.invariant_of-result c).Else-is_empty in
    let i = c.loop-after.invariant in
    let d = done _ i.0 _ _ _ i.1 (field b) (after_is a 10 c.in-10.len_at_least (omega arith)) in
    let l = line_is _ i.0 _ _ _ i.1 (parts a) in
    (d.0 ∙ ap (λ t. t ++ 10 ∷ next c) (sym l), subst (λ t. Fields t (i.0 ++ c.split_at.result.0.now ∷ [])) (sym l) d.1)

pub invariant_of-result : goal.invariant_of-result
invariant_of-result c =
    let i = c.loop-after.invariant in
    record { cut = (_, ((ended c).1, omega (arith, length_push i.0 c.split_at.result.0.now, i.2))) }

pub returns-in-10 : goal.returns-in-10
returns-in-10 c = (ended (goal.at.returns-in-10 c).In-10).0

pub loop-after-preserved : goal.loop-after-preserved
loop-after-preserved c =
    let a = (goal.at.loop-after-preserved c).After-split_at in
    let b = (goal.at.loop-after-preserved c).Else-is_empty in
    let i = c.loop-after.invariant in
    (_, one_more _ i.0 _ _ _ i.1 (field b) (after_is a 32 c.in-32.len_at_least (omega arith)), omega (arith, length_push i.0 c.split_at.result.0.now, i.2))

pub returns-in_default : goal.returns-in_default
returns-in_default c line after fs e w =
    let a = (goal.at.returns-in_default c).After-split_at in
    let lined = c.loop-after.invariant.1.left (line, after, fs, e, w) in
    elim c.in_default.branch [
      | in_default-via-then-after-lt1 v ↦
          let none = nil_from_length c.split_at.result.1.now (omega (arith, ltb-true)) in
          endless _ (subst (λ t. AllByRecursion Mark t) (sym (parts a ∙ ap (λ t. c.split_at.result.0.now ++ t) none ∙ append-nil _)) (all_marks _ _ _ _ (cut a))) lined
      | in_default-via-else-after-lt1+in_default-1 v ↦
          let some : 1 ≤ length c.split_at.result.1.now = omega (arith, ltb-false) in
          other_stop _ _ _ _ (after_is a _ some refl) (all_marks _ _ _ _ (cut a)) (not_mark _ _ _ _ (cut a) some) (λ x. omega (arith, x)) (λ x. omega (arith, x)) lined
    ]
