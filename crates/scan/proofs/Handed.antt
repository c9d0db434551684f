-- A fault that is handed on with the place where it arose.
use Rattle.std.proofs.Common.{◌≡◌, ℕ, Ok, Err, Result, subst, arith, MatchResult}
use Rattle.text.specs.declared.number.FieldFault.{FieldFault}
use Rattle.vocab.specs.declared.faults.LineFault.{LineFault}
use Rattle.vocab.specs.declared.faults.LineFault.TheVariants.{BadField}
use Rattle.vocab.specs.declared.faults.ReadFault.{ReadFault}
use Rattle.vocab.specs.declared.faults.ReadFault.TheVariants.{Line}
use Rattle.scan.specs.Placed.{placed_field, placed_line}

-- What a callee promised of its answer, at the answer with the place: accepted, or refused at that place.
pub field_ok : {T : Type 0} (i : ℕ) (r : Result T FieldFault) (a : Result T LineFault) (x : T) (P : T → Type 0) (Q : FieldFault → Type 0) → a ≡ placed_field i r → a ≡ Ok x → MatchResult r P Q → P x
field_ok i (Ok y) a x P Q e f h = let s : y ≡ x = cc in subst P s h
field_ok i (Err y) a x P Q e f h = let z : ◌≡◌ {A = ℕ} 0 1 = cc in absurd (omega arith)

pub field_err : {T : Type 0} (i : ℕ) (r : Result T FieldFault) (a : Result T LineFault) (y : LineFault) (P : T → Type 0) (Q : Type 0) → a ≡ placed_field i r → a ≡ Err y → MatchResult r P (λ _. Q) → Q × (y ≡ BadField i)
field_err i (Ok x) a y P Q e f h = let z : ◌≡◌ {A = ℕ} 0 1 = cc in absurd (omega arith)
field_err i (Err x) a y P Q e f h = (h, cc)

pub line_ok : {T : Type 0} (k : ℕ) (r : Result T LineFault) (a : Result T ReadFault) (x : T) (P : T → Type 0) (Q : LineFault → Type 0) → a ≡ placed_line k r → a ≡ Ok x → MatchResult r P Q → P x
line_ok k (Ok y) a x P Q e f h = let s : y ≡ x = cc in subst P s h
line_ok k (Err y) a x P Q e f h = let z : ◌≡◌ {A = ℕ} 0 1 = cc in absurd (omega arith)

pub line_err : {T : Type 0} (k : ℕ) (r : Result T LineFault) (a : Result T ReadFault) (y : ReadFault) (P : T → Type 0) (Q : LineFault → Type 0) → a ≡ placed_line k r → a ≡ Err y → MatchResult r P Q → (e : LineFault) × Q e × (y ≡ Line k e)
line_err k (Ok x) a y P Q e f h = let z : ◌≡◌ {A = ℕ} 0 1 = cc in absurd (omega arith)
line_err k (Err x) a y P Q e f h = (x, h, cc)
