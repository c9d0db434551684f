-- A fault that is handed on, with the place where it arose.
use Rattle.std.specs.Prelude.{ℕ, Ok, Err, Result}
use Rattle.text.specs.declared.number.FieldFault.{FieldFault}
use Rattle.vocab.specs.declared.faults.LineFault.{LineFault}
use Rattle.vocab.specs.declared.faults.LineFault.TheVariants.{BadField}
use Rattle.vocab.specs.declared.faults.ReadFault.{ReadFault}
use Rattle.vocab.specs.declared.faults.ReadFault.TheVariants.{Line}

-- a field's fault, with the field's number
abbrev pub placed_field : {T : Type 0} → ℕ → Result T FieldFault → Result T LineFault
placed_field i (Ok x) = Ok x
placed_field i (Err e) = Err (BadField i)

-- a line's fault, with the line's number
abbrev pub placed_line : {T : Type 0} → ℕ → Result T LineFault → Result T ReadFault
placed_line k (Ok x) = Ok x
placed_line k (Err e) = Err (Line k e)
