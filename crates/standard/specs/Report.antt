-- What is written of a session or of a fault.
use Rattle.std.specs.Prelude.{◌≡◌, ℕ, ◌<◌, ◌≤◌, List, [], ◌∷◌, ◌++◌, length, drop, Some, None, codes, decimal, Option}
use Rattle.fault.specs.Layers.{layer_word}
use Rattle.fault.specs.declared.Layer.TheVariants.{Reader}
use Rattle.vocab.specs.declared.faults.ReadFault.{ReadFault}
use Rattle.format.specs.Content.{standard}
use Rattle.format.specs.Verdict.{Judgement, accepted, refused, Judged}
use Rattle.vocab.specs.Faults.{fault_number, fault_line, fault_field}
use Rattle.standard.specs.Texts.{line}

-- a fault: a line of names, and its number, layer, line and field
abbrev pub fault_text : ReadFault → List ℕ
fault_text f =
    line (codes "fault" ∷ codes "layer" ∷ codes "line" ∷ codes "field" ∷ [])
    ++ line (decimal (fault_number f) ∷ layer_word Reader ∷ decimal (fault_line f) ∷ decimal (fault_field f) ∷ [])

-- a judgement: the session in the standard order, or the fault
abbrev pub report_text : Judgement → List ℕ
report_text (accepted c) = standard c
report_text (refused f) = fault_text f

-- The text stands at the front of an output, whose rest is as it was, and its length is answered; an output that is
-- too short stays as it was.
abbrev pub Written : List ℕ → List ℕ → List ℕ → Option ℕ → Type 0
Written t old new (Some n) = (n ≡ length t) × (n ≤ length old) × (new ≡ t ++ drop n old)
Written t old new None = (length old < length t) × (new ≡ old)

-- what is printed of a file that has these bytes
abbrev pub Reported : List ℕ → List ℕ → Type 0
Reported bytes printed = (j : Judgement) × Judged bytes j × (printed ≡ report_text j)
