-- The line of fields at the front of a text.
use Rattle.std.specs.Prelude.{◌≡◌, List, ◌∷◌, ◌++◌, Some, None, Option, ℕ}
use Rattle.std.specs.Borrow.{Bor}
use Rattle.text.specs.declared.line.Line.{Line}
use Rattle.text.specs.Lines.{Fields}

-- the text begins with a line of fields: the line and what follows its line feed; none where it does not
abbrev pub FirstLine : List ℕ → Option (Line × Bor (List ℕ)) → Type 0
FirstLine text (Some p) = text ≡ p.0.text.now ++ 10 ∷ p.1.now
FirstLine text None = (line after : List ℕ) (fs : List (List ℕ)) → text ≡ line ++ 10 ∷ after → Fields line fs → ⊥
