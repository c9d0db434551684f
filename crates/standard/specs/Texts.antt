-- The texts of lines.
use Rattle.std.specs.Prelude.{ℕ, List, [], ◌∷◌, ◌++◌, decimal}
use Rattle.text.specs.Lines.{spaced}
use Rattle.standard.specs.declared.put.Value.{Value}
use Rattle.standard.specs.declared.put.Value.TheVariants.{Number, Word}

-- a line: its fields, parted by one space, and the line feed
abbrev pub line : List (List ℕ) → List ℕ
line fields = spaced fields ++ 10 ∷ []

-- a number in decimal, or a word
abbrev pub value_text : Value → List ℕ
value_text (Number n) = decimal n
value_text (Word w) = w.now
