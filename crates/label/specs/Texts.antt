-- The texts of labels.
use Rattle.std.specs.Prelude.{ℕ, List, Option, Some, None, codes, decimal}

-- a decimal number, or a minus sign for none
abbrev pub value_text : Option ℕ → List ℕ
value_text (Some n) = decimal n
value_text None = codes "-"
