-- The faults of a session file as they are printed: a number, a line and a field; and how each is told in words.
use Rattle.std.specs.Prelude.{ℕ, List, ◌++◌, codes, decimal}
use Rattle.mesh.specs.Checks.{link_fault_number, link_fault_text}
use Rattle.vocab.specs.declared.faults.LineFault.{LineFault}
use Rattle.vocab.specs.declared.faults.LineFault.TheVariants.{Layout, WrongNames, BadField, BadLink}
use Rattle.vocab.specs.declared.faults.ReadFault.{ReadFault}
use Rattle.vocab.specs.declared.faults.ReadFault.TheVariants.{TooLong, Line, Missing}
use Rattle.vocab.specs.declared.faults.ReadError.{ReadError}
use Rattle.vocab.specs.declared.faults.ReadError.TheVariants.{Fault, Memory}

-- a fault's number; its line, from 1 (0 where the whole file is refused); its field, from 1 (0 where no field is meant)
abbrev pub line_fault_number : LineFault → ℕ
line_fault_number Layout = 2
line_fault_number WrongNames = 3
line_fault_number (BadField i) = 4
line_fault_number (BadLink e) = link_fault_number e

abbrev pub line_fault_field : LineFault → ℕ
line_fault_field Layout = 0
line_fault_field WrongNames = 0
line_fault_field (BadField i) = i
line_fault_field (BadLink e) = 0

abbrev pub fault_number : ReadFault → ℕ
fault_number TooLong = 1
fault_number (Line k e) = line_fault_number e
fault_number (Missing k) = 8

abbrev pub fault_line : ReadFault → ℕ
fault_line TooLong = 0
fault_line (Line k e) = k
fault_line (Missing k) = k

abbrev pub fault_field : ReadFault → ℕ
fault_field TooLong = 0
fault_field (Line k e) = line_fault_field e
fault_field (Missing k) = 0

-- a fault told in words
abbrev pub line_fault_text : LineFault → List ℕ
line_fault_text Layout = codes "not as many fields as the table has columns"
line_fault_text WrongNames = codes "not the names of the table, each once"
line_fault_text (BadField i) = codes "field " ++ decimal i ++ codes " does not hold what its column takes"
line_fault_text (BadLink e) = link_fault_text e

abbrev pub read_fault_text : ReadFault → List ℕ
read_fault_text TooLong = codes "more than 65,536 bytes"
read_fault_text (Line k e) = codes "line " ++ decimal k ++ codes ": " ++ line_fault_text e
read_fault_text (Missing k) = codes "line " ++ decimal k ++ codes " is missing"

abbrev pub read_error_text : ReadError → List ℕ
read_error_text (Fault f) = read_fault_text f
read_error_text Memory = codes "out of memory"
