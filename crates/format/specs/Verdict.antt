-- Which files are accepted, with which content, and which fault any other has.
--
-- A file is read line by line. A place says what has been read before a line; each line has its checks, in their
-- order; the first check that fails is the file's fault.
use Rattle.std.specs.Prelude.{◌≡◌, ℕ, ◌+◌, ◌<◌, ◌≤◌, Bool, false, cond, ◌&&◌, ◌⊎◌, List, [], ◌∷◌, ◌++◌, length, ◌==◌, nat_le}
use Rattle.std.specs.List.{position_or_len}
use Rattle.fault.specs.Checks.{Check, check, Fails}
use Rattle.text.specs.Lines.{HasFields, Unbroken, spaced}
use Rattle.mesh.specs.declared.link.Link.{Link}
use Rattle.mesh.specs.declared.link.LinkFault.TheVariants.{TooMany, SameEnds, PairRepeated}
use Rattle.mesh.specs.Rules.{InRange, EndsDiffer, Joins}
use Rattle.vocab.specs.declared.kinds.Table.TheVariants.{Settings, Links, Steps}
use Rattle.vocab.specs.declared.kinds.Setting.{Setting}
use Rattle.vocab.specs.declared.kinds.Step.{Step}
use Rattle.vocab.specs.declared.faults.LineFault.{LineFault}
use Rattle.vocab.specs.declared.faults.LineFault.TheVariants.{Layout, WrongNames, BadField, BadLink}
use Rattle.vocab.specs.declared.faults.ReadFault.{ReadFault}
use Rattle.vocab.specs.declared.faults.ReadFault.TheVariants.{TooLong, Line, Missing}
use Rattle.format.specs.Columns.{Order, arranged, row, FieldTakes}
use Rattle.format.specs.Tables.{setting_values, link_values, setting_takes, link_takes, step_takes}
use Rattle.vocab.specs.Words.{names}
use Rattle.format.specs.Content.{Content, Kept, SettingInRange, SettingKept, LinksKept, StepsKept, setting_text, links_text, steps_text, text}

-- the checks of a line of the names ws
abbrev pub names_checks : List (List ℕ) → List ℕ → List (Check LineFault)
names_checks ws line =
    check Layout (HasFields line (length ws))
    ∷ check WrongNames ((o : List ℕ) × Order (length ws) o × (line ≡ spaced (arranged o ws)))
    ∷ []

-- the checks of the fields of a line from field i on, which stand in the columns o
abbrev pub field_checks : (ℕ → List ℕ → Type 0) → List ℕ → ℕ → List ℕ → List (Check LineFault)
field_checks takes line i [] = []
field_checks takes line i (k ∷ o) = check (BadField (i + 1)) (FieldTakes takes line i k) ∷ field_checks takes line (i + 1) o

-- the place of k in o, from 0; the length of o where k is not in it
abbrev pub place_of : ℕ → List ℕ → ℕ
place_of k o = position_or_len (λ j. j == k) o

-- the line of the settings, with its columns in the order o, writes h
pub record SettingLine (o line : List ℕ) (h : Setting) : Type 0 where
  pub is : line ≡ spaced (arranged o (setting_values h))
  pub range : SettingInRange h

-- the checks of the line of the settings: the root's column is number 1. A line writes one row at most, so `some
-- settings that the line writes` are the settings that it writes; the same of links below.
abbrev pub setting_checks : List ℕ → List ℕ → List (Check LineFault)
setting_checks o line =
    check Layout (HasFields line 5)
    ∷ (field_checks setting_takes line 0 o
    ++ check (BadField (place_of 1 o + 1)) ((h : Setting) × SettingLine o line h × (h.root < h.nodes))
    ∷ [])

-- a link line, with its columns in the order o, writes l
pub record LinkLine (o : List ℕ) (nodes : ℕ) (line : List ℕ) (l : Link) : Type 0 where
  pub is : line ≡ spaced (arranged o (link_values l))
  pub range : InRange nodes l

-- the checks of a link line after the links ls
abbrev pub link_line_checks : List ℕ → ℕ → List Link → List ℕ → List (Check LineFault)
link_line_checks o nodes ls line =
    check Layout (HasFields line 4)
    ∷ check (BadLink TooMany) (length ls < 512)
    ∷ (field_checks (link_takes nodes) line 0 o
    ++ check (BadLink SameEnds) ((l : Link) × LinkLine o nodes line l × EndsDiffer l)
    ∷ check (BadLink PairRepeated) ((l : Link) × LinkLine o nodes line l × (Joins ls l.from l.to → ⊥))
    ∷ [])

abbrev pub step_checks : List ℕ → List ℕ → List (Check LineFault)
step_checks o line = check Layout (HasFields line 2) ∷ field_checks step_takes line 0 o

-- the first byte is a digit
abbrev pub digit_first : List ℕ → Bool
digit_first [] = false
digit_first (b ∷ t) = nat_le 48 b && nat_le b 57

-- A place before a line, with what was read so far: of the first table the order of its columns and the settings, of
-- the second the order of its columns and the links, of the third the order of its columns and the steps.
pub data Place : Type 0 where
  at_setting_names : Place
  at_setting : List ℕ → Place
  at_link_names : List ℕ → Setting → Place
  at_links : List ℕ → Setting → List ℕ → List Link → Place
  at_steps : List ℕ → Setting → List ℕ → List Link → List ℕ → List Step → Place

-- the text that stands before a place
abbrev pub before : Place → List ℕ
before at_setting_names = []
before (at_setting o) = row o (names Settings)
before (at_link_names o h) = setting_text o h
before (at_links o h p ls) = setting_text o h ++ links_text p ls
before (at_steps o h p ls q ss) = (setting_text o h ++ links_text p ls) ++ steps_text q ss

-- what stands before a place keeps the rules
abbrev pub Sound : Place → Type 0
Sound at_setting_names = Unit {0}
Sound (at_setting o) = Order 5 o
Sound (at_link_names o h) = Order 5 o × SettingKept h
Sound (at_links o h p ls) = Order 5 o × SettingKept h × Order 4 p × LinksKept h.nodes ls
Sound (at_steps o h p ls q ss) = Order 5 o × SettingKept h × Order 4 p × LinksKept h.nodes ls × Order 2 q × StepsKept ss

-- the number of the line at a place
abbrev pub line_number : Place → ℕ
line_number at_setting_names = 1
line_number (at_setting o) = 2
line_number (at_link_names o h) = 3
line_number (at_links o h p ls) = 4 + length ls
line_number (at_steps o h p ls q ss) = 5 + length ls + length ss

-- the checks of a line at a place; in the table of links the first byte decides between a link and the next names
abbrev pub line_checks : Place → List ℕ → List (Check LineFault)
line_checks at_setting_names line = names_checks (names Settings) line
line_checks (at_setting o) line = setting_checks o line
line_checks (at_link_names o h) line = names_checks (names Links) line
line_checks (at_links o h p ls) line = cond (digit_first line) (link_line_checks p h.nodes ls line) (names_checks (names Steps) line)
line_checks (at_steps o h p ls q ss) line = step_checks q line

-- a file may end at a place
abbrev pub MayEnd : Place → Type 0
MayEnd at_setting_names = ⊥
MayEnd (at_setting o) = ⊥
MayEnd (at_link_names o h) = ⊥
MayEnd (at_links o h p ls) = ⊥
MayEnd (at_steps o h p ls q ss) = Unit {0}

-- the bytes are in order up to a place, and rest is left
pub record UpTo (bytes : List ℕ) (p : Place) (rest : List ℕ) : Type 0 where
  pub short : length bytes ≤ 65536
  pub sound : Sound p
  pub is : bytes ≡ before p ++ rest

-- what is left at a place is refused: nothing is left where a line must come, or the next line has no line feed, or
-- one of its checks fails
abbrev pub RefusedAt : Place → List ℕ → ReadFault → Type 0
RefusedAt p rest f =
    ((rest ≡ []) × (MayEnd p → ⊥) × (f ≡ Missing (line_number p)))
    ⊎ (((0 < length rest) × Unbroken rest × (f ≡ Line (line_number p) Layout))
    ⊎ ((line : List ℕ) × (after : List ℕ) × (e : LineFault) × (rest ≡ line ++ 10 ∷ after) × Unbroken line × Fails (line_checks p line) e × (f ≡ Line (line_number p) e)))

-- the bytes are the writing of a content that keeps the rules, in some order of each table's columns
abbrev pub Accepts : List ℕ → Content → Type 0
Accepts bytes c =
    (o : List ℕ) × (p : List ℕ) × (q : List ℕ)
    × (length bytes ≤ 65536) × Order 5 o × Order 4 p × Order 2 q × Kept c × (bytes ≡ text o p q c)

-- the bytes are refused with the fault f
abbrev pub Refuses : List ℕ → ReadFault → Type 0
Refuses bytes f =
    ((65536 < length bytes) × (f ≡ TooLong))
    ⊎ ((p : Place) × (rest : List ℕ) × UpTo bytes p rest × RefusedAt p rest f)

-- a file's judgement
pub data Judgement : Type 0 where
  accepted : Content → Judgement
  refused : ReadFault → Judgement

abbrev pub Judges : List ℕ → Judgement → Type 0
Judges bytes (accepted c) = Accepts bytes c
Judges bytes (refused f) = Refuses bytes f

-- the bytes have this judgement and no other
pub record Judged (bytes : List ℕ) (j : Judgement) : Type 0 where
  pub is : Judges bytes j
  pub only : (k : Judgement) → Judges bytes k → k ≡ j
