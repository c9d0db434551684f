-- What the stages of the reader do, whatever stands before the part that each of them reads: a stage sees only what is
-- left of the file, so it speaks of every file that comes to its place with that rest.
use Rattle.std.specs.Prelude.{◌≡◌, ℕ, ◌+◌, ◌<◌, false, ◌⊎◌, List, [], ◌∷◌, ◌++◌, length, Ok, Err, Result}
use Rattle.std.specs.Borrow.{Bor}
use Rattle.fault.specs.Checks.{Fails}
use Rattle.text.specs.Lines.{Fields}
use Rattle.text.specs.declared.line.Line.{Line as FieldLine}
use Rattle.mesh.specs.declared.link.Link.{Link}
use Rattle.vocab.specs.declared.kinds.Table.{Table}
use Rattle.vocab.specs.declared.kinds.Setting.{Setting}
use Rattle.vocab.specs.declared.kinds.Step.{Step}
use Rattle.vocab.specs.declared.faults.LineFault.{LineFault}
use Rattle.vocab.specs.declared.faults.LineFault.TheVariants.{Layout}
use Rattle.vocab.specs.declared.faults.ReadFault.{ReadFault}
use Rattle.vocab.specs.declared.faults.ReadFault.TheVariants.{Line, Missing}
use Rattle.vocab.specs.Words.{names}
use Rattle.format.specs.Verdict.{Place, UpTo, Refuses, MayEnd, line_number, line_checks, names_checks, digit_first, at_links, at_steps}

-- the next line, of number k, and what follows it
abbrev pub NextLine : ℕ → List ℕ → Result (FieldLine × Bor (List ℕ)) ReadFault → Type 0
NextLine k rest (Ok p) = rest ≡ p.0.text.now ++ 10 ∷ p.1.now
NextLine k rest (Err f) =
    ((rest ≡ []) × (f ≡ Missing k))
    ⊎ ((0 < length rest) × ((line after : List ℕ) (fs : List (List ℕ)) → rest ≡ line ++ 10 ∷ after → Fields line fs → ⊥) × (f ≡ Line k Layout))

-- the line at a place is the line of a table's names, and its number is k
abbrev pub NamesAt : ℕ → Table → Place → Type 0
NamesAt k t p = (k ≡ line_number p) × (MayEnd p → ⊥) × ((line : List ℕ) (e : LineFault) → Fails (names_checks (names t) line) e → Fails (line_checks p line) e)

-- a table's names are refused, at any place where they come with the number k
abbrev pub NamesRefused : ℕ → Table → List ℕ → ReadFault → Type 0
NamesRefused k t rest f = (bytes : List ℕ) (p : Place) → NamesAt k t p → UpTo bytes p rest → Refuses bytes f

-- the links, in the order p, and the line that follows them, which is no link line
pub record LinksRead (p : List ℕ) (nodes : ℕ) (rest : List ℕ) (ls : List Link) (line after : List ℕ) : Type 0 where
  pub is : (bytes o : List ℕ) (h : Setting) → h.nodes ≡ nodes → UpTo bytes (at_links o h p []) rest → UpTo bytes (at_links o h p ls) (line ++ 10 ∷ after)
  pub ends : digit_first line ≡ false

abbrev pub LinksRefused : List ℕ → ℕ → List ℕ → ReadFault → Type 0
LinksRefused p nodes rest f = (bytes o : List ℕ) (h : Setting) → h.nodes ≡ nodes → UpTo bytes (at_links o h p []) rest → Refuses bytes f

-- the steps, in the order q, up to the end
abbrev pub StepsRead : List ℕ → List ℕ → List Step → Type 0
StepsRead q rest ss = (bytes o : List ℕ) (h : Setting) (p : List ℕ) (ls : List Link) → UpTo bytes (at_steps o h p ls q []) rest → UpTo bytes (at_steps o h p ls q ss) []

abbrev pub StepsRefused : List ℕ → ℕ → List ℕ → ReadFault → Type 0
StepsRefused q first rest f = (bytes o : List ℕ) (h : Setting) (p : List ℕ) (ls : List Link) → first ≡ 5 + length ls → UpTo bytes (at_steps o h p ls q []) rest → Refuses bytes f
