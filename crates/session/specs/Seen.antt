-- The judgement that the reader's answer gives.
use Rattle.std.specs.Prelude.{ℕ, List, Ok, Err, vec_items, Result}
use Rattle.session.specs.declared.session.Session.{Session}
use Rattle.vocab.specs.declared.faults.ReadFault.{ReadFault}
use Rattle.vocab.specs.declared.faults.ReadError.{ReadError}
use Rattle.vocab.specs.declared.faults.ReadError.TheVariants.{Fault, Memory}
use Rattle.format.specs.Content.{Content}
use Rattle.format.specs.Verdict.{Judgement, accepted, refused, Judged}

-- what a session holds
abbrev pub content : Session → Content
content s = record {
  setting = record { nodes = s.mesh.nodes; root = s.mesh.root; kind = s.kind; detector = s.detector; channel = s.channel };
  links = vec_items s.mesh.links;
  steps = vec_items s.steps;
}

abbrev pub judgement : Result Session ReadFault → Judgement
judgement (Ok s) = accepted (content s)
judgement (Err f) = refused f

-- an answer of the reader that reserves its own memory is the file's judgement, unless memory was wanting
abbrev pub Answers : List ℕ → Result Session ReadError → Type 0
Answers bytes (Ok s) = Judged bytes (accepted (content s))
Answers bytes (Err (Fault f)) = Judged bytes (refused f)
Answers bytes (Err Memory) = Unit {0}
