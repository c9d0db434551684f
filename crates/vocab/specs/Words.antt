-- The words of a session file.
use Rattle.std.specs.Prelude.{ℕ, List, [], ◌∷◌, codes}
use Rattle.vocab.specs.declared.kinds.Table.{Table}
use Rattle.vocab.specs.declared.kinds.Table.TheVariants.{Settings, Links, Steps}
use Rattle.vocab.specs.declared.kinds.Kind.{Kind}
use Rattle.vocab.specs.declared.kinds.Kind.TheVariants.{Cost, Width}
use Rattle.vocab.specs.declared.kinds.Detector.{Detector}
use Rattle.vocab.specs.declared.kinds.Detector.TheVariants.{Tree, Credit}
use Rattle.vocab.specs.declared.kinds.Channel.{Channel}
use Rattle.vocab.specs.declared.kinds.Channel.TheVariants.{Queue, Stack, Picked}
use Rattle.vocab.specs.declared.kinds.Action.{Action}
use Rattle.vocab.specs.declared.kinds.Action.TheVariants.{Deliver, Work, Control}

-- the names of a table's columns, in the standard order
abbrev pub names : Table → List (List ℕ)
names Settings = codes "nodes" ∷ codes "root" ∷ codes "kind" ∷ codes "detector" ∷ codes "channel" ∷ []
names Links = codes "from" ∷ codes "to" ∷ codes "cost" ∷ codes "width" ∷ []
names Steps = codes "step" ∷ codes "pick" ∷ []

-- the words
abbrev pub kind_word : Kind → List ℕ
kind_word Cost = codes "cost"
kind_word Width = codes "width"

abbrev pub detector_word : Detector → List ℕ
detector_word Tree = codes "tree"
detector_word Credit = codes "credit"

abbrev pub channel_word : Channel → List ℕ
channel_word Queue = codes "queue"
channel_word Stack = codes "stack"
channel_word Picked = codes "picked"

abbrev pub action_word : Action → List ℕ
action_word Deliver = codes "deliver"
action_word Work = codes "work"
action_word Control = codes "control"
