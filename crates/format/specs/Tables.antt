-- The three tables: how a row is written, and what a column takes.
use Rattle.std.specs.Prelude.{◌≡◌, ℕ, zero, suc, ◌-◌, List, [], ◌∷◌, decimal}
use Rattle.text.specs.Decimal.{Number}
use Rattle.vocab.specs.Words.{kind_word, detector_word, channel_word, action_word}
use Rattle.mesh.specs.declared.link.Link.{Link}
use Rattle.vocab.specs.declared.kinds.Kind.{Kind}
use Rattle.vocab.specs.declared.kinds.Detector.{Detector}
use Rattle.vocab.specs.declared.kinds.Channel.{Channel}
use Rattle.vocab.specs.declared.kinds.Action.{Action}
use Rattle.vocab.specs.declared.kinds.Setting.{Setting}
use Rattle.vocab.specs.declared.kinds.Step.{Step}

-- the columns of a row, in the standard order
abbrev pub setting_values : Setting → List (List ℕ)
setting_values h = decimal h.nodes ∷ decimal h.root ∷ kind_word h.kind ∷ detector_word h.detector ∷ channel_word h.channel ∷ []

abbrev pub link_values : Link → List (List ℕ)
link_values l = decimal l.from ∷ decimal l.to ∷ decimal l.cost ∷ decimal l.width ∷ []

abbrev pub step_values : Step → List (List ℕ)
step_values s = action_word s.action ∷ decimal s.pick ∷ []

-- what a text in a column may be, by itself
abbrev pub setting_takes : ℕ → List ℕ → Type 0
setting_takes zero t = Number 1 64 t
setting_takes (suc zero) t = Number 0 63 t
setting_takes (suc (suc zero)) t = (w : Kind) × (t ≡ kind_word w)
setting_takes (suc (suc (suc zero))) t = (w : Detector) × (t ≡ detector_word w)
setting_takes (suc (suc (suc (suc zero)))) t = (w : Channel) × (t ≡ channel_word w)
setting_takes (suc (suc (suc (suc (suc k))))) t = ⊥

abbrev pub link_takes : ℕ → ℕ → List ℕ → Type 0
link_takes nodes zero t = Number 0 (nodes - 1) t
link_takes nodes (suc zero) t = Number 0 (nodes - 1) t
link_takes nodes (suc (suc zero)) t = Number 0 65535 t
link_takes nodes (suc (suc (suc zero))) t = Number 1 65535 t
link_takes nodes (suc (suc (suc (suc k)))) t = ⊥

abbrev pub step_takes : ℕ → List ℕ → Type 0
step_takes zero t = (w : Action) × (t ≡ action_word w)
step_takes (suc zero) t = Number 0 65535 t
step_takes (suc (suc k)) t = ⊥
