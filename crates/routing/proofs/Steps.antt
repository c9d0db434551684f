-- Every reached state keeps the invariants.
use Rattle.std.proofs.Common.{List, [], ◌∷◌}
use Rattle.label.specs.Kinds.{Kind, Lawful}
use Rattle.label.specs.Paths.{Graph}
use Rattle.routing.specs.States.{State}
use Rattle.routing.specs.Protocol.{Event, adopts, declines, sends, idles, stays, Makes, Reached}
use Rattle.routing.proofs.Accepted.{Accepted}
use Rattle.routing.proofs.Invariant.{Invariants}
use Rattle.routing.proofs.Opening.{opened_keeps}
use Rattle.routing.proofs.Adopting.{adopted_keeps}
use Rattle.routing.proofs.Keeping.{declined_keeps, stayed_keeps}
use Rattle.routing.proofs.Working.{sent_keeps, idled_keeps}

module _ {L : Type 0} (κ : Kind L) (g : Graph) (laws : Lawful κ) (ok : Accepted g) where
  step_keeps : (s : State L) (e : Event L) (t : State L) → Makes κ g s e t → Invariants κ g s → Invariants κ g t
  step_keeps s (adopts k l) t p i = adopted_keeps κ g laws ok k l s t p i
  step_keeps s (declines k l) t p i = declined_keeps κ g laws k l s t p i
  step_keeps s (sends v k l) t p i = sent_keeps κ g laws ok v k l s t p i
  step_keeps s (idles v) t p i = idled_keeps κ g laws v s t p i
  step_keeps s stays t p i = stayed_keeps κ g laws s t p i

  -- By induction over the events: an opened state keeps them, and each step does.
  pub reached_keeps : (es : List (Event L)) (s : State L) → Reached κ g es s → Invariants κ g s
  reached_keeps [] s o = opened_keeps κ g laws ok s o
  reached_keeps (e ∷ es) t (s, r, p) = step_keeps s e t p (reached_keeps es s r)
