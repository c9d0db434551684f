-- Three nodes under two rules of adoption: with the wrong one their parents form a cycle, with the right one all is well.
use Rattle.std.proofs.Common.{◌≡◌, ℕ, zero, suc, ◌<◌, get_or, true, false, ◌≢◌, List, [], ◌∷◌, None, refl, arith}
use Rattle.mesh.specs.declared.link.Link.{Link}
use Rattle.mesh.specs.Rules.{InRange, EndsDiffer, SamePair}
use Rattle.label.specs.declared.cost.Cost.{Cost}
use Rattle.label.specs.Costs.{cost_kind}
use Rattle.label.specs.Paths.{link_at}
use Rattle.routing.specs.States.{State, Opened}
use Rattle.routing.specs.Protocol.{Event, adopts, declines, sends, idles, Better, Trace}
use Rattle.routing.specs.Routes.{Parents}
use Rattle.routing.specs.Mistakes.{KeepsRules, AtLeastAsGood, three_nodes, CycleAfter, RestAfter}
use Rattle.routing.proofs.Made.{at_node, at_others, after_adopting, adopted, after_declining, declined, after_sending, sent, after_idling, idled}

-- The links in their order leave the nodes 0, 1 and 2.
leaving : (k : ℕ) (d : Link) → k < 3 → (get_or three_nodes.links k d).from ≡ k
leaving zero d h = refl
leaving (suc zero) d h = refl
leaving (suc (suc zero)) d h = refl
leaving (suc (suc (suc k))) d h = absurd (omega arith)

from_is : (k : ℕ) → k < 3 → (link_at three_nodes k).from ≡ k
from_is k h = leaving k _ h

-- The three links keep the rules of a mesh, each by itself and any two together.
ranged : (k : ℕ) (d : Link) → k < 3 → InRange 3 (get_or three_nodes.links k d)
ranged zero d h = ((omega arith, omega arith), omega arith, (omega arith, omega arith))
ranged (suc zero) d h = ((omega arith, omega arith), omega arith, (omega arith, omega arith))
ranged (suc (suc zero)) d h = ((omega arith, omega arith), omega arith, (omega arith, omega arith))
ranged (suc (suc (suc k))) d h = absurd (omega arith)

differing : (k : ℕ) (d : Link) → k < 3 → EndsDiffer (get_or three_nodes.links k d)
differing zero d h = λ e. omega (arith, e)
differing (suc zero) d h = λ e. omega (arith, e)
differing (suc (suc zero)) d h = λ e. omega (arith, e)
differing (suc (suc (suc k))) d h = absurd (omega arith)

-- no two links leave the same node
apart : (i j : ℕ) (d : Link) → ((i < j) × (j < 3) × SamePair (get_or three_nodes.links i d) (get_or three_nodes.links j d) → ⊥)
apart i j d p = omega (arith, p.0, p.1, leaving i d (omega (arith, p.0, p.1)), leaving j d p.1, p.2.0)

keeps_rules : KeepsRules three_nodes
keeps_rules = record { many = (omega arith, omega arith); rooted = omega arith; few = omega arith; ranges = ranged; ends = differing; once = apart }

abbrev opened : State Cost
opened = record {
  label = at_node 0 cost_kind.start (λ _. cost_kind.none);
  parent = λ _. None;
  next = at_node 0 0 (λ _. 3);
  active = at_node 0 true (λ _. false);
  waiting = [];
}

is_opened : Opened cost_kind three_nodes opened
is_opened = record {
  root_label = refl;
  root_next = omega arith;
  root_active = refl;
  label = λ v h n. at_others 0 _ (λ _. cost_kind.none) v n;
  next = λ v h n. at_others 0 _ (λ _. 3) v n;
  active = λ v h n. at_others 0 _ (λ _. false) v n;
  parent = λ v h. refl;
  waiting = refl;
}

-- what link k makes of the label at its from node
abbrev extended : ℕ → State Cost → Cost
extended k s = cost_kind.extend (s.label (link_at three_nodes k).from) (link_at three_nodes k)

-- nothing waits, and the from node of link k is active and has all its links still to send on
record Ready (k : ℕ) (s : State Cost) : Type 0 where
  real : k < 3
  empty : s.waiting ≡ []
  active : s.active (link_at three_nodes k).from ≡ true
  next : s.next (link_at three_nodes k).from ≡ 0

-- the node has sent on the only link that leaves it
record Spent (v : ℕ) (s : State Cost) : Type 0 where
  active : s.active v ≡ true
  next : v < s.next v

module _ (Wins : ℕ → ℕ → Type 0) where
  abbrev LeadsTo : List (Event Cost) → State Cost → Type 0
  LeadsTo = Trace Wins cost_kind three_nodes

  -- the label at link k's from node is on its way
  abbrev away : ℕ → State Cost → State Cost
  away k s = after_sending cost_kind three_nodes k (extended k s) s

  abbrev away_events : ℕ → State Cost → List (Event Cost) → List (Event Cost)
  away_events k s es = sends (link_at three_nodes k).from k (extended k s) ∷ es

  -- As the links leave different nodes, link k is the first that leaves its from node.
  goes : (k : ℕ) (s : State Cost) (es : List (Event Cost)) → Ready k s → LeadsTo es s → LeadsTo (away_events k s es) (away k s)
  goes k s es y r =
      let first : (j : ℕ) → j < k → (link_at three_nodes j).from ≢ (link_at three_nodes k).from = λ j i f. omega (arith, from_is j (omega (arith, y.real)), from_is k y.real) in
      (s, r, sent cost_kind three_nodes k (extended k s) s y.empty y.active (omega arith) y.real first refl)

  -- it is sent along link k and adopted
  abbrev hop : ℕ → State Cost → State Cost
  hop k s = after_adopting Wins cost_kind three_nodes k (extended k s) (away k s)

  abbrev hop_events : ℕ → State Cost → List (Event Cost) → List (Event Cost)
  hop_events k s es = adopts k (extended k s) ∷ away_events k s es

  hops : (k : ℕ) (s : State Cost) (es : List (Event Cost)) → Ready k s → Wins (cost_kind.rank (extended k s)) (cost_kind.rank (s.label (link_at three_nodes k).to)) → LeadsTo es s → LeadsTo (hop_events k s es) (hop k s)
  hops k s es y h r = (away k s, goes k s es y r, adopted Wins cost_kind three_nodes k (extended k s) (away k s) refl h)

  -- the node at v comes to rest
  abbrev rest : ℕ → State Cost → State Cost
  rest v s = after_idling three_nodes v s

  rests : (v : ℕ) (s : State Cost) (es : List (Event Cost)) → Spent v s → LeadsTo es s → LeadsTo (idles v ∷ es) (rest v s)
  rests v s es y r = (s, r, idled three_nodes v s y.active (λ j past real f. omega (arith, from_is j real)))

  -- node 1 adopts cost 1 from the root, and node 2 adopts it from node 1
  abbrev once : State Cost
  once = hop 0 opened

  abbrev twice : State Cost
  twice = hop 1 once

  abbrev twice_events : List (Event Cost)
  twice_events = hop_events 1 once (hop_events 0 opened [])

  twice_made : Wins 1 4294967295 → LeadsTo twice_events twice
  twice_made h =
      let first = hops 0 opened [] (record { real = omega arith; empty = refl; active = refl; next = refl }) h is_opened in
      hops 1 once (hop_events 0 opened []) (record { real = omega arith; empty = refl; active = refl; next = refl }) h first

  back_ready : Ready 2 twice
  back_ready = record { real = omega arith; empty = refl; active = refl; next = refl }

-- The wrong rule: node 1 adopts the same label again from node 2.
abbrev closed : State Cost
closed = hop AtLeastAsGood 2 (twice AtLeastAsGood)

-- A chain from 1 goes on from 2, and one from 2 goes on from 1; neither is the root, so none ends.
never : (ks : List ℕ) → (Parents three_nodes closed.parent ks 1 → ⊥) × (Parents three_nodes closed.parent ks 2 → ⊥)
never [] = (λ p. omega arith, λ p. omega arith)
never (k ∷ ks) =
    let rest = never ks in (
      λ p. let e : k ≡ 2 = cc p.0 in rest.1 (rw e at p.1),
      λ p. let e : k ≡ 1 = cc p.0 in rest.0 (rw e at p.1),
    )

pub cycle_after : (n : ℕ) → n ≡ 6 → CycleAfter n
cycle_after n e = record {
  accepted = keeps_rules;
  events = hop_events AtLeastAsGood 2 (twice AtLeastAsGood) (twice_events AtLeastAsGood);
  many = omega arith;
  state = closed;
  reached = hops AtLeastAsGood 2 (twice AtLeastAsGood) (twice_events AtLeastAsGood) (back_ready AtLeastAsGood) (omega arith) (twice_made AtLeastAsGood (omega arith));
  labelled = omega arith;
  from_two = refl;
  from_one = refl;
  never = λ ks. (never ks).0;
}

-- The right rule: node 1 declines it, and all nodes come to rest.
abbrev back : State Cost
back = after_declining Better cost_kind three_nodes 2 (extended 2 (twice Better)) (away Better 2 (twice Better))

abbrev back_events : List (Event Cost)
back_events = declines 2 (extended 2 (twice Better)) ∷ away_events Better 2 (twice Better) (twice_events Better)

back_made : Trace Better cost_kind three_nodes back_events back
back_made =
    let sent_back = goes Better 2 (twice Better) (twice_events Better) (back_ready Better) (twice_made Better (omega arith)) in
    (away Better 2 (twice Better), sent_back, declined Better cost_kind three_nodes 2 (extended 2 (twice Better)) (away Better 2 (twice Better)) refl (λ h. omega arith))

abbrev calm : State Cost
calm = rest Better 2 (rest Better 1 (rest Better 0 back))

calm_made : Trace Better cost_kind three_nodes (idles 2 ∷ idles 1 ∷ idles 0 ∷ back_events) calm
calm_made =
    let zeroth = rests Better 0 back back_events (record { active = refl; next = omega arith }) back_made in
    let first = rests Better 1 (rest Better 0 back) (idles 0 ∷ back_events) (record { active = refl; next = omega arith }) zeroth in
    rests Better 2 (rest Better 1 (rest Better 0 back)) (idles 1 ∷ idles 0 ∷ back_events) (record { active = refl; next = omega arith }) first

passive : (v : ℕ) → v < 3 → calm.active v ≡ false
passive zero h = refl
passive (suc zero) h = refl
passive (suc (suc zero)) h = refl
passive (suc (suc (suc v))) h = absurd (omega arith)

pub rest_after : (n : ℕ) → n ≡ 9 → RestAfter n
rest_after n e = record {
  accepted = keeps_rules;
  events = idles 2 ∷ idles 1 ∷ idles 0 ∷ back_events;
  many = omega arith;
  state = calm;
  reached = calm_made;
  quiet = record { passive = passive; empty = refl };
  labelled = omega arith;
  from_root = refl;
  from_one = refl;
}
