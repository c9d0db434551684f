use Rattle.std.proofs.Common.{◌≡◌, ◌+◌, ◌*◌, ◌<◌, Bool, true, false, List, [], ◌∷◌, ◌++◌, length, get_or, set, vec_items, sym, refl, ap, ◌∙◌, subst, inl, inr, arith}
use Rattle.std.proofs.lemmas.Bool.{leb-false}
use Rattle.std.proofs.lemmas.List.{get_or_default}
use Rattle.mesh.specs.declared.link.Link.{Link}
use Rattle.mesh.specs.Rules.{InRange, EndsIn, CostIn, WidthIn, EndsDiffer, EveryLink, PairsOnce, Joins, FreeKnown, UsedKnown}
use Rattle.mesh.proofs.Grown.{every_push, once_push, free_push, used_push}
use Rattle.mesh.proofs.mesh.Mesh.join.Goals as goal
use Rattle.mesh.proofs.mesh.Mesh.join.Goals.{After-index, After-push_reserved}

-- the links with the new one
new : (c : After-push_reserved) (P : List Link → Type 0) → P (vec_items c.args.self.now.links ++ c.args.link ∷ []) → P (vec_items c.push_reserved.new.self)
new c P h = subst P (sym c.push_reserved.ensures.items) h

range : (c : After-index) → InRange c.args.self.now.nodes c.args.link
range c = c.in_range.ensures.0 c.if-not-in_range.false

-- both ends are below 64
ends : (c : After-index) → (c.args.link.from < 64) × (c.args.link.to < 64)
ends c = let r = range c in (omega (arith, r.0.0, c.args.self.now.many), omega (arith, r.0.1, c.args.self.now.many))

-- what the index says of the pair
told : (c : After-index) → get_or (vec_items c.args.self.now.taken) (c.args.link.from * 64 + c.args.link.to) false ≡ c.index.result.now
told c =
    let m = c.args.self.now in
    let e = ends c in
    let in' : c.pair_of-pair.result < length (vec_items m.taken) = omega (arith, c.pair_of-pair.ensures, e.0, e.1, m.square, m.taken.ok.0) in
    ap (λ k. get_or (vec_items m.taken) k false) (sym c.pair_of-pair.ensures) ∙ get_or_default (vec_items m.taken) c.pair_of-pair.result false _ in' ∙ sym c.index.ensures

pub invariant_of-self : goal.invariant_of-self
invariant_of-self c =
    let m = c.args.self.now in
    let a = (goal.at.invariant_of-self c).After-index in
    let e = ends a in
    let taken = vec_items m.taken in
    let links = vec_items m.links in
    let square : length taken ≡ 4096 = sym m.taken.ok.0 ∙ m.square in
    let fresh : Joins links c.args.link.from c.args.link.to → ⊥ = λ j. m.free c.args.link.from c.args.link.to (e.0, e.1, told a ∙ c.if-index.false, j) in
    let each : (P : Link → Type 0) → EveryLink P links → P c.args.link → EveryLink P (vec_items c.push_reserved.new.self) =
    λ P old here. new c (EveryLink P) (every_push P links c.args.link old here) in
    let indexed : (P : List Bool → List Link → Type 0) → P (set taken (c.args.link.from * 64 + c.args.link.to) true) (links ++ c.args.link ∷ []) → P (set taken c.pair_of-pair.result true) (vec_items c.push_reserved.new.self) =
    λ P h. new c (P (set taken c.pair_of-pair.result true)) (subst (λ k. P (set taken k true) (links ++ c.args.link ∷ [])) (sym c.pair_of-pair.ensures) h) in
    record {
      many = m.many;
      rooted = m.rooted;
      few = omega (arith, c.push_reserved.ensures.len, leb-false 512 (length links) (sym c.is_full.ensures ∙ c.if-is_full.false), m.links.ok.0);
      ends = each (EndsIn m.nodes) m.ends (range a).0;
      costs = each CostIn m.costs (range a).1;
      widths = each WidthIn m.widths (range a).2;
      apart = each EndsDiffer m.apart c.if-link.false;
      once = new c PairsOnce (once_push links c.args.link m.once fresh);
      square = m.square;
      free = indexed FreeKnown (free_push taken links c.args.link square e.0 e.1 m.free);
      used = indexed UsedKnown (used_push taken links c.args.link square e.0 e.1 m.used);
      roomy = omega (arith, c.push_reserved.ensures.capacity, m.roomy);
    }

pub returns-then-index : goal.returns-then-index
returns-then-index c =
    let m = c.args.self.now in
    let a = (goal.at.returns-then-index c).After-index in
    let e = ends a in
    record {
      nodes = refl;
      root = refl;
      links = (
        inr (
          leb-false 512 (length (vec_items m.links)) (sym c.is_full.ensures ∙ c.if-is_full.false),
          inr (
            range a,
            inr (
              c.if-link.false,
              inl (λ fresh. m.used c.args.link.from c.args.link.to (e.0, e.1, told a ∙ c.if-index.true, fresh), refl),
            ),
          ),
        ),
        refl,
      );
    }
