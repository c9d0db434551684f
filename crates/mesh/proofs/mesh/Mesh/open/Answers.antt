use Rattle.std.proofs.Common.{ℕ, ◌<◌, false, length, vec_items, ap, arith}
use Rattle.mesh.proofs.Grown.{free_none, used_none}
use Rattle.std.proofs.lemmas.List.{length-replicate}
use Rattle.mesh.proofs.mesh.Mesh.open.Goals as goal

pub invariant_of-result : goal.invariant_of-result
invariant_of-result c =
    let none : (k : ℕ) → k < length (vec_items c.args.room.links) → ⊥ = λ k h. omega (arith, c.args.room.links.ok.0, c.args.room.empty) in
    record {
      many = omega arith;
      rooted = omega arith;
      few = omega (arith, c.args.room.empty);
      ends = λ k d h. absurd (none k h);
      costs = λ k d h. absurd (none k h);
      widths = λ k d h. absurd (none k h);
      apart = λ k d h. absurd (none k h);
      once = λ i j d h. none j h.1;
      square = omega (arith, ap length c.args.room.clear, length-replicate 4096 false, c.args.room.taken.ok.0);
      free = free_none (vec_items c.args.room.taken) (vec_items c.args.room.links) (omega (arith, c.args.room.links.ok.0, c.args.room.empty));
      used = used_none (vec_items c.args.room.taken) (vec_items c.args.room.links) c.args.room.clear;
      roomy = c.args.room.roomy;
    }
