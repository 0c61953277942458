use Rattle.std.proofs.Common.{arith}
use Rattle.rollback_apply.proofs.image.Image.catch_up.Goals as goal

pub invariant_of-self : goal.invariant_of-self
invariant_of-self c =
    let was = c.self.invariant in
    let done = c.apply_to-self-inside.ensures in
    record {
      applies = done.applies;
      within = omega (arith, done.within);
      few = omega (arith, done.above, done.count, c.len-count.ensures);
      counted = rw done.settled was.counted;
      memory = done.memory c.self.inside.room was.memory;
    }
