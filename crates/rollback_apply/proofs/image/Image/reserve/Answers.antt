use Rattle.std.proofs.Common.{length, ap, arith}
use Rattle.rollback_apply.proofs.image.Image.reserve.Goals as goal

pub invariant_of-self : goal.invariant_of-self
invariant_of-self c =
    let was = c.self.invariant in
    record {
      applies = c.reserve.ensures.applies c.self.inside.applied was.applies;
      within = omega (arith, was.within, ap length c.reserve.ensures.tentative);
      few = omega (arith, was.few, ap length c.reserve.ensures.tentative);
      counted = rw c.reserve.ensures.settled was.counted;
      memory = c.reserve.ensures.kept c.self.inside.room was.memory;
    }
