use Rattle.std.proofs.Common.{subst, arith}
use Rattle.session_guard.proofs.PassLemmas.{AreRaised, all_raised}
use Rattle.session_guard.proofs.pass.raise_each.Goals as goal

pub returns-clause-raised : goal.returns-clause-raised
returns-clause-raised c =
    all_raised c.args.haves.now c.args.numbers.now c.loop-place.numbers c.requires
    (subst (AreRaised c.args.haves.now c.args.numbers.now c.loop-place.numbers) (omega arith) c.loop-place.invariant)
