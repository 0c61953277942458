use Rattle.std.proofs.Common.{arith}
use Rattle.session_guard.proofs.CountLemmas.{one_more_counted}
use Rattle.session_guard.proofs.counts.haves_of.Goals as goal

pub loop-origin-preserved : goal.loop-origin-preserved
loop-origin-preserved c =
    one_more_counted c.args.replica.now.core c.loop-origin.haves c.loop-origin.origin c.have.result c.loop-origin.invariant
    (omega (arith, c.loop-origin-test.true, c.requires.few)) c.have.ensures
