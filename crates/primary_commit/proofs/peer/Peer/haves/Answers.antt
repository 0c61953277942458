use Rattle.std.proofs.Common.{[]}
use Rattle.primary_commit.specs.Peers.{have}
use Rattle.tact_base.proofs.RangeLists.{mapped_more}
use Rattle.primary_commit.proofs.peer.Peer.haves.Goals as goal

pub loop-origin-preserved : goal.loop-origin-preserved
loop-origin-preserved c =
    mapped_more (have c.args.self.now) c.loop-origin.origin [] c.loop-origin.haves c.push.new.self c.have.result
    c.loop-origin.invariant c.in_ok-push.ensures.ok c.have.ensures
