use Rattle.std.proofs.Common.{sym, subst}
use Rattle.primary_commit.specs.Kept.{KeepsPeer}
use Rattle.primary_commit.specs.Peers.{PeerState, fresh_peer}
use Rattle.primary_commit.proofs.FreshLemmas.{fresh_keeps}
use Rattle.primary_commit.proofs.SettledLemmas.{same_parts}
use Rattle.primary_commit.proofs.peer.Peer.new.Goals as goal

pub invariant_of-result : goal.invariant_of-result
invariant_of-result c =
    subst (λ (peer : PeerState). KeepsPeer peer 0 c.new-3.result)
    (sym (same_parts (fresh_peer c.args.n c.args.replica) c.in_ok-new.field-0.logs c.new-2.result.items c.in_ok-new.ensures c.new-2.ensures))
    (fresh_keeps c.args.n c.args.replica c.new-3.result c.requires.among c.requires.few c.new-3.ensures.committed c.new-3.ensures.base c.new-3.ensures.ops)
