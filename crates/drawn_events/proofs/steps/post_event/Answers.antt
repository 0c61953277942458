use Rattle.std.proofs.Common.{length, ap, ◌∙◌}
use Rattle.primary_commit.specs.Peers.{PeerState}
use Rattle.drawn_events.proofs.EventLemmas.{four_logs}
use Rattle.drawn_events.proofs.steps.post_event.Goals as goal

pub firsts_given-requires : goal.firsts_given-requires
firsts_given-requires c =
    ap (λ (peer : PeerState). length peer.logs) c.peer-peer.ensures
    ∙ four_logs c.args.primary.now c.two-from.result.1 c.requires c.two-from.ensures.second
