use Rattle.std.proofs.Common.{ℕ, List, ◌≡◌, ◌++◌, length, append_assoc, sym, ap, ◌∙◌}
use Rattle.std.specs.List.{flat_map, range_with_len}
use Rattle.tact_base.proofs.RangeLists.{flat_map_range_more}
use Rattle.primary_commit.specs.Networks.{network_after, peer_at}
use Rattle.primary_commit.specs.Peers.{PeerState}
use Rattle.drawn_events.proofs.EventLemmas.{four_logs}
use Rattle.tact_top.specs.PrimaryText.{peer_text}
use Rattle.tact_top.proofs.ordering.put_peers.Goals as goal

pub put_peer-requires : goal.put_peer-requires
put_peer-requires c =
    ap (λ (peer : PeerState). length peer.logs) c.peer.ensures
    ∙ four_logs c.args.primary.now c.loop-replica.replica c.requires c.loop-replica-test.true

pub loop-replica-preserved : goal.loop-replica-preserved
loop-replica-preserved c =
    let l = c.loop-replica in
    let events = c.args.primary.now.events in
    let line = λ (replica : ℕ). peer_text (peer_at (network_after 4 events) replica) replica in
    let peer : c.peer.result.now ≡ peer_at (network_after 4 events) l.replica =
    c.peer.ensures ∙ ap (λ (n : ℕ). peer_at (network_after n events) l.replica) c.requires.four in
    c.in_ok-put_peer.ensures
    ∙ ap (λ (state : PeerState). l.out ++ peer_text state l.replica) peer
    ∙ ap (λ (text : List ℕ). text ++ line l.replica) l.invariant
    ∙ append_assoc c.args.out.now (flat_map line (range_with_len 0 l.replica)) (line l.replica)
    ∙ ap (λ (text : List ℕ). c.args.out.now ++ text) (sym (flat_map_range_more line l.replica))
