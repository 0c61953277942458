use Rattle.std.proofs.Common.{List, length, min, drop, take, sym, ap, ◌∙◌}
use Rattle.std.proofs.lemmas.List.FromFn.{length-map-range_with_len}
use Rattle.primary_commit.specs.Peers.{PeerState, first_told, notice_of}
use Rattle.primary_commit.specs.declared.items.Pick.{Pick}
use Rattle.primary_commit.proofs.PostLemmas.{notice_is}
use Rattle.primary_commit.proofs.peer.Peer.notice.Goals as goal

pub items_told-requires-clause-sized : goal.items_told-requires-clause-sized
items_told-requires-clause-sized c =
    let peer : PeerState = record { replica = c.self.inside.replica; logs = c.self.inside.logs.logs; told = c.self.inside.told.items; events = c.self.inside.events; posts = c.self.inside.posts } in
    ap length (c.items.ensures ∙ c.in_ok-firsts.ensures) ∙ length-map-range_with_len (first_told peer c.args.given.now) 0 (length c.self.inside.logs.logs)

pub returns : goal.returns
returns c =
    let peer : PeerState = record { replica = c.self.inside.replica; logs = c.self.inside.logs.logs; told = c.self.inside.told.items; events = c.self.inside.events; posts = c.self.inside.posts } in
    let place = c.args.place in
    notice_is peer c.args.to c.args.given.now place c.firsts.inside.items.items c.items.result.now c.in_ok-items_told.field-0 c.min-place.result c.in_ok-picks_told.field-0
    (c.firsts.view_is ∙ c.in_ok-firsts.ensures)
    (c.items.ensures ∙ sym c.firsts.view_is)
    c.in_ok-items_told.ensures
    (c.min-place.ensures ∙ ap (min place) c.told.ensures ∙ ap (λ (p : PeerState). min place (length p.told)) (sym c.self.view_is))
    (c.in_ok-picks_told.ensures ∙ ap (λ (told : List Pick). take 256 (drop c.min-place.result told)) c.items-2.ensures)
    ∙ ap (λ (p : PeerState). notice_of p c.args.to c.args.given.now place) c.self.view_is
