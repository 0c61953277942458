use Rattle.std.proofs.Common.{◌≡◌, ◌<◌, List, refl, sym, ap, ◌∙◌, subst, take, arith}
use Rattle.tact_base.specs.declared.limits.TheConstants.{HISTORY_MAX}
use Rattle.primary_commit.specs.Kept.{IsSettled, peer_with}
use Rattle.primary_commit.specs.Peers.{PeerState, after_accept, committed, have}
use Rattle.primary_commit.specs.declared.items.Pick.{Pick}
use Rattle.primary_commit.proofs.AcceptLemmas.{accept_grows, accepted_logs, accepted_told}
use Rattle.primary_commit.proofs.SettledLemmas.{same_parts, settled_room, starts, ends}
use Rattle.primary_commit.proofs.peer.Peer.accept.Goals as goal

pub invariant_of-self : goal.invariant_of-self
invariant_of-self c =
    let peer : PeerState = record { replica = c.self.inside.replica; logs = c.self.inside.logs.logs; told = c.self.inside.told.items; events = c.self.inside.events; posts = c.self.inside.posts } in
    settled_room peer c.self.inside.committed c.self.inside.committed c.self.inside.image c.make_room.new.image _ c.self.invariant
    (c.make_room.ensures.image peer c.self.inside.committed c.self.invariant.settled)
    (same_parts peer c.make_room.new.logs.logs c.make_room.new.told.items c.make_room.ensures.logs c.make_room.ensures.told)

pub settle-self-inside-requires-clause-settled : goal.settle-self-inside-requires-clause-settled
settle-self-inside-requires-clause-settled c =
    let peer : PeerState = record { replica = c.self.inside.replica; logs = c.self.inside.logs.logs; told = c.self.inside.told.items; events = c.self.inside.events; posts = c.self.inside.posts } in
    let index = c.have.ensures ∙ ap (λ (s : PeerState). have s c.self.inside.replica) (sym c.self.view_is) in
    let logs = accepted_logs peer c.args.op c.have.result index c.make_room.new.logs.logs c.push.new.self.logs c.make_room.ensures.logs c.push.ensures.logs in
    let told = accepted_told peer c.args.op c.have.result index c.make_room.new.told.items c.if_primary.new.told.items c.make_room.ensures.told c.if_primary.ensures in
    starts peer (after_accept peer c.args.op) (accept_grows peer c.args.op c.self.invariant.is_peer.among) c.self.inside.committed c.make_room.new.image
    c.push.new.self.logs c.items.result.now (c.make_room.ensures.image peer c.self.inside.committed c.self.invariant.settled) logs (c.items.ensures ∙ told)

pub invariant_of-self-2 : goal.invariant_of-self-2
invariant_of-self-2 c =
    let peer : PeerState = record { replica = c.self.inside.replica; logs = c.self.inside.logs.logs; told = c.self.inside.told.items; events = c.self.inside.events; posts = c.self.inside.posts } in
    let next = after_accept peer c.args.op in
    let index = c.have.ensures ∙ ap (λ (s : PeerState). have s c.self.inside.replica) (sym c.self.view_is) in
    let logs = accepted_logs peer c.args.op c.have.result index c.make_room.new.logs.logs c.push.new.self.logs c.make_room.ensures.logs c.push.ensures.logs in
    let told = accepted_told peer c.args.op c.have.result index c.make_room.new.told.items c.if_primary.new.told.items c.make_room.ensures.told c.if_primary.ensures in
    let free : c.self.inside.events < HISTORY_MAX = omega (arith, c.in_ok-may_enter.ensures.free, ap (λ (s : PeerState). s.events) c.self.view_is) in
    let parts = peer_with c.push.new.self.logs in
    ends peer next (accept_grows peer c.args.op c.self.invariant.is_peer.among) c.self.inside.committed c.settle-self-inside.result c.self.inside.image c.settle-self-inside.new.image _
    c.self.invariant (same_parts next c.push.new.self.logs c.if_primary.new.told.items logs told)
    free refl refl
    (subst (λ (told : List Pick). IsSettled (parts told) c.settle-self-inside.result c.settle-self-inside.new.image) c.items.ensures c.settle-self-inside.ensures.settled)
    (subst (λ (told : List Pick). take c.settle-self-inside.result told ≡ committed (parts told)) c.items.ensures c.settle-self-inside.ensures.all)
