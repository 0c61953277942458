use Rattle.std.proofs.Common.{◌≡◌, ◌<◌, List, length, map, refl, sym, ap, ◌∙◌, subst, take, arith}
use Rattle.tact_base.specs.declared.limits.TheConstants.{HISTORY_MAX}
use Rattle.primary_commit.specs.Kept.{IsSettled, peer_with}
use Rattle.primary_commit.specs.Peers.{PeerState, IsFor, after_take, committed, have, origins}
use Rattle.primary_commit.specs.declared.items.Pick.{Pick}
use Rattle.primary_commit.proofs.NoticeLemmas.{gained_fits, haves_sized, haves_within, learned, take_grows, told_fits, went_on}
use Rattle.primary_commit.proofs.SettledLemmas.{same_parts, settled_room, starts, ends}
use Rattle.primary_commit.proofs.peer.Peer.take.Goals as goal

pub invariant_of-self : goal.invariant_of-self
invariant_of-self c =
    let peer : PeerState = record { replica = c.self.inside.replica; logs = c.self.inside.logs.logs; told = c.self.inside.told.items; events = c.self.inside.events; posts = c.self.inside.posts } in
    settled_room peer c.self.inside.committed c.self.inside.committed c.self.inside.image c.make_room.new.image _ c.self.invariant
    (c.make_room.ensures.image peer c.self.inside.committed c.self.invariant.settled)
    (same_parts peer c.make_room.new.logs.logs c.make_room.new.told.items c.make_room.ensures.logs c.make_room.ensures.told)

pub learn-requires-clause-sized : goal.learn-requires-clause-sized
learn-requires-clause-sized c =
    let peer : PeerState = record { replica = c.self.inside.replica; logs = c.self.inside.logs.logs; told = c.self.inside.told.items; events = c.self.inside.events; posts = c.self.inside.posts } in
    let notice = c.args.notice.now in
    let meant : IsFor peer notice = subst (λ (p : PeerState). IsFor p notice) (sym c.self.view_is) c.requires in
    let had : c.items.result.now ≡ map (have peer) (origins peer) =
    c.items.ensures ∙ c.in_ok-haves.ensures ∙ ap (λ (p : PeerState). map (have p) (origins p)) (sym c.self.view_is) in
    let logs : c.add_items.new.logs.logs ≡ (after_take peer notice).logs =
    went_on peer notice meant c.make_room.new.logs.logs c.add_items.new.logs.logs c.items-items.result.now c.make_room.ensures.logs c.items-items.ensures
    c.add_items.ensures.sized c.add_items.ensures.logs in
    haves_sized peer notice meant c.items.result.now c.add_items.new.logs.logs had logs

pub learn-requires-clause-within : goal.learn-requires-clause-within
learn-requires-clause-within c =
    let peer : PeerState = record { replica = c.self.inside.replica; logs = c.self.inside.logs.logs; told = c.self.inside.told.items; events = c.self.inside.events; posts = c.self.inside.posts } in
    let notice = c.args.notice.now in
    let meant : IsFor peer notice = subst (λ (p : PeerState). IsFor p notice) (sym c.self.view_is) c.requires in
    let had : c.items.result.now ≡ map (have peer) (origins peer) =
    c.items.ensures ∙ c.in_ok-haves.ensures ∙ ap (λ (p : PeerState). map (have p) (origins p)) (sym c.self.view_is) in
    let logs : c.add_items.new.logs.logs ≡ (after_take peer notice).logs =
    went_on peer notice meant c.make_room.new.logs.logs c.add_items.new.logs.logs c.items-items.result.now c.make_room.ensures.logs c.items-items.ensures
    c.add_items.ensures.sized c.add_items.ensures.logs in
    haves_within peer notice meant c.items.result.now c.add_items.new.logs.logs had logs

pub learn-requires-clause-room : goal.learn-requires-clause-room
learn-requires-clause-room c =
    let peer : PeerState = record { replica = c.self.inside.replica; logs = c.self.inside.logs.logs; told = c.self.inside.told.items; events = c.self.inside.events; posts = c.self.inside.posts } in
    let notice = c.args.notice.now in
    let meant : IsFor peer notice = subst (λ (p : PeerState). IsFor p notice) (sym c.self.view_is) c.requires in
    let had : c.items.result.now ≡ map (have peer) (origins peer) =
    c.items.ensures ∙ c.in_ok-haves.ensures ∙ ap (λ (p : PeerState). map (have p) (origins p)) (sym c.self.view_is) in
    let logs : c.add_items.new.logs.logs ≡ (after_take peer notice).logs =
    went_on peer notice meant c.make_room.new.logs.logs c.add_items.new.logs.logs c.items-items.result.now c.make_room.ensures.logs c.items-items.ensures
    c.add_items.ensures.sized c.add_items.ensures.logs in
    omega (
      arith,
      gained_fits peer notice meant c.items.result.now c.add_items.new.logs.logs had logs,
      c.in_ok-make_room.ensures.told_room,
      c.max.ensures,
      ap length c.items-items.ensures,
    )

pub settle-self-inside-requires-clause-settled : goal.settle-self-inside-requires-clause-settled
settle-self-inside-requires-clause-settled c =
    let peer : PeerState = record { replica = c.self.inside.replica; logs = c.self.inside.logs.logs; told = c.self.inside.told.items; events = c.self.inside.events; posts = c.self.inside.posts } in
    let notice = c.args.notice.now in
    let meant : IsFor peer notice = subst (λ (p : PeerState). IsFor p notice) (sym c.self.view_is) c.requires in
    let had : c.items.result.now ≡ map (have peer) (origins peer) =
    c.items.ensures ∙ c.in_ok-haves.ensures ∙ ap (λ (p : PeerState). map (have p) (origins p)) (sym c.self.view_is) in
    let logs : c.add_items.new.logs.logs ≡ (after_take peer notice).logs =
    went_on peer notice meant c.make_room.new.logs.logs c.add_items.new.logs.logs c.items-items.result.now c.make_room.ensures.logs c.items-items.ensures
    c.add_items.ensures.sized c.add_items.ensures.logs in
    let told : c.learn.new.told.items ≡ (after_take peer notice).told =
    learned peer notice meant c.items.result.now c.add_items.new.logs.logs c.make_room.new.told.items c.learn.new.told.items had logs c.make_room.ensures.told c.learn.ensures in
    starts peer (after_take peer notice) (take_grows peer notice meant) c.self.inside.committed c.make_room.new.image
    c.add_items.new.logs.logs c.items-2.result.now (c.make_room.ensures.image peer c.self.inside.committed c.self.invariant.settled) logs (c.items-2.ensures ∙ told)

pub settle-self-inside-requires-clause-room : goal.settle-self-inside-requires-clause-room
settle-self-inside-requires-clause-room c =
    let peer : PeerState = record { replica = c.self.inside.replica; logs = c.self.inside.logs.logs; told = c.self.inside.told.items; events = c.self.inside.events; posts = c.self.inside.posts } in
    let notice = c.args.notice.now in
    let meant : IsFor peer notice = subst (λ (p : PeerState). IsFor p notice) (sym c.self.view_is) c.requires in
    let had : c.items.result.now ≡ map (have peer) (origins peer) =
    c.items.ensures ∙ c.in_ok-haves.ensures ∙ ap (λ (p : PeerState). map (have p) (origins p)) (sym c.self.view_is) in
    let logs : c.add_items.new.logs.logs ≡ (after_take peer notice).logs =
    went_on peer notice meant c.make_room.new.logs.logs c.add_items.new.logs.logs c.items-items.result.now c.make_room.ensures.logs c.items-items.ensures
    c.add_items.ensures.sized c.add_items.ensures.logs in
    let told : c.learn.new.told.items ≡ (after_take peer notice).told =
    learned peer notice meant c.items.result.now c.add_items.new.logs.logs c.make_room.new.told.items c.learn.new.told.items had logs c.make_room.ensures.told c.learn.ensures in
    omega (
      arith,
      ap length (c.items-2.ensures ∙ told),
      told_fits peer notice meant c.max.result (omega (arith, c.max.ensures, ap length c.items-items.ensures)) (omega (arith, c.max.ensures, c.len.ensures)),
      c.in_ok-make_room.ensures.image_room,
    )

pub invariant_of-self-2 : goal.invariant_of-self-2
invariant_of-self-2 c =
    let peer : PeerState = record { replica = c.self.inside.replica; logs = c.self.inside.logs.logs; told = c.self.inside.told.items; events = c.self.inside.events; posts = c.self.inside.posts } in
    let notice = c.args.notice.now in
    let meant : IsFor peer notice = subst (λ (p : PeerState). IsFor p notice) (sym c.self.view_is) c.requires in
    let had : c.items.result.now ≡ map (have peer) (origins peer) =
    c.items.ensures ∙ c.in_ok-haves.ensures ∙ ap (λ (p : PeerState). map (have p) (origins p)) (sym c.self.view_is) in
    let logs : c.add_items.new.logs.logs ≡ (after_take peer notice).logs =
    went_on peer notice meant c.make_room.new.logs.logs c.add_items.new.logs.logs c.items-items.result.now c.make_room.ensures.logs c.items-items.ensures
    c.add_items.ensures.sized c.add_items.ensures.logs in
    let told : c.learn.new.told.items ≡ (after_take peer notice).told =
    learned peer notice meant c.items.result.now c.add_items.new.logs.logs c.make_room.new.told.items c.learn.new.told.items had logs c.make_room.ensures.told c.learn.ensures in
    let next = after_take peer notice in
    let free : c.self.inside.events < HISTORY_MAX = omega (arith, c.in_ok-may_enter.ensures.free, ap (λ (s : PeerState). s.events) c.self.view_is) in
    let parts = peer_with c.add_items.new.logs.logs in
    ends peer next (take_grows peer notice meant) c.self.inside.committed c.settle-self-inside.result c.self.inside.image c.settle-self-inside.new.image _
    c.self.invariant (same_parts next c.add_items.new.logs.logs c.learn.new.told.items logs told) free refl refl
    (subst (λ (picks : List Pick). IsSettled (parts picks) c.settle-self-inside.result c.settle-self-inside.new.image) c.items-2.ensures c.settle-self-inside.ensures.settled)
    (subst (λ (picks : List Pick). take c.settle-self-inside.result picks ≡ committed (parts picks)) c.items-2.ensures c.settle-self-inside.ensures.all)

pub returns-clause-taken : goal.returns-clause-taken
returns-clause-taken c =
    let peer : PeerState = record { replica = c.self.inside.replica; logs = c.self.inside.logs.logs; told = c.self.inside.told.items; events = c.self.inside.events; posts = c.self.inside.posts } in
    let notice = c.args.notice.now in
    let meant : IsFor peer notice = subst (λ (p : PeerState). IsFor p notice) (sym c.self.view_is) c.requires in
    let had : c.items.result.now ≡ map (have peer) (origins peer) =
    c.items.ensures ∙ c.in_ok-haves.ensures ∙ ap (λ (p : PeerState). map (have p) (origins p)) (sym c.self.view_is) in
    let logs : c.add_items.new.logs.logs ≡ (after_take peer notice).logs =
    went_on peer notice meant c.make_room.new.logs.logs c.add_items.new.logs.logs c.items-items.result.now c.make_room.ensures.logs c.items-items.ensures
    c.add_items.ensures.sized c.add_items.ensures.logs in
    let told : c.learn.new.told.items ≡ (after_take peer notice).told =
    learned peer notice meant c.items.result.now c.add_items.new.logs.logs c.make_room.new.told.items c.learn.new.told.items had logs c.make_room.ensures.told c.learn.ensures in
    same_parts (after_take peer notice) c.add_items.new.logs.logs c.learn.new.told.items logs told ∙ ap (λ (p : PeerState). after_take p notice) c.self.view_is
