use Rattle.std.proofs.Common.{◌≡◌, ◌<◌, length, arith}
use Rattle.std.proofs.lemmas.Option.{cond_some}
use Rattle.primary_commit.specs.Kept.{peer_with}
use Rattle.primary_commit.specs.Peers.{has, op_of}
use Rattle.std.proofs.Common.{sym, get_or}
use Rattle.primary_commit.specs.declared.items.Pick.{Pick}
use Rattle.primary_commit.proofs.SettledLemmas.{no_pick, take_while-to, settled_more, stopped, settled_at}
use Rattle.primary_commit.proofs.settling.settle.Goals as goal

pub returns-in_default-clause-all : goal.returns-in_default-clause-all
returns-in_default-clause-all c =
    let peer = peer_with c.args.logs.now.logs c.args.told.now in
    let pick : Pick = get_or c.args.told.now c.loop-place.place no_pick in
    take_while-to (has peer) c.args.told.now c.loop-place.place no_pick c.loop-place.invariant.settled.had
    (λ within. stopped (has peer pick) (op_of peer pick) (c.in_default.ensures c.args.told.now))

pub loop-place-preserved : goal.loop-place-preserved
loop-place-preserved c =
    let peer = peer_with c.args.logs.now.logs c.args.told.now in
    let pick : Pick = get_or c.args.told.now c.loop-place.place no_pick in
    record {
      settled = settled_more peer c.loop-place.place c.loop-place.image c.apply.new.image no_pick c.in-Some.op c.loop-place.invariant.settled c.loop-place-test.true
          (cond_some (has peer pick) (op_of peer pick) c.in-Some.op (sym (c.in-Some.ensures c.args.told.now)))
          c.apply.ensures.counted c.apply.ensures.none c.apply.ensures.values;
      room = omega (arith, c.loop-place.invariant.room, c.apply.ensures.room);
    }

pub returns-clause-all : goal.returns-clause-all
returns-clause-all c =
    let peer = peer_with c.args.logs.now.logs c.args.told.now in
    let whole : c.loop-place.place ≡ length c.args.told.now = omega (arith, c.loop-place-test.false, c.loop-place.invariant.settled.within) in
    take_while-to (has peer) c.args.told.now (length c.args.told.now) no_pick (settled_at peer c.loop-place.place (length c.args.told.now) c.loop-place.image whole c.loop-place.invariant.settled).had
    (λ (within : length c.args.told.now < length c.args.told.now). absurd (omega (arith, within)))
