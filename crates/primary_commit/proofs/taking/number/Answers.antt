use Rattle.std.proofs.Common.{◌≡◌, ◌<◌, ℕ, [], drop, get_or, length, ap, ◌∙◌, arith}
use Rattle.primary_commit.proofs.TakingLemmas.{joined_last, joined_step, numbered_more}
use Rattle.primary_commit.proofs.taking.number.Goals as goal

pub push_picks-requires : goal.push_picks-requires
push_picks-requires c =
    let new = λ (origin : ℕ). drop (get_or c.args.haves.now origin 0) (get_or c.args.logs.now.logs origin []) in
    let within : c.loop-origin.origin < length c.args.logs.now.logs = omega (arith, c.loop-origin-test.true, c.count-origin-end.ensures) in
    let is : c.past-new.result.now ≡ new c.loop-origin.origin =
    c.past-new.ensures ∙ ap (drop (get_or c.args.haves.now c.loop-origin.origin 0)) c.log.ensures in
    omega (arith, c.loop-origin.invariant.room, joined_step new c.loop-origin.origin (length c.args.logs.now.logs) c.past-new.result.now within is)

pub loop-origin-preserved : goal.loop-origin-preserved
loop-origin-preserved c =
    let new = λ (origin : ℕ). drop (get_or c.args.haves.now origin 0) (get_or c.args.logs.now.logs origin []) in
    let is : c.past-new.result.now ≡ new c.loop-origin.origin =
    c.past-new.ensures ∙ ap (drop (get_or c.args.haves.now c.loop-origin.origin 0)) c.log.ensures in
    record {
      told = numbered_more new c.loop-origin.origin c.args.told.now.items c.loop-origin.told.items c.push_picks.new.told.items c.past-new.result.now
          c.loop-origin.invariant.told c.push_picks.ensures.told is;
      room = omega (arith, c.loop-origin.invariant.room, c.push_picks.ensures.room, joined_last new c.loop-origin.origin c.past-new.result.now is);
    }
