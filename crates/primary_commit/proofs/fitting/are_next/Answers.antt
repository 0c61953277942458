use Rattle.std.proofs.Common.{◌≤◌, length, subst, arith}
use Rattle.std.proofs.lemmas.List.{take_all}
use Rattle.run_model.proofs.OriginWrites.{no, yes}
use Rattle.primary_commit.proofs.TakingLemmas.{AreNext-step, not_next}
use Rattle.primary_commit.proofs.fitting.are_next.Goals as goal
use Rattle.primary_commit.specs.Peers.{AreNext}

pub returns-then-not-is_next : goal.returns-then-not-is_next
returns-then-not-is_next c = no (not_next c.args.firsts.now c.args.items.now c.loop-place.place _ c.loop-place-test.true c.if-not-is_next.ensures)

pub returns : goal.returns
returns c =
    let whole : length c.args.items.now ≤ c.loop-place.place = omega (arith, c.loop-place-test.false) in
    yes (subst (AreNext c.args.firsts.now) (take_all c.loop-place.place c.args.items.now whole) c.loop-place.invariant)

pub loop-place-preserved : goal.loop-place-preserved
loop-place-preserved c =
    AreNext-step c.args.firsts.now c.args.items.now c.loop-place.place _ c.loop-place-test.true c.loop-place.invariant c.if-not-is_next.ensures
