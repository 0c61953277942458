use Rattle.std.proofs.Common.{◌<◌, ap, arith, length}
use Rattle.std.proofs.lemmas.Grind.{common_steps}
use Rattle.run_work.proofs.RoundSteps.{HaveSeen-on}
use Rattle.run_work.proofs.Settled.{AreUnmarked-on, have_gone_on_then}
use Rattle.run_work.proofs.settling.Settling.rounds.Goals as goal

pub returns-in_err-round-clause-made : goal.returns-in_err-round-clause-made
returns-in_err-round-clause-made g c unmarked replica within =
    let less : c.loop-round._round < c.args.rounds = grind (arith, common_steps) in
    omega (
      arith,
      less,
      c.loop-round.invariant.made (AreUnmarked-on c.loop-round.self c.round.new.self c.round.ensures.on unmarked) replica within,
      c.round.ensures.made unmarked replica (omega (arith, within, ap length c.loop-round.invariant.on.nodes)),
    )

pub loop-round-preserved : goal.loop-round-preserved
loop-round-preserved g c =
    let begun = c.args.self.now in
    let now = c.loop-round.self in
    let after = c.round.new.self in
    let invariant = c.loop-round.invariant in
    let round = c.in_ok-round.ensures in
    record {
      on = have_gone_on_then begun now after invariant.on round.on;
      ready = round.ready;
      empty = round.empty;
      made = λ unmarked replica within.
          omega (
            arith,
            invariant.made (AreUnmarked-on now after round.on unmarked) replica within,
            round.made unmarked replica (omega (arith, within, ap length invariant.on.nodes)),
          );
      arrived = λ unmarked front some seen. round.arrived unmarked front (HaveSeen-on begun now front invariant.on seen);
    }
