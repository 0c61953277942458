use Rattle.std.proofs.Common.{ap, arith, length}
use Rattle.std.proofs.lemmas.Result.{on_ok_weaker}
use Rattle.run_work.proofs.RoundLoops.{HaveArrived-taken}
use Rattle.run_work.proofs.Settled.{AreUnmarked-on, have_gone_on_then}
use Rattle.run_work.proofs.settling.Settling.round.Goals as goal

pub returns-clause-on : goal.returns-clause-on
returns-clause-on g c =
    have_gone_on_then c.args.self.now c.send_all.new.self c.take_all.new.self c.in_ok-send_all.ensures.on c.take_all.ensures.on

pub returns-clause-made : goal.returns-clause-made
returns-clause-made g c unmarked replica within =
    let all = c.in_ok-send_all.ensures.all in
    let was = AreUnmarked-on c.send_all.new.self c.take_all.new.self c.take_all.ensures.on unmarked in
    omega (arith, all.made was replica within, all.count replica within, ap length (c.requires.empty replica within), c.take_all.ensures.made unmarked replica)

pub returns-clause-arrived : goal.returns-clause-arrived
returns-clause-arrived g c =
    on_ok_weaker c.take_all.result
    (λ taken unmarked front seen. HaveArrived-taken front c.args.self.now c.send_all.new.self c.take_all.new.self c.in_ok-send_all.ensures.on c.take_all.ensures.on
    (λ from to. c.in_ok-send_all.ensures.reached (AreUnmarked-on c.send_all.new.self c.take_all.new.self c.take_all.ensures.on unmarked) front from to seen) taken)
    c.take_all.ensures.taken
