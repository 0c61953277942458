use Rattle.std.proofs.Common.{refl, arith}
use Rattle.tact_base.specs.Setup as setups
use Rattle.drawn_scripts.proofs.StepLemmas.{drawn_to_begins, drawn_to_more, drawn_to_among, drawn_to_goes}
use Rattle.drawn_scripts.proofs.drill.drill_script.Goals as goal

pub start-requires-clause-good : goal.start-requires-clause-good
unfolding setups.config_fault
start-requires-clause-good c = refl

pub loop-step-init : goal.loop-step-init
loop-step-init c = rw (c.in_ok-start.ensures, c.new.ensures, c.new-2.ensures) (drawn_to_begins c.args.number)

pub draw_step-requires-clause-among : goal.draw_step-requires-clause-among
draw_step-requires-clause-among c =
    let l = c.loop-step in
    drawn_to_among c.args.number l.step l.drill.script l.drill.draws l.drill.sent (omega (arith, c.loop-step-test.true)) l.invariant

pub loop-step-preserved : goal.loop-step-preserved
loop-step-preserved c =
    let l = c.loop-step in
    let new = c.draw_step.new.drill in
    let ended = c.in_ok-draw_step.ensures in
    drawn_to_more c.args.number l.step l.drill.script new.script l.drill.draws new.draws l.drill.sent new.sent
    l.invariant ended.drawn ended.sent ended.few

pub returns-clause-script : goal.returns-clause-script
returns-clause-script c =
    let l = c.loop-step in
    (drawn_to_goes c.args.number l.step l.drill.script l.drill.draws l.drill.sent (omega (arith, l.auto.step-end)) l.invariant).script
