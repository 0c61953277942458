use Rattle.std.proofs.Common.{◌≡◌, ℕ, [], sym, ap, ◌∙◌, refl, subst, arith}
use Rattle.tact_base.specs.Setup as setups
use Rattle.tact_base.specs.Setup.{Setup}
use Rattle.script_text.specs.Setups.{setup_of}
use Rattle.session_guard.specs.Roams.{RoamState}
use Rattle.drawn_visits.specs.DrawnVisits.{four}
use Rattle.drawn_visits.proofs.StepLemmas.{IsDrawnTo, drawn_to_begins, drawn_to_ends, drawn_to_more}
use Rattle.drawn_visits.proofs.drawing.draw_visits.Goals as goal

pub start-requires-clause-good : goal.start-requires-clause-good
unfolding setups.config_fault
start-requires-clause-good c = refl

pub loop-step-init : goal.loop-step-init
loop-step-init c =
    let setup : c.config.result.now ≡ four = c.config.ensures ∙ ap setup_of c.in_ok-script.ensures in
    let none = λ (s : Setup). let one : RoamState = record { setup = s; passes = 4; steps = [] } in one in
    subst (IsDrawnTo c.args.number 0 c.in_ok-new.field-0 0) (sym c.new-draws.ensures)
    (drawn_to_begins c.args.number c.in_ok-new.field-0 (c.in_ok-new.ensures ∙ ap none setup))

pub loop-step-preserved : goal.loop-step-preserved
loop-step-preserved c =
    let l = c.loop-step in
    let new = c.draw_step.new.visits in
    let ended = c.in_ok-draw_step.ensures in
    drawn_to_more c.args.number l.step l.visits.roam new.roam l.visits.behind new.behind l.draws c.draw_step.new.draws l.invariant
    ended.drawn ended.few ended.among ended.counted ended.count

pub returns-clause-drawn : goal.returns-clause-drawn
returns-clause-drawn c =
    let l = c.loop-step in
    let all : l.step ≡ 1000 = omega (arith, c.loop-step-test.false, l.auto.step-end) in
    drawn_to_ends c.args.number l.visits.roam l.visits.behind l.draws
    (subst (λ (done : ℕ). IsDrawnTo c.args.number done l.visits.roam l.visits.behind l.draws) all l.invariant)
