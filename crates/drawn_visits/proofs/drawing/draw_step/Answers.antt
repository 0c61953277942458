use Rattle.drawn_visits.proofs.StepLemmas.{drawn_may}
use Rattle.drawn_visits.proofs.drawing.draw_step.Goals as goal

pub make_step-requires-clause-may : goal.make_step-requires-clause-may
make_step-requires-clause-may c =
    drawn_may c.args.visits.now.roam c.sent.result c.pick-kind.result c.pick-kind.new.self c.step_of_kind-step.new.draws c.step_of_kind-step.result
    c.requires.among c.sent.ensures c.step_of_kind-step.ensures
