use Rattle.drawn_events.proofs.EventLemmas.{among_four-push, event_found}
use Rattle.drawn_events.proofs.drawing.draw_step.Goals as goal

pub step-requires-clause-may : goal.step-requires-clause-may
step-requires-clause-may c =
    event_found c.args.primary.now c.pick-kind.result c.pick-kind.new.self _ c.in_ok-event.field-0 c.in-Some.event
    c.requires.among c.in_ok-event.ensures c.in-Some.is

pub returns-in_ok-step-clause-among : goal.returns-in_ok-step-clause-among
returns-in_ok-step-clause-among c =
    among_four-push c.args.primary.now c.step.new.self c.in-Some.event c.requires.among
    (event_found c.args.primary.now c.pick-kind.result c.pick-kind.new.self _ c.in_ok-event.field-0 c.in-Some.event
    c.requires.among c.in_ok-event.ensures c.in-Some.is)
    c.in_ok-step.ensures.happened
