use Rattle.drawn_visits.proofs.StepLemmas.{IsDrawnTo}
use Rattle.drawn_visits.proofs.drawing.draw_visits.Given as goal

abbrev pub invariant-loop-step : goal.invariant-loop-step
invariant-loop-step l = IsDrawnTo l.fn.number l.step l.visits.roam l.visits.behind l.draws
