use Rattle.drawn_events.proofs.EventLemmas.{IsDrawnTo}
use Rattle.drawn_events.proofs.drawing.draw_events.Given as goal

abbrev pub invariant-loop-step : goal.invariant-loop-step
invariant-loop-step l = IsDrawnTo l.fn.number l._step l.primary l.draws
