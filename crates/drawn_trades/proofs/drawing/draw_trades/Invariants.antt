use Rattle.drawn_trades.proofs.TradeLemmas.{IsDrawnTo}
use Rattle.drawn_trades.proofs.drawing.draw_trades.Given as goal

abbrev pub invariant-loop-step : goal.invariant-loop-step
invariant-loop-step l = IsDrawnTo l.fn.number l.step l.booking l.tally l.draws
