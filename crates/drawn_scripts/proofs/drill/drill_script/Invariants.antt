use Rattle.drawn_scripts.proofs.StepLemmas.{IsDrawnTo}
use Rattle.drawn_scripts.proofs.drill.drill_script.Given as goal

abbrev pub invariant-loop-step : goal.invariant-loop-step
invariant-loop-step l = IsDrawnTo l.fn.number l.step l.drill.script l.drill.draws l.drill.sent
