use Rattle.seat_app.proofs.NeverOversold.{never_oversold}
use Rattle.seat_app.proofs.laws.careful_runs_never_oversell.Goals as goal

pub returns : goal.returns
returns c = never_oversold
