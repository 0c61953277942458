use Rattle.std.proofs.Common.{◌≡◌, replicate}
use Rattle.session_guard.proofs.NewJourney.{fresh_client}
use Rattle.session_guard.proofs.journey.Journey.new.Given as goal

abbrev pub invariant-loop-pass : goal.invariant-loop-pass
invariant-loop-pass l = l.clients.items ≡ replicate l._pass (fresh_client l.config)
