use Rattle.std.proofs.Common.{map}
use Rattle.run_work.proofs.LeadLoop.{IsLeadBelow}
use Rattle.run_work.proofs.seat.End.lead.Given as goal

abbrev pub invariant-loop-place : goal.invariant-loop-place
invariant-loop-place l = IsLeadBelow l.place (map (λ session. session.client) l.self.sessions.items) l.least
