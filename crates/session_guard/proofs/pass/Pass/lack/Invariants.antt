use Rattle.std.proofs.Common.{ℕ, ◌<◌, ◌≤◌, get_or}
use Rattle.session_guard.specs.Passes.{wanted}
use Rattle.session_guard.proofs.pass.Pass.lack.Given as goal

abbrev pub invariant-loop-origin : goal.invariant-loop-origin
invariant-loop-origin l = (k : ℕ) → k < l.origin → wanted (record { reads = l.self.reads; writes = l.self.writes }) k ≤ get_or l.haves k 0
