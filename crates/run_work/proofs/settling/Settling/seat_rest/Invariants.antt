use Rattle.std.proofs.Common.{◌≡◌, ◌<◌, ◌≤◌, ℕ, get_or, length}
use Rattle.replica_lock.specs.Sessions.{NodeView}
use Rattle.run_work.specs.Settling.{HasSeated}
use Rattle.run_work.specs.declared.seat.End.{End}
use Rattle.run_work.proofs.settling.Settling.seat_rest.Given as goal

abbrev pub invariant-loop-replica : goal.invariant-loop-replica
invariant-loop-replica g l =
    (l.self.desk ≡ l.fn.self.desk)
    × (l.self.nodes ≡ l.fn.self.nodes)
    × (length l.self.ends ≡ length l.fn.self.ends)
    × ((place : ℕ) (none : End) → l.replica ≤ place → get_or l.self.ends place none ≡ get_or l.fn.self.ends place none)
    × ((place : ℕ) (no_node : NodeView) (none : End) → place < l.replica
    → HasSeated (get_or l.fn.self.nodes place no_node) (get_or l.fn.self.ends place none) (get_or l.self.ends place none))
    × (l.self.inboxes ≡ l.fn.self.inboxes)
