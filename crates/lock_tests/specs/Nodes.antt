-- Nodes of four replicas.
use Rattle.std.specs.Prelude.{◌≡◌, ◌<◌}
use Rattle.run_history.specs.Seats.{DeskView}
use Rattle.replica_lock.specs.Sessions.{NodeView}

-- a node of one of the replicas 0 to 3 of a desk
abbrev pub IsOneOfFour : DeskView → NodeView → Type 0
IsOneOfFour desk node = (node.desk ≡ desk) × (node.replica < 4)
