-- What a worker takes between its tries.
use Rattle.std.specs.Prelude.{◌<◌}
use Rattle.postbox.specs.Posts.{IsFor}
use Rattle.replica_lock.specs.Sessions.{NodeView, SessionView}
use Rattle.steady_node.specs.Going.{IsUnmarked, entries_left}
use Rattle.run_work.specs.declared.tending.Taking.{Taking}
use Rattle.run_work.specs.declared.tending.Taking.TheVariants as taking

-- a parcel that is taken once: it was, or it comes back, and the session is marked
abbrev pub IsTaking : NodeView → SessionView → SessionView → Taking → Type 0
IsTaking node before after (taking.Taken due) = Unit {0}
IsTaking node before after (taking.Back parcel) =
    IsFor node.desk.table node.replica parcel × (IsUnmarked after → ⊥) × (entries_left after < entries_left before)
