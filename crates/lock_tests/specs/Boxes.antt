-- Postboxes of four replicas, and of two.
use Rattle.std.specs.Prelude.{◌≡◌, ◌≢◌, ◌<◌}
use Rattle.atomic_table.specs.Seated.{TableId}
use Rattle.replica_lock.specs.Sessions.{NodeView}
use Rattle.postbox.specs.Posts.{PostboxView}

-- the cells of four postboxes
pub record BoxCells : Type 0 where
  pub first : TableId
  pub second : TableId
  pub third : TableId
  pub fourth : TableId

-- the table of the desk of four postboxes, and their cells
pub record BoxesView : Type 0 where
  pub desk : TableId
  pub cells : BoxCells

-- a postbox is for the replica of a node, and for another of its desk
abbrev pub IsBoxOf : NodeView → PostboxView → Type 0
IsBoxOf node box = (box.desk ≡ node.desk.table) × (box.to ≡ node.replica)

abbrev pub IsBoxOfAnother : NodeView → PostboxView → Type 0
IsBoxOfAnother node box = (box.desk ≡ node.desk.table) × (box.to ≢ node.replica) × (box.to < node.desk.setup.replicas)
