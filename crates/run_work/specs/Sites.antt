-- The nodes of a run and the inboxes of their replicas.
use Rattle.std.specs.Prelude.{◌≡◌, ℕ, ◌<◌, ◌≤◌, List, length, get_or}
use Rattle.tact_base.specs.Setup.{IsSetup}
use Rattle.tact_base.specs.declared.limits.TheConstants.{REPLICAS_MAX}
use Rattle.run_history.specs.Seats.{DeskView}
use Rattle.link_faults.specs.Inboxes.{InboxState}
use Rattle.link_faults.specs.Plans.{no_faults}
use Rattle.work_load.specs.Workloads.{Workload}
use Rattle.locked_replica.specs.Parcels.{ParcelView}
use Rattle.replica_lock.specs.Sessions.{NodeView}
use Rattle.postbox.specs.Posts.{AreFor, PostboxView}

-- the desk of a run, and by number the nodes and the inboxes of its replicas
pub record SitesView : Type 0 where
  pub desk : DeskView
  pub nodes : List NodeView
  pub inboxes : List PostboxView

-- a node is that of a replica of a desk, and so is an inbox
abbrev pub IsNodeAt : DeskView → ℕ → NodeView → Type 0
IsNodeAt desk replica node = (node.desk ≡ desk) × (node.replica ≡ replica)

abbrev pub IsInboxAt : DeskView → ℕ → PostboxView → Type 0
IsInboxAt desk replica inbox = (inbox.desk ≡ desk.table) × (inbox.to ≡ replica)

-- there are a node and an inbox for each replica
pub record AreSites (sites : SitesView) : Type 0 where
  pub sound : IsSetup sites.desk.setup
  pub nodes_are : length sites.nodes ≡ sites.desk.setup.replicas
  pub inboxes_are : length sites.inboxes ≡ sites.desk.setup.replicas
  pub node : (replica : ℕ) (none : NodeView) → replica < length sites.nodes → IsNodeAt sites.desk replica (get_or sites.nodes replica none)
  pub inbox : (replica : ℕ) (none : PostboxView) → replica < length sites.inboxes → IsInboxAt sites.desk replica (get_or sites.inboxes replica none)

-- nodes of replicas in the order of their numbers
pub record AreNumbered (nodes : List NodeView) : Type 0 where
  pub few : length nodes ≤ REPLICAS_MAX
  pub number : (replica : ℕ) (none : NodeView) → replica < length nodes → (get_or nodes replica none).replica ≡ replica

-- each inbox has the plan of its replica's link
abbrev pub HavePlans : Workload → List PostboxView → Type 0
HavePlans plan inboxes = (replica : ℕ) (none : PostboxView) → replica < length inboxes → (get_or inboxes replica none).plan ≡ get_or plan.links replica no_faults

-- the inboxes of the replicas of a desk, by number: all that waits is of the desk and for the replica
pub record AreInboxes (desk : DeskView) (inboxes : List (InboxState ParcelView)) : Type 0 where
  pub parcels : (replica : ℕ) (none : InboxState ParcelView) → replica < length inboxes
      → AreFor desk.table replica (get_or inboxes replica none).waiting
