-- What a worker keeps, and what it has done.
use Rattle.std.specs.Prelude.{◌≡◌, ◌≢◌, ℕ, ◌+◌, ◌*◌, ◌≤◌, Bool, false, List, All, length, get_or, [], ◌<◌, Option, Some, None, true}
use Rattle.tact_base.specs.Setup.{IsSetup}
use Rattle.run_history.specs.Seats.{DeskView}
use Rattle.replica_lock.specs.Allowances.{AllowanceView}
use Rattle.replica_lock.specs.Sessions.{IsAtNode, IsSessionOf, NodeView, SessionView, own_calls}
use Rattle.steady_node.specs.Endings.{IsCause}
use Rattle.steady_node.specs.Going.{IsUnmarked}
use Rattle.steady_node.specs.declared.ending.Ending.{Ending}
use Rattle.work_load.specs.Attempts.{Attempts, Begun}
use Rattle.work_load.specs.Ranges.{IsItemOf}
use Rattle.work_load.specs.declared.plan.Client.{Client}
use Rattle.run_work.specs.Holding.{Holds}
use Rattle.run_work.specs.Serving.{IsClientServed}
use Rattle.run_work.specs.Sites.{SitesView}

-- its node, its client, the session of the client and what this holds by conit, and why it ended, if it did before its last
-- item
pub record WorkerView : Type 0 where
  pub node : NodeView
  pub client : Client
  pub session : SessionView
  pub allowances : List AllowanceView
  pub end : Option Ending

-- A worker's node is one of the desk's replicas, and that of its client, whose items are in range there. The session is of
-- the client, and at the node.
pub record IsWorker (desk : DeskView) (worker : WorkerView) : Type 0 where
  pub sound : IsSetup desk.setup
  pub desk_is : worker.node.desk ≡ desk
  pub among : worker.node.replica < desk.setup.replicas
  pub replica : worker.node.replica ≡ worker.client.replica
  pub items : All (IsItemOf desk.setup.replicas desk.setup.conits worker.client.replica) worker.client.items
  pub at : IsAtNode worker.node worker.session
  pub number : worker.session.client ≡ worker.client.client

-- a worker may do its next item: its session isn't in doubt, and the allowances are what the client holds after its calls
pub record IsReady (worker : WorkerView) : Type 0 where
  pub session : IsSessionOf worker.node worker.session
  pub held : Holds worker.node (own_calls worker.session) worker.allowances

-- where the last call of a session is lost, it marked that the journal failed
abbrev pub IsMarkedLost : SessionView → Ending → Type 0
IsMarkedLost session ending = ending.lost ≡ true → session.faults ≢ 0

-- Why a worker ends. Where its last call isn't lost, the session isn't in doubt; where it is, the session marked that the
-- journal failed.
pub record IsEnding (tells : Bool) (session : SessionView) (ending : Ending) : Type 0 where
  pub cause : IsCause tells session ending.fault
  pub certain : ending.lost ≡ false → session.doubt ≡ false
  pub marked : IsMarkedLost session ending

-- why it does where no call is lost

abbrev pub IsKeptEnd : Bool → SessionView → Ending → Type 0
IsKeptEnd tells session ending = IsCause tells session ending.fault × (ending.lost ≡ false)

-- what a client's session has seen where all items were done, or where its worker ended before, at most in the midst of an
-- item, if no call is lost
abbrev pub HasLeftOff : Bool → ℕ → Client → SessionView → Option Ending → Type 0
HasLeftOff tells tries client session None = (session.doubt ≡ false) × Attempts tries client.items (own_calls session)
HasLeftOff tells tries client session (Some ending) =
    IsEnding tells session ending × (ending.lost ≡ false → Begun tries client.items (own_calls session))

-- of so many items and each call at most 24 entries were made, while the session is unmarked
abbrev pub IsBusyFor : ℕ → SessionView → Type 0
IsBusyFor items session = IsUnmarked session → session.made ≤ 24 * (items + length (own_calls session))

-- a worker at its node among sites, before its first item
pub record IsFresh (sites : SitesView) (worker : WorkerView) : Type 0 where
  pub node : (none : NodeView) → worker.node ≡ get_or sites.nodes worker.client.replica none
  pub replica : worker.client.replica < length sites.nodes
  pub calls : own_calls worker.session ≡ []
  pub made : worker.session.made ≡ 0
  pub end : worker.end ≡ None
  pub ready : IsReady worker

-- and after its last
pub record HasWorked (tells : Bool) (sites : SitesView) (tries : ℕ) (worker : WorkerView) : Type 0 where
  pub node : (none : NodeView) → worker.node ≡ get_or sites.nodes worker.client.replica none
  pub replica : worker.client.replica < length sites.nodes
  pub at : IsAtNode worker.node worker.session
  pub number : worker.session.client ≡ worker.client.client
  pub ended : HasLeftOff tells tries worker.client worker.session worker.end
  pub busy : IsBusyFor (length worker.client.items) worker.session
  pub served : worker.end ≡ None → IsUnmarked worker.session → IsClientServed worker.node.desk.setup worker.client worker.session.seen
