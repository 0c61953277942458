-- What the run of a workload is.
use Rattle.std.specs.Prelude.{◌≡◌, ℕ, ◌<◌, ◌≤◌, false, IsTrue, List, [], All, length}
use Rattle.std.specs.List.{list_any}
use Rattle.tact_base.specs.declared.limits.TheConstants.{HISTORY_MAX}
use Rattle.tact_io.specs.Faults.{HasRisen}
use Rattle.run_model.specs.Histories.{calls_of, part_of}
use Rattle.run_model.specs.Promises.{IsKept}
use Rattle.run_model.specs.Runs.{IsRun}
use Rattle.run_model.specs.Taking.{clock}
use Rattle.run_model.specs.declared.entry.Entry.{Entry}
use Rattle.work_load.specs.Attempts.{Attempts, Begun, reach}
use Rattle.work_load.specs.Clients.{is_of}
use Rattle.work_load.specs.Workloads.{Workload}
use Rattle.work_load.specs.declared.plan.Client.{Client}
use Rattle.work_load.specs.declared.plan.Item.{Item}
use Rattle.run_work.specs.Served.{IsServed}
use Rattle.run_work.specs.Shelves.{IsStored, IsSure, ShelfEnd}
use Rattle.run_work.specs.declared.run.RunFault.{RunFault}
use Rattle.run_work.specs.declared.run.RunFault.TheVariants as fault

-- A history is a run that keeps its promises, with the calls that each client of a plan may have made for its items, and
-- no calls of others.
pub record IsRunOf (Made : List Item → List Entry → Type 0) (plan : Workload) (history : List Entry) : Type 0 where
  pub run : IsRun plan.setup history
  pub promised : IsKept plan.setup history
  pub clients : All (λ (client : Client). Made client.items (calls_of history client.replica client.client)) plan.clients
  pub others : (replica number : ℕ) → list_any (is_of replica number) plan.clients ≡ false → calls_of history replica number ≡ []

-- the journal of each replica was put back with the pieces of its part of a history
abbrev pub ArePutBack : ShelfEnd → Workload → List Entry → Type 0
ArePutBack shelf plan history = (replica : ℕ) → replica < plan.setup.replicas → IsStored shelf.stored replica (part_of history replica)

-- All items are done. Where no journal failed the plan is served, and the journals have the history's pieces.
pub record IsDoneRun (shelf : ShelfEnd) (plan : Workload) (tries : ℕ) (history : List Entry) : Type 0 where
  pub run : IsRunOf (Attempts tries) plan history
  pub served : IsSure shelf → IsServed plan history
  pub put_back : IsSure shelf → ArePutBack shelf plan history

-- Some first items of each client are done and the next may be begun, and a replica has as many entries as it may; with this
-- number and the replica's clock. Where no journal failed it could reach as many by what the plan asks for, and the journals
-- have the history's pieces.
pub record IsFullRun (shelf : ShelfEnd) (plan : Workload) (tries replica count stamp : ℕ) (history : List Entry) : Type 0 where
  pub run : IsRunOf (Begun tries) plan history
  pub full : length (part_of history replica) ≡ HISTORY_MAX
  pub count_is : count ≡ HISTORY_MAX
  pub clock_is : stamp ≡ clock (part_of history replica)
  pub reached : IsSure shelf → HISTORY_MAX ≤ reach plan history replica
  pub put_back : IsSure shelf → ArePutBack shelf plan history

-- Why a run isn't done: a replica is full, with the run up to there; a journal failed, or the shelf, whose count rose; a
-- journal gave another piece than was appended, which none does that tells its pieces; or there was no memory.
abbrev pub IsStoppedRun : ShelfEnd → Workload → ℕ → RunFault → Type 0
IsStoppedRun shelf plan tries (fault.Full replica count clock run) = IsFullRun shelf plan tries replica count clock run
IsStoppedRun shelf plan tries (fault.JournalFault replica) = HasRisen shelf.before shelf.after
IsStoppedRun shelf plan tries (fault.JournalForeign replica place) = IsTrue shelf.tells → ⊥
IsStoppedRun shelf plan tries fault.NoMemory = Unit {0}
