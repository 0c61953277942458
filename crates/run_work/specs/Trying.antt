-- What the tries of an item leave of a client's calls.
use Rattle.std.specs.Prelude.{◌≡◌, ◌⊎◌, ℕ, Bool, true, false, if◌then◌else◌, List, [], ◌∷◌, ◌++◌, Option, Some, None, Result, Err}
use Rattle.anti_entropy.specs.Wishes.{wish_of}
use Rattle.run_model.specs.Call.{is_waiting}
use Rattle.run_model.specs.declared.call.Reply.{Reply}
use Rattle.locked_replica.specs.declared.fault.NodeLoanFault.{NodeLoanFault}
use Rattle.locked_replica.specs.declared.fault.NodeLoanFault.TheVariants.{Node}
use Rattle.run_model.specs.declared.call.Request.{Request}
use Rattle.run_model.specs.declared.entry.Entry.{Entry}
use Rattle.replica_lock.specs.Sessions.{SessionView}
use Rattle.steady_node.specs.Endings.{IsTold}
use Rattle.work_load.specs.Attempts.{AreCallsFor, AreWaitingFor, Asks, IsWaitingFor, asked, waits}
use Rattle.work_load.specs.declared.plan.Item.{Item}
use Rattle.run_work.specs.declared.trying.Tried.{Tried}
use Rattle.run_work.specs.declared.trying.Tried.TheVariants.{Final, Waiting}

-- the calls of one try of what an item asks for: one with a final reply, one whose reply waits, or none for no call
abbrev pub IsTry : Option Request → Tried → List Entry → Type 0
IsTry (Some wanted) Final calls = (call : Entry) × (calls ≡ call ∷ []) × Asks wanted call.act × (waits call.act ≡ false)
IsTry (Some wanted) (Waiting wish) calls = (call : Entry) × (calls ≡ call ∷ []) × IsWaitingFor wanted call
IsTry None Final calls = calls ≡ []
IsTry None (Waiting wish) calls = ⊥

-- how a reply ends a try
abbrev pub tried_by : Reply → Tried
tried_by reply = if is_waiting reply then Waiting (wish_of reply) else Final

-- a loan or a return was refused by its node, and not for its amount; and what the session was told then
abbrev pub is_refused : Result (Unit {0}) NodeLoanFault → Bool
is_refused (Err (Node told)) = true
is_refused other = false

abbrev pub IsLoanTold : Result (Unit {0}) NodeLoanFault → SessionView → Type 0
IsLoanTold (Err (Node told)) session = IsTold told session
IsLoanTold other session = Unit {0}

-- such calls follow those of before
abbrev pub HasAsked : Request → Tried → List Entry → List Entry → Type 0
HasAsked wanted tried before after = (calls : List Entry) × (after ≡ before ++ calls) × IsTry (Some wanted) tried calls

abbrev pub HasTried : Item → Tried → List Entry → List Entry → Type 0
HasTried item tried before after = (calls : List Entry) × (after ≡ before ++ calls) × IsTry (asked before item) tried calls

-- an item is done, or some tries of it wait
abbrev pub HasDone : ℕ → Item → List Entry → List Entry → Type 0
HasDone tries item before after = (calls : List Entry) × (after ≡ before ++ calls) × AreCallsFor tries (asked before item) calls

abbrev pub HasWaited : ℕ → Item → List Entry → List Entry → Type 0
HasWaited tries item before after = (calls : List Entry) × (after ≡ before ++ calls) × AreWaitingFor tries (asked before item) calls

abbrev pub HasBegun : ℕ → Item → List Entry → List Entry → Type 0
HasBegun tries item before after = HasDone tries item before after ⊎ HasWaited tries item before after
