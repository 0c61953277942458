-- What a plan asks of a run: which calls a client may have made for its items (this project's own rule).
use Rattle.std.specs.Prelude.{◌≡◌, ℕ, ◌+◌, ◌*◌, ◌<◌, ◌≤◌, ◌⊎◌, ◌==◌, Bool, true, false, nat_le, unsigned_abs, List, [], ◌∷◌, ◌++◌, All, filter, length, sum_by, take, Option, Some, None, if◌then◌else◌}
use Rattle.std.specs.List.{slice_get}
use Rattle.tact_base.specs.declared.conit_list.Weight.{Weight}
use Rattle.tact_base.specs.declared.write.Op.{Op}
use Rattle.run_model.specs.Call.{is_waiting}
use Rattle.run_model.specs.Histories.{part_of}
use Rattle.run_model.specs.Missing.{reserved}
use Rattle.run_model.specs.declared.call.Request.{Request}
use Rattle.run_model.specs.declared.call.Request.TheVariants as request
use Rattle.run_model.specs.declared.entry.Act.{Act}
use Rattle.run_model.specs.declared.entry.Act.TheVariants as act
use Rattle.run_model.specs.declared.entry.Entry.{Entry}
use Rattle.work_load.specs.Workloads.{Workload}
use Rattle.work_load.specs.declared.plan.Client.{Client}
use Rattle.work_load.specs.declared.plan.Item.{Item}
use Rattle.work_load.specs.declared.plan.Item.TheVariants as item

-- what a client holds on a conit after its calls: granted, less released, less spent
abbrev pub holds : List Entry → ℕ → ℕ
holds calls conit = reserved calls conit

-- a held item is a held write where what the client holds suffices, and else a write of that one weight
abbrev pub asked_with : ℕ → Weight → Op → Request
asked_with held weight op = if nat_le (unsigned_abs weight.nweight) held then request.Held weight op else request.Write (weight ∷ []) op

-- What an item asks for after a client's calls. A release asks for all that the client holds; loans, returns and restarts
-- are no calls.
abbrev pub asked : List Entry → Item → Option Request
asked before (item.Write weights op) = Some (request.Write weights op)
asked before (item.Held weight op) = Some (asked_with (holds before weight.conit) weight op)
asked before (item.Reserve conit amount) = Some (request.Reserve conit amount)
asked before (item.Release conit) = Some (request.Release conit (holds before conit))
asked before (item.Read key needs) = Some (request.Read key needs)
asked before (item.Lend holder conit amount) = None
asked before (item.Back owner conit amount) = None
asked before item.Restart = None

-- a call that was asked for, and one whose reply waits
abbrev pub Asks : Request → Act → Type 0
Asks wanted (act.Call client number request reply) = request ≡ wanted
Asks wanted other = ⊥

abbrev pub waits : Act → Bool
waits (act.Call client number request reply) = is_waiting reply
waits other = false

abbrev pub IsWaitingFor : Request → Entry → Type 0
IsWaitingFor wanted call = Asks wanted call.act × (waits call.act ≡ true)

-- The tries of what an item asks for: at most so many, all but the last wait, and the last is final or the last try.
pub record AreTries (tries : ℕ) (wanted : Request) (calls : List Entry) : Type 0 where
  pub front : List Entry
  pub last : Entry
  pub all : calls ≡ front ++ last ∷ []
  pub few : length calls ≤ tries
  pub waiting : All (IsWaitingFor wanted) front
  pub asks : Asks wanted last.act
  pub ends : (waits last.act ≡ false) ⊎ (length calls ≡ tries)

abbrev pub AreCallsFor : ℕ → Option Request → List Entry → Type 0
AreCallsFor tries (Some wanted) calls = AreTries tries wanted calls
AreCallsFor tries None calls = calls ≡ []

-- the calls for items, one after the other, after others
abbrev pub AttemptsAfter : ℕ → List Entry → List Item → List Entry → Type 0
AttemptsAfter tries before [] calls = calls ≡ []
AttemptsAfter tries before (item ∷ items) calls =
    (tried : List Entry) × (rest : List Entry)
    × (calls ≡ tried ++ rest) × AreCallsFor tries (asked before item) tried × AttemptsAfter tries (before ++ tried) items rest

-- the calls of a client that has done all its items
abbrev pub Attempts : ℕ → List Item → List Entry → Type 0
Attempts tries items calls = AttemptsAfter tries [] items calls

-- fewer tries of the next item than there may be, each of which waits
abbrev pub AreWaitingFor : ℕ → Option Request → List Entry → Type 0
AreWaitingFor tries (Some wanted) calls = (length calls < tries) × All (IsWaitingFor wanted) calls
AreWaitingFor tries None calls = calls ≡ []

abbrev pub AreBegunFor : ℕ → List Entry → Option Item → List Entry → Type 0
AreBegunFor tries before (Some item) calls = AreWaitingFor tries (asked before item) calls
AreBegunFor tries before None calls = calls ≡ []

-- the calls of a client that has done some first items, and may have begun with the next
pub record Begun (tries : ℕ) (items : List Item) (calls : List Entry) : Type 0 where
  pub done : ℕ
  pub front : List Entry
  pub rest : List Entry
  pub among : done ≤ length items
  pub all : calls ≡ front ++ rest
  pub attempts : Attempts tries (take done items) front
  pub begun : AreBegunFor tries front (slice_get items done) rest

-- how many items the clients of a replica have
abbrev pub items_at : Workload → ℕ → ℕ
items_at plan replica = sum_by (λ (client : Client). length client.items) (filter (λ (client : Client). client.replica == replica) plan.clients)

-- how many calls a replica's part has
abbrev pub is_call : Act → Bool
is_call (act.Call client number request reply) = true
is_call other = false

abbrev pub calls_at : List Entry → ℕ → ℕ
calls_at history replica = length (filter (λ entry. is_call entry.act) (part_of history replica))

-- How many entries of a replica a run of a plan can reach: of each call and of each item one entry, 16 takes and 7 sends,
-- and of the rounds that settle it what an inbox can hold, and 21 each.
abbrev pub settling : ℕ → ℕ
settling rounds = if rounds == 0 then 0 else 1024 + 21 * rounds

unfoldable pub reach : Workload → List Entry → ℕ → ℕ
reach plan history replica = 24 * (items_at plan replica + calls_at history replica) + settling plan.settle
