-- Calls of clients: what may be asked, what an answer is, what it leaves, and what a waiting reply names.
use Rattle.std.specs.Prelude.{◌≡◌, ◌≢◌, ℕ, ◌-◌, ◌<◌, ◌≤◌, ℤ, pos, negsuc, unsigned_abs, nat_le, false, List, [], ◌∷◌, ◌++◌, All, Contains, slice_set, if◌then◌else◌, Option, None, Some}
use Rattle.tact_base.specs.Setup.{Setup}
use Rattle.tact_base.specs.Sums.{above_zero, below_zero, order_sum}
use Rattle.tact_base.specs.declared.conit_list.Weight.{Weight}
use Rattle.tact_base.specs.declared.fit.Fit.TheVariants.{Fits}
use Rattle.tact_base.specs.declared.limits.TheConstants.{CLIENTS, MOMENT_MAX}
use Rattle.tact_base.specs.declared.write.Write.{Write}
use Rattle.split_budget.specs.Answers.{weight_answer, reserve_answer}
use Rattle.split_budget.specs.Budgets.{BudgetState, reserved_on}
use Rattle.run_model.specs.Histories.{calls_in, moment_at}
use Rattle.run_model.specs.Loans.{out}
use Rattle.run_model.specs.Missing.{maybe_missed, missing_plus, missing_minus}
use Rattle.run_model.specs.Order.{point, tentative}
use Rattle.run_model.specs.Ranges.{IsRequestInRange}
use Rattle.run_model.specs.Replies.{refused_as, reply_of}
use Rattle.run_model.specs.Taking.{cover_of}
use Rattle.run_model.specs.declared.call.Reply.{Reply}
use Rattle.run_model.specs.declared.call.Reply.TheVariants as reply
use Rattle.run_model.specs.declared.call.Request.{Request}
use Rattle.run_model.specs.declared.call.Request.TheVariants as request
use Rattle.run_model.specs.declared.entry.Act.TheVariants as act
use Rattle.run_model.specs.declared.entry.Entry.{Entry}
use Rattle.replica_core.specs.States.{Core, is_full, with_call, with_own}
use Rattle.replica_core.specs.Stands.{Stands, with_act}

-- a request that asks for no write
abbrev pub IsWithoutWrite : Request → Type 0
IsWithoutWrite (request.Write weights op) = ⊥
IsWithoutWrite (request.Held weight op) = ⊥
IsWithoutWrite other = Unit {0}

-- what a client may ask at a moment of a replica that isn't full
pub record MayAsk (core : Core) (moment client : ℕ) (asked : Request) : Type 0 where
  pub not_full : is_full core ≡ false
  pub moment_in : moment ≤ MOMENT_MAX
  pub client_in : client < CLIENTS
  pub in_range : IsRequestInRange core.setup asked

-- For each part that the replica stood for, the reply is the one that is due, and it stands for the part with that
-- call.
abbrev pub Answers : Core → Core → ℕ → ℕ → Request → Reply → Type 0
Answers old new moment client asked given =
    (part : List Entry) → Stands part old
    → (given ≡ reply_of old.setup old.replica part (moment_at part moment) asked)
    × Stands (with_act old.replica part moment (act.Call client (calls_in part client) asked given)) new

-- what a weight, and an amount to be reserved on a conit, is refused with, if it is
abbrev pub refusal_of : BudgetState → Weight → Option Reply
refusal_of budgets weight = refused_as weight.conit (weight_answer budgets weight)

abbrev pub reserve_refusal : BudgetState → ℕ → ℕ → Option Reply
reserve_refusal budgets conit amount = refused_as conit (reserve_answer budgets conit amount)

-- The weights of a write count where they fit; or the write has one weight, which is held: its size is reserved.
abbrev pub MayCount : BudgetState → List Weight → Option Weight → Type 0
MayCount budgets weights None = All (λ weight. weight_answer budgets weight ≡ Fits) weights
MayCount budgets weights (Some held) = (weights ≡ held ∷ []) × (unsigned_abs held.nweight ≤ reserved_on budgets held.conit)

-- what is reserved then: a held weight takes its size out of it
abbrev pub left_reserved : BudgetState → Option Weight → List ℕ
left_reserved budgets None = budgets.reserved
left_reserved budgets (Some held) = slice_set budgets.reserved held.conit (reserved_on budgets held.conit - unsigned_abs held.nweight)

-- budgets with the weights of one more own write
abbrev pub with_counted : BudgetState → List Weight → Option Weight → BudgetState
with_counted budgets weights held =
    record budgets { weights = budgets.weights ++ weights ∷ []; reserved = left_reserved budgets held }

-- a replica with a write of its own, which a client asked for
abbrev pub accepted : Core → ℕ → Write → Option Weight → Core
accepted core client write held =
    record (with_call core client) { writes = with_own core write; budgets = with_counted core.budgets write.weights held }

-- An nweight counts on the side of another: they have one sign. Of a reserve that is the sign of the greater sum.
abbrev pub on_side_of : ℤ → ℤ → ℕ
on_side_of (pos n) = above_zero
on_side_of (negsuc n) = below_zero

abbrev pub on_greater_side : ℕ → List Entry → ℕ → ℕ → ℤ → ℕ
on_greater_side replica part peer conit =
    if nat_le (missing_minus replica part peer conit) (missing_plus replica part peer conit) then above_zero else below_zero

-- an nweight on a conit counts against a request, at a peer
abbrev pub CountsAgainst : ℕ → List Entry → ℕ → ℕ → Request → ℤ → Type 0
CountsAgainst replica part peer conit (request.Write weights op) nweight =
    (asked : Weight) × Contains weights asked × (asked.conit ≡ conit) × (0 < on_side_of asked.nweight nweight)
CountsAgainst replica part peer conit (request.Reserve at amount) nweight = 0 < on_greater_side replica part peer conit nweight
CountsAgainst replica part peer conit other nweight = ⊥

-- An own write that a peer isn't known to have, with a weight on a conit that counts against a request.
pub record WaitsForPeer (setup : Setup) (replica : ℕ) (part : List Entry) (peer conit : ℕ) (asked : Request) : Type 0 where
  pub among : peer < setup.replicas
  pub other : peer ≢ replica
  pub write : Write
  pub unknown : Contains (maybe_missed replica part peer) write
  pub weight : Weight
  pub weighs : Contains write.weights weight
  pub there : weight.conit ≡ conit
  pub counts : CountsAgainst replica part peer conit asked weight.nweight

-- A waiting reply names its cause: a peer that may miss a write which counts against the request; a holder with a loan
-- out; a replica whose cover keeps weights on the conit tentative; or a peer whose cover is of a moment before the
-- wanted one.
abbrev pub NamesCause : Setup → ℕ → List Entry → ℕ → Request → Reply → Type 0
NamesCause setup replica part moment asked (reply.WaitShare conit peer missing reserved weight share) =
    WaitsForPeer setup replica part peer conit asked
NamesCause setup replica part moment asked (reply.WaitLent conit holder out_there total num) =
    (holder < setup.replicas) × (holder ≢ replica) × (out_there ≡ out setup replica part holder conit) × (0 < out_there)
NamesCause setup replica part moment asked (reply.WaitOrder conit named held order) =
    (named < setup.replicas) × ((cover_of replica part moment named).stamp ≡ point setup replica part)
    × (0 < order_sum (tentative setup replica part) conit)
NamesCause setup replica part moment asked (reply.WaitStale conit named seen wanted) =
    (named < setup.replicas) × (named ≢ replica) × (seen ≡ (cover_of replica part moment named).moment) × (seen < wanted)
NamesCause setup replica part moment asked other = Unit {0}
