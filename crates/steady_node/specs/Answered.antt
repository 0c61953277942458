-- Calls that were answered, at once or after the node began anew.
use Rattle.std.specs.Prelude.{◌≡◌, ◌≢◌, ℕ, ◌+◌, ◌<◌, false, Option, None, Some}
use Rattle.run_model.specs.declared.call.Reply.{Reply}
use Rattle.run_model.specs.declared.call.Reply.TheVariants as reply
use Rattle.run_model.specs.declared.call.Request.{Request}
use Rattle.run_model.specs.declared.call.Request.TheVariants as request
use Rattle.replica_lock.specs.Allowances.{AllowanceView, allowance_of}
use Rattle.replica_lock.specs.Sessions.{HasCalled, NodeView, SessionView, own_calls}
use Rattle.replica_lock.specs.declared.reserving.Reserving.{Reserving}
use Rattle.replica_lock.specs.declared.reserving.Reserving.TheVariants as reserving
use Rattle.steady_node.specs.Going.{IsUnmarked, entries_left}
use Rattle.steady_node.specs.Settled.{HasCallMore}
use Rattle.steady_node.specs.declared.settling.Outcome.{Outcome}
use Rattle.steady_node.specs.declared.settling.Outcome.TheVariants as outcome

-- A call was answered: the session has seen it with its reply, and isn't in doubt. While it is unmarked, the node answered
-- at once.
pub record IsAnswered (node : NodeView) (before after : SessionView) (asked : Request) (given : Reply) : Type 0 where
  pub certain : after.doubt ≡ false
  pub more : HasCallMore node.desk.setup before after asked given
  pub called : IsUnmarked after → (moment : ℕ) × HasCalled node.desk.setup before after moment asked given

-- a call wasn't made, and is made again: the session is marked, and its replica can make fewer entries
pub record HasFailed (before after : SessionView) : Type 0 where
  pub certain : after.doubt ≡ false
  pub calls : own_calls after ≡ own_calls before
  pub marked : IsUnmarked after → ⊥
  pub nearer : entries_left after < entries_left before

-- a call that is tried once: it is answered, or wasn't made
abbrev pub IsTried : NodeView → Request → SessionView → SessionView → Option Reply → Type 0
IsTried node asked before after (Some given) = IsAnswered node before after asked given
IsTried node asked before after None = HasFailed before after

-- a reserve that was answered: an allowance of just that amount, or another reply
abbrev pub IsReservedBy : NodeView → ℕ → ℕ → (Reply → Type 0) → Reserving → Type 0
IsReservedBy node conit amount Answered (reserving.Granted allowance) = Answered reply.Granted × (allowance ≡ allowance_of node conit amount)
IsReservedBy node conit amount Answered (reserving.Waiting given) = Answered given × (given ≢ reply.Granted)

abbrev pub IsReservedOnce : NodeView → ℕ → ℕ → SessionView → SessionView → Option Reserving → Type 0
IsReservedOnce node conit amount before after (Some answer) = IsReservedBy node conit amount (IsAnswered node before after (request.Reserve conit amount)) answer
IsReservedOnce node conit amount before after None = HasFailed before after

-- what a reserve came to: an allowance of just that amount, another reply, or nothing where it wasn't made
abbrev pub IsReservingOf : Outcome → ℕ → ℕ → Option Reserving → Type 0
IsReservingOf came conit amount (Some (reserving.Granted allowance)) =
    (came ≡ outcome.Stands reply.Granted (Some allowance)) × (allowance.conit ≡ conit) × (allowance.amount ≡ amount)
IsReservingOf came conit amount (Some (reserving.Waiting given)) = (came ≡ outcome.Stands given None) × (given ≢ reply.Granted)
IsReservingOf came conit amount None = came ≡ outcome.Dropped None

-- none of these
abbrev pub IsNoReserving : Outcome → ℕ → ℕ → Type 0
IsNoReserving came conit amount = (answer : Option Reserving) → IsReservingOf came conit amount answer → ⊥

-- What a call came to that takes no allowance; and one that takes of an allowance, which has so much left where the call
-- stands, and else all that it had.
abbrev pub IsPlain : Outcome → Option Reply → Type 0
IsPlain came (Some given) = came ≡ outcome.Stands given None
IsPlain came None = came ≡ outcome.Dropped None

abbrev pub with_amount : AllowanceView → ℕ → AllowanceView
with_amount allowance amount = record allowance { amount = amount }

abbrev pub IsTakenFrom : Outcome → AllowanceView → AllowanceView → ℕ → ℕ → Option Reply → Type 0
IsTakenFrom came before after whole left (Some given) =
    (back : Option AllowanceView) × (came ≡ outcome.Stands given back) × (after ≡ with_amount before left)
IsTakenFrom came before after whole left None =
    (back : Option AllowanceView) × (came ≡ outcome.Dropped back) × (after ≡ with_amount before whole)

-- what comes back makes up the amount that is due, with what an allowance has: so much where the call stands, and else all
-- that it had
abbrev pub MakesUp : AllowanceView → Option AllowanceView → ℕ → Type 0
MakesUp allowance None due = allowance.amount ≡ due
MakesUp allowance (Some back) due = (back.conit ≡ allowance.conit) × (allowance.amount + back.amount ≡ due)

abbrev pub IsMadeUp : Outcome → AllowanceView → ℕ → ℕ → Type 0
IsMadeUp (outcome.Stands given back) allowance whole left = MakesUp allowance back left
IsMadeUp (outcome.Dropped back) allowance whole left = MakesUp allowance back whole

-- a reply that isn't such
abbrev pub IsOtherThan : (Reply → Type 0) → Option Reply → Type 0
IsOtherThan IsSuch (Some given) = IsSuch given → ⊥
IsOtherThan IsSuch None = ⊥
