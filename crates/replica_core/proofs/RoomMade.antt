-- As room is made, what a replica keeps stays.
use Rattle.std.proofs.Common.{◌≡◌, ◌≢◌, ℕ, ◌≤◌, List, length, Option, Some, Result, Ok, Err, refl, sym, ap, ◌∙◌, subst, le_trans, arith}
use Rattle.std.specs.Option.{SomeIff}
use Rattle.std.specs.Result.{OnErr}
use Rattle.tact_base.specs.declared.write.Write.{Write}
use Rattle.split_budget.specs.Budgets.{BudgetState}
use Rattle.write_log.specs.Logs.{LogState, room_of}
use Rattle.replica_core.specs.Seen.{SeenState}
use Rattle.replica_core.specs.States.{Core, HasRooms}
use Rattle.replica_core.proofs.BudgetRoom.{with_room}
use Rattle.replica_core.proofs.TrimmedKept.{with_given_up}

pub same_core : (core : Core) (logs : LogState) (seen : SeenState)
    → logs.bases ≡ core.writes.bases
    → logs.logs ≡ core.writes.logs
    → seen.writes ≡ core.writes.seen
    → seen.dropped ≡ core.writes.dropped
    → seen.point ≡ core.writes.point
    → core ≡ with_given_up core logs.bases logs.logs seen.writes seen.dropped seen.point
same_core core logs seen bases lists writes dropped point = rw (bases, lists, writes, dropped, point) refl

abbrev pub with_budgets : Core → BudgetState → Core
with_budgets core budgets = record core { budgets = with_room budgets 0 }

pub same_budgets : (core : Core) (old made : BudgetState)
    → made ≡ with_room old made.room
    → core.budgets ≡ with_room old 0
    → core ≡ with_budgets core made
same_budgets core old made same kept =
    ap (λ (budgets : BudgetState). let k : Core = record core { budgets = budgets } in k) (kept ∙ sym (ap (λ (budgets : BudgetState). with_room budgets 0) same))

-- more room in the log of an own write, among what is seen, and in the budgets
pub HasRooms-more : (replica spare beside : ℕ) (logs made : LogState) (seen more_seen budgets more_budgets : ℕ)
    → HasRooms replica spare beside logs seen budgets
    → made.logs ≡ logs.logs
    → room_of logs replica ≤ room_of made replica
    → ((origin : ℕ) → origin ≢ replica → room_of made origin ≡ room_of logs origin)
    → seen ≤ more_seen
    → budgets ≤ more_budgets
    → HasRooms replica spare beside made more_seen more_budgets
HasRooms-more replica spare beside logs made seen more_seen budgets more_budgets rooms same own others more_in more_of = record {
  own = le_trans rooms.own own;
  others = λ origin other within.
      subst (λ (n : ℕ). beside ≤ n) (sym (others origin other)) (rooms.others origin other (omega (arith, within, ap (λ (lists : List (List Write)). length lists) same)));
  seen = le_trans rooms.seen more_in;
  budgets = le_trans rooms.budgets more_of;
}

-- a sum that was found to fit
pub sum_is : (P : Type 0) (found : Option ℕ) (all sum : ℕ) → SomeIff found P sum → found ≡ Some all → all ≡ sum
sum_is P found all sum known is = (subst (λ (f : Option ℕ). SomeIff f P sum) is known).1

-- what holds at all holds where there is an error
pub on_err : {T E : Type 0} (result : Result T E) (P : Type 0) → P → OnErr result P
on_err (Ok value) P holds = tt
on_err (Err error) P holds = holds
