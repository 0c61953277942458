-- What a worker's items leave of its client's calls, and of how many entries were made.
use Rattle.std.proofs.Common.{ℕ, ◌+◌, ◌*◌, ◌<◌, ◌≤◌, List, [], ◌++◌, length, get_or, take, Option, Some, None, refl, sym, subst, ⊎_elim, arith}
use Rattle.std.specs.List.{slice_get}
use Rattle.std.proofs.lemmas.List.{append-nil, take_all, take_more}
use Rattle.std.proofs.lemmas.List.Elements.{All-nil}
use Rattle.std.proofs.lemmas.Option.{slice_get-get_or}
use Rattle.run_model.specs.declared.call.Request.{Request}
use Rattle.run_model.specs.declared.entry.Entry.{Entry}
use Rattle.work_load.specs.Attempts.{AreBegunFor, AreWaitingFor, Attempts, Begun, IsWaitingFor, asked}
use Rattle.work_load.specs.declared.plan.Item.{Item}
use Rattle.work_load.proofs.AttemptLemmas.{attempts-push}
use Rattle.replica_lock.specs.Sessions.{SessionView, own_calls}
use Rattle.steady_node.specs.Going.{GoesOn}
use Rattle.steady_node.proofs.Goings.{unmarked-before}
use Rattle.run_work.specs.Trying.{HasBegun, HasDone, HasWaited}
use Rattle.run_work.specs.Working.{IsBusyFor}

-- the calls of the items up to a place, and of the one there
module _ (tries : ℕ) (items : List Item) (place : ℕ) (none : Item) (within : place < length items) (before after : List Entry)
    (so_far : Attempts tries (take place items) before) where
  abbrev here : Item
  here = get_or items place none

  pub Attempts-item : HasDone tries here before after → Attempts tries (take (place + 1) items) after
  Attempts-item (calls, all, done) =
      subst (λ (cs : List Entry). Attempts tries (take (place + 1) items) cs) (sym all)
      (subst (λ (xs : List Item). Attempts tries xs (before ++ calls)) (sym (take_more items place none within))
      (attempts-push tries (take place items) here before calls so_far done))

  -- that item may have been begun, as its tries that wait
  Begun-waiting : HasWaited tries here before after → Begun tries items after
  Begun-waiting (calls, all, waiting) = record {
    done = place;
    front = before;
    rest = calls;
    among = omega (arith, within);
    all = all;
    attempts = so_far;
    begun = subst (λ (next : Option Item). AreBegunFor tries before next calls) (sym (slice_get-get_or items place none within)) waiting;
  }

  module _ (some : 0 < tries) where
    no_tries : (wanted : Option Request) → AreWaitingFor tries wanted []
    no_tries None = refl
    no_tries (Some wanted) = (some, All-nil (IsWaitingFor wanted))

    -- nothing of a next item is begun
    none_of : (next : Option Item) → AreBegunFor tries after next []
    none_of None = refl
    none_of (Some next) = no_tries (asked after next)

    Begun-done : HasDone tries here before after → Begun tries items after
    Begun-done done = record {
      done = place + 1;
      front = after;
      rest = [];
      among = omega (arith, within);
      all = sym (append-nil after);
      attempts = Attempts-item done;
      begun = none_of (slice_get items (place + 1));
    }

    pub Begun-item : HasBegun tries here before after → Begun tries items after
    Begun-item begun = ⊎_elim Begun-done Begun-waiting begun

-- so are all, where the place is behind the last
pub Attempts-all : (tries : ℕ) (items : List Item) (place : ℕ) (calls : List Entry)
    → length items ≤ place
    → Attempts tries (take place items) calls
    → Attempts tries items calls
Attempts-all tries items place calls past so_far =
    subst (λ (xs : List Item). Attempts tries xs calls) (take_all place items past) so_far

-- of each try at most 24 entries were made, and each but the last is a call
pub IsBusyFor-tried : (before after : SessionView) (tries : ℕ)
    → GoesOn (24 * (tries + 1)) before after
    → length (own_calls before) + tries ≤ length (own_calls after)
    → (count : ℕ)
    → IsBusyFor count before
    → IsBusyFor (count + 1) after
IsBusyFor-tried before after tries on calls count busy unmarked =
    go (length (own_calls before)) (length (own_calls after)) calls (busy (unmarked-before (24 * (tries + 1)) before after on unmarked)) (on.few unmarked)
  where
    go : (was now : ℕ)
        → was + tries ≤ now
        → before.made ≤ 24 * (count + was)
        → after.made ≤ before.made + 24 * (tries + 1)
        → after.made ≤ 24 * ((count + 1) + now)
    go was now more busy made = omega (arith, more, busy, made)
