-- Restarts that items ask for, and those that are made; and what items ask for beside calls, loans and restarts together.
use Rattle.std.proofs.Common.{◌≡◌, ℕ, ◌+◌, ◌<◌, ◌≤◌, ◌==◌, Bool, true, false, List, [], ◌∷◌, ◌++◌, filter, get_or, length, take, refl, sym, ap, ◌∙◌, subst, arith}
use Rattle.std.specs.Prelude.{IfErr, OnOk, Result, Ok, Err, Some}
use Rattle.std.proofs.lemmas.Bool.{eq-eqb}
use Rattle.std.proofs.lemmas.List.{length-append, take_all, take_more}
use Rattle.std.proofs.lemmas.List.Elements.{filter-append}
use Rattle.tact_base.specs.Setup.{Setup}
use Rattle.run_model.specs.Histories.{IsPrefix, part_of}
use Rattle.run_model.specs.declared.entry.Act.TheVariants as act
use Rattle.run_model.specs.declared.entry.Entry.{Entry}
use Rattle.locked_replica.specs.Loans.{act_of}
use Rattle.locked_replica.specs.declared.fault.NodeLoanFault.{NodeLoanFault}
use Rattle.locked_replica.specs.declared.loan.Loan.{Loan}
use Rattle.replica_lock.specs.Loans.{IsLoanFaultSeen}
use Rattle.replica_lock.specs.Sessions.{HasHeard, HasMade, SessionView, entry_after, marked_lent}
use Rattle.steady_node.specs.Going.{GoesOn, IsUnmarked}
use Rattle.steady_node.proofs.Goings.{unmarked-before}
use Rattle.work_load.specs.declared.plan.Item.{Item}
use Rattle.work_load.specs.declared.plan.Item.TheVariants as item
use Rattle.run_work.specs.Served.{AreObeyed, asks_restart, is_restart, loan_of, restarts_asked, restarts_made}
use Rattle.run_work.specs.Serving.{HasLent, HasRestarted, IsObeyed}
use Rattle.run_work.specs.Trying.{is_refused}
use Rattle.run_work.proofs.Lending.{AreLent-item, AreLent-none, AreLent-on, HasLent-around, HasLent-asked, HasLent-none, no_loan}
use Rattle.run_work.proofs.TryingLemmas.{HaveWaited}

-- the restarts of two histories, one after the other
restarts_made-append : (seen more : List Entry) (replica : ℕ)
    → restarts_made (seen ++ more) replica ≡ restarts_made seen replica + restarts_made more replica
restarts_made-append seen more replica =
    ap (λ (part : List Entry). length (filter (λ (entry : Entry). is_restart entry.act) part)) (filter-append (λ (entry : Entry). entry.replica == replica) seen more)
    ∙ ap length (filter-append (λ (entry : Entry). is_restart entry.act) (part_of seen replica) (part_of more replica))
    ∙ length-append (filter (λ (entry : Entry). is_restart entry.act) (part_of seen replica)) (filter (λ (entry : Entry). is_restart entry.act) (part_of more replica))

-- no fewer are made as more is seen
restarts-seen : (replica : ℕ) (seen more : List Entry)
    → IsPrefix seen more
    → restarts_made seen replica ≤ restarts_made more replica
restarts-seen replica seen more (rest, is) =
    omega (arith, ap (λ (list : List Entry). restarts_made list replica) is, restarts_made-append seen rest replica)

one_restart : (entry : Entry) (replica : ℕ)
    → entry.replica ≡ replica
    → entry.act ≡ act.Restart
    → restarts_made (entry ∷ []) replica ≡ 1
one_restart entry replica at is = rw (eq-eqb entry.replica replica at, is) refl

-- a restart that is made is one more
HasRestarted-made : (setup : Setup) (before after : SessionView) (moment : ℕ)
    → HasMade setup before after moment act.Restart
    → HasRestarted item.Restart before after
HasRestarted-made setup before after moment made =
    let entry : Entry = entry_after before made.front moment act.Restart in
    omega (
      arith,
      restarts-seen before.replica before.seen made.front made.told,
      ap (λ (list : List Entry). restarts_made list before.replica) made.seen,
      restarts_made-append made.front (entry ∷ []) before.replica,
      one_restart entry before.replica refl refl,
    )

pub IsObeyed-restarted : (setup : Setup) (before after : SessionView) (moment : ℕ)
    → HasMade setup before after moment act.Restart
    → IsObeyed setup item.Restart before after
IsObeyed-restarted setup before after moment made unmarked = (tt, HasRestarted-made setup before after moment made)

-- and so is a loan that the node made, or refused for its amount
pub IsObeyed-lent : {A E : Type 0} (setup : Setup) (item : Item) (one : Loan) (before between after : SessionView) (moment : ℕ)
    (answer : Result (Unit {0}) NodeLoanFault) (result : Result A E)
    → HasRestarted item before after
    → loan_of item ≡ Some one
    → OnOk answer (HasMade setup before between moment (act_of one))
    → IfErr answer (λ told. HasHeard setup before (marked_lent told before) between)
    → IfErr answer (IsLoanFaultSeen setup between one)
    → (is_refused answer ≡ false → after ≡ between)
    → (is_refused answer ≡ true → OnOk result (IsUnmarked after → ⊥))
    → OnOk result (IsObeyed setup item before after)
IsObeyed-lent setup item one before between after moment answer (Err ending) none is made heard seen same marked = tt
IsObeyed-lent setup item one before between after moment answer (Ok done) none is made heard seen same marked = go (is_refused answer) refl
  where
    go : (refused : Bool) → is_refused answer ≡ refused → IsObeyed setup item before after
    go true refused unmarked = absurd (marked refused unmarked)
    go false plain unmarked = (
      subst (HasLent setup item before) (sym (same plain)) (HasLent-asked setup item one before between moment answer is made heard seen plain),
      none,
    )

-- as many more are made as an item asks for
restarts_more : (item : Item) (before after : SessionView)
    → IsPrefix before.seen after.seen
    → HasRestarted item before after
    → restarts_asked (item ∷ []) + restarts_made before.seen before.replica ≤ restarts_made after.seen before.replica
restarts_more item.Restart before after told more = omega (arith, more)
restarts_more (item.Write weights op) before after told more = omega (arith, restarts-seen before.replica before.seen after.seen told)
restarts_more (item.Held weight op) before after told more = omega (arith, restarts-seen before.replica before.seen after.seen told)
restarts_more (item.Reserve conit amount) before after told more = omega (arith, restarts-seen before.replica before.seen after.seen told)
restarts_more (item.Release conit) before after told more = omega (arith, restarts-seen before.replica before.seen after.seen told)
restarts_more (item.Read key needs) before after told more = omega (arith, restarts-seen before.replica before.seen after.seen told)
restarts_more (item.Lend holder conit amount) before after told more = omega (arith, restarts-seen before.replica before.seen after.seen told)
restarts_more (item.Back owner conit amount) before after told more = omega (arith, restarts-seen before.replica before.seen after.seen told)

restarts_asked-more : (items : List Item) (item : Item)
    → restarts_asked (items ++ item ∷ []) ≡ restarts_asked items + restarts_asked (item ∷ [])
restarts_asked-more items item =
    ap length (filter-append asks_restart items (item ∷ [])) ∙ length-append (filter asks_restart items) (filter asks_restart (item ∷ []))

-- items are obeyed as more is seen, and one more item is
pub AreObeyed-none : (setup : Setup) (replica : ℕ) (seen : List Entry) → AreObeyed setup replica [] seen
AreObeyed-none setup replica seen = record { lent = AreLent-none setup replica seen; restarted = omega arith }

module _ (setup : Setup) (items : List Item) (place : ℕ) (none : Item) (within : place < length items) (before after : SessionView) (told : IsPrefix before.seen after.seen)
    (so_far : AreObeyed setup before.replica (take place items) before.seen) where
  abbrev here : Item
  here = get_or items place none

  pub AreObeyed-item : HasLent setup here before after
      → HasRestarted here before after
      → AreObeyed setup before.replica (take (place + 1) items) after.seen
  AreObeyed-item lent restarted = record {
    lent = AreLent-item setup items place none within before after told so_far.lent lent;
    restarted =
        omega (
          arith,
          so_far.restarted,
          restarts_more here before after told restarted,
          ap restarts_asked (take_more items place none within),
          restarts_asked-more (take place items) here,
        );
  }

-- so are all, where the place is behind the last
pub AreObeyed-all : (setup : Setup) (replica : ℕ) (items : List Item) (place : ℕ) (seen : List Entry)
    → length items ≤ place
    → AreObeyed setup replica (take place items) seen
    → AreObeyed setup replica items seen
AreObeyed-all setup replica items place seen past obeyed =
    subst (λ (xs : List Item). AreObeyed setup replica xs seen) (take_all place items past) obeyed

-- what is obeyed as far as was seen is obeyed in the whole
pub AreObeyed-on : (setup : Setup) (replica : ℕ) (items : List Item) (seen history : List Entry)
    → IsPrefix seen history
    → AreObeyed setup replica items seen
    → AreObeyed setup replica items history
AreObeyed-on setup replica items seen history told obeyed = record {
  lent = AreLent-on setup replica items seen history told obeyed.lent;
  restarted = omega (arith, obeyed.restarted, restarts-seen replica seen history told);
}

-- what is obeyed between two moments is obeyed around them
module _ (before now tried after : SessionView) (first : IsPrefix before.seen now.seen) (same : now.replica ≡ before.replica) (most : ℕ) (on : GoesOn most tried after) where
  around : restarts_made now.seen now.replica < restarts_made tried.seen now.replica
      → restarts_made before.seen before.replica < restarts_made after.seen before.replica
  around more =
      omega (
        arith,
        subst (λ (r : ℕ). restarts_made now.seen r < restarts_made tried.seen r) same more,
        restarts-seen before.replica before.seen now.seen first,
        restarts-seen before.replica tried.seen after.seen on.told,
      )

  HasRestarted-around : (item : Item) → HasRestarted item now tried → HasRestarted item before after
  HasRestarted-around item.Restart more = around more
  HasRestarted-around (item.Write weights op) more = tt
  HasRestarted-around (item.Held weight op) more = tt
  HasRestarted-around (item.Reserve conit amount) more = tt
  HasRestarted-around (item.Release conit) more = tt
  HasRestarted-around (item.Read key needs) more = tt
  HasRestarted-around (item.Lend holder conit amount) more = tt
  HasRestarted-around (item.Back owner conit amount) more = tt

  pub IsObeyed-around : (setup : Setup) (item : Item) → IsPrefix now.seen tried.seen → IsObeyed setup item now tried → IsObeyed setup item before after
  IsObeyed-around setup item second obeyed unmarked =
      let done = obeyed (unmarked-before most tried after on unmarked) in
      (HasLent-around setup item before now tried after first second on.told same done.0, HasRestarted-around item done.1)

-- an item whose tries wait asks for a call alone
no_restart : (tries : ℕ) (item : Item) (calls after : List Entry) (before now : SessionView)
    → HaveWaited tries item calls after
    → 0 < tries
    → HasRestarted item before now
no_restart tries item.Restart calls after before now waited some = absurd (omega (arith, waited.count, ap length (waited.none refl), some))
no_restart tries (item.Write weights op) calls after before now waited some = tt
no_restart tries (item.Held weight op) calls after before now waited some = tt
no_restart tries (item.Reserve conit amount) calls after before now waited some = tt
no_restart tries (item.Release conit) calls after before now waited some = tt
no_restart tries (item.Read key needs) calls after before now waited some = tt
no_restart tries (item.Lend holder conit amount) calls after before now waited some = tt
no_restart tries (item.Back owner conit amount) calls after before now waited some = tt

pub IsObeyed-waited : (setup : Setup) (tries : ℕ) (item : Item) (calls after : List Entry) (before now : SessionView)
    → HaveWaited tries item calls after
    → 0 < tries
    → IsObeyed setup item before now
IsObeyed-waited setup tries item calls after before now waited some unmarked =
    (HasLent-none setup item before now (no_loan tries item calls after waited some), no_restart tries item calls after before now waited some)
