-- What stays true behind the lock when an entry is made.
use Rattle.std.proofs.Common.{◌≡◌, ◌≢◌, ℕ, ◌+◌, ◌*◌, ◌<◌, ◌≤◌, ◌^◌, ◌==◌, Bool, true, false, cond, List, [], ◌∷◌, ◌++◌, drop, length, get_or, sum, unsigned_abs, refl, sym, ap, ◌∙◌, ⊎_elim, subst, IfOk, Result, arith}
use Rattle.std.proofs.lemmas.Result.{IfOk-weaker}
use Rattle.std.proofs.lemmas.Bool.{cases_eq, eq-eqb, ne_eqb}
use Rattle.std.proofs.lemmas.List.{map-append, length_push, length-map, same_from_push}
use Rattle.std.proofs.lemmas.List.Sums.{length-filter, count_by-le-length, sum_by_push}
use Rattle.tact_base.specs.Setup.{Setup}
use Rattle.tact_base.specs.declared.conit_list.Weight.{Weight}
use Rattle.tact_base.specs.declared.limits.TheConstants.{CLIENTS, HISTORY_MAX}
use Rattle.tact_base.specs.declared.write.Op.{Op}
use Rattle.run_model.specs.Histories.{part_of, calls_in, is_call_of, moment_at, IsPrefix}
use Rattle.run_model.specs.Missing.{granted_on, used_on, granted_by, used_by, reserved}
use Rattle.run_model.specs.Runs.{IsDue, IsRun, MayFollow}
use Rattle.run_model.specs.declared.call.Reply.{Reply}
use Rattle.run_model.specs.declared.call.Reply.TheVariants as reply
use Rattle.run_model.specs.declared.call.Request.{Request}
use Rattle.run_model.specs.declared.call.Request.TheVariants as request
use Rattle.run_model.specs.declared.entry.Act.{Act}
use Rattle.run_model.specs.declared.entry.Act.TheVariants as act
use Rattle.run_model.specs.declared.entry.Entry.{Entry}
use Rattle.run_model.proofs.PartLemmas.{calls_in-push, part_of-push_same}
use Rattle.run_model.proofs.PrefixLemmas.{EachAfter-last, IsPrefix-trans}
use Rattle.run_history.specs.Seats.{ClerkView}
use Rattle.run_history.specs.Ticks.{entries_of}
use Rattle.split_budget.specs.Budgets.{reserved_on}
use Rattle.replica_core.specs.States.{Core}
use Rattle.replica_core.specs.Stands.{Stands, GoesOn, IsSameReplica}
use Rattle.locked_replica.specs.Asking.{MayAskWith, conit_of}
use Rattle.locked_replica.specs.Locks.{HasDrawn, HasEntered, IsLocked, IsWriteOrRead, LockedView, made_place, part_in, turns_place}
use Rattle.locked_replica.proofs.Totals.{counted, counted-else, counted-turns, answered, answered-places, answered-conit, answered-else, answered-made, sum_from-le}

-- a call of a client
abbrev pub call_entry : ℕ → ℕ → ℕ → ℕ → Request → Reply → Entry
call_entry replica moment client number asked given = record { replica = replica; moment = moment; act = act.Call client number asked given }

-- an entry that a replica goes on by is due
pub goes_on-due : (setup : Setup) (part : List Entry) (entry : Entry) (core : Core)
    → setup ≡ core.setup
    → Stands (part ++ entry ∷ []) core
    → IsDue setup part entry
goes_on-due setup part entry core same stands =
    subst (λ s. IsDue s part entry) (sym same) (EachAfter-last (MayFollow core.setup core.replica) part entry stands.is_part).1

-- The call of a client, as its entry spells it, by numbers that were read of the lock while it stood as before.
module _ (before seen : LockedView) (same : before ≡ seen) (handed client : ℕ) (asked : Request) (given : Reply) (replica at number : ℕ)
    (replica_is : replica ≡ seen.core.replica) (at_is : at ≡ moment_at (part_in seen) handed) (number_is : number ≡ calls_in (part_in seen) client) where
  pub spelled : call_entry before.core.replica (moment_at (part_in before) handed) client (calls_in (part_in before) client) asked given
      ≡ call_entry replica at client number asked given
  spelled =
      let replica_before : replica ≡ before.core.replica = replica_is ∙ ap (λ (v : LockedView). v.core.replica) (sym same) in
      let at_before : at ≡ moment_at (part_in before) handed = at_is ∙ ap (λ (v : LockedView). moment_at (part_in v) handed) (sym same) in
      let number_before : number ≡ calls_in (part_in before) client = number_is ∙ ap (λ (v : LockedView). calls_in (part_in v) client) (sym same) in
      cc

  -- the replica stands for its part with the call
  pub stands-spelled : (new : Core)
      → IsLocked before
      → GoesOn before.core new handed (λ part. act.Call client (calls_in part client) asked given)
      → Stands (part_in before ++ call_entry replica at client number asked given ∷ []) new
  stands-spelled new kept goes =
      subst (λ (e : Entry). Stands (part_in before ++ e ∷ []) new) spelled (goes (part_in before) kept.stands)

-- counts of a part are no more than its entries
pub calls-few : (part : List Entry) (client : ℕ) → calls_in part client ≤ length part
calls-few part client =
    let test = λ (e : Entry). is_call_of client e.act in
    omega (arith, length-filter test part, count_by-le-length test part)

-- there is room for one more in the totals of a client
pub has_room : (locked : LockedView) (client : ℕ)
    → IsLocked locked
    → client < CLIENTS
    → length (part_in locked) < HISTORY_MAX
    → (get_or locked.totals (turns_place locked.core.setup.conits client) 0 + 1 < 2 ^ 64)
    × (get_or locked.totals (made_place locked.core.setup.conits client) 0 + 1 < 2 ^ 64)
has_room locked client kept among few =
    let size = length-map locked.stored (λ (pair : ℕ × Entry). pair.1) in (
      omega (arith, kept.turns client among, calls-few (part_in locked) client, few),
      omega (arith, sum_from-le (locked.core.setup.conits + CLIENTS) client locked.totals (omega (arith, kept.places, among)), kept.made, size, few),
    )

-- A client's call that changes what is reserved on no other conit than one.
pub record IsCallOn (client conit : ℕ) (done : Act) : Type 0 where
  pub calls : (one : ℕ) → is_call_of one done ≡ (client == one)
  pub grants : (other : ℕ) → other ≢ conit → granted_by other done ≡ 0
  pub uses : (other : ℕ) → other ≢ conit → used_by other done ≡ 0

-- what a conit has of an amount on one
abbrev pub amount_on : ℕ → ℕ → ℕ → ℕ
amount_on at amount conit = cond (at == conit) amount 0

-- No more of it is granted, released or spent, whatever the reply.
pub record MovesMost (conit : ℕ) (given : Reply) : Type 0 where
  pub grants : (at amount : ℕ) → granted_on conit (request.Reserve at amount) given ≤ amount_on at amount conit
  pub releases : (at amount : ℕ) → used_on conit (request.Release at amount) given ≤ amount_on at amount conit
  pub spends : (weight : Weight) (op : Op) → used_on conit (request.Held weight op) given ≤ amount_on weight.conit (unsigned_abs weight.nweight) conit

pub moves_most : (conit : ℕ) (given : Reply) → MovesMost conit given
moves_most conit (reply.Done index stamp) = record { grants = λ at amount. omega arith; releases = λ at amount. omega arith; spends = λ weight op. omega arith }
moves_most conit reply.Granted = record { grants = λ at amount. omega arith; releases = λ at amount. omega arith; spends = λ weight op. omega arith }
moves_most conit reply.Released = record { grants = λ at amount. omega arith; releases = λ at amount. omega arith; spends = λ weight op. omega arith }
moves_most conit (reply.Value value sums) = record { grants = λ at amount. omega arith; releases = λ at amount. omega arith; spends = λ weight op. omega arith }
moves_most conit (reply.TooHeavy at peer size share) = record { grants = λ at amount. omega arith; releases = λ at amount. omega arith; spends = λ weight op. omega arith }
moves_most conit (reply.WaitHeld at peer held size share) = record { grants = λ at amount. omega arith; releases = λ at amount. omega arith; spends = λ weight op. omega arith }
moves_most conit (reply.WaitShare at peer missing held size share) = record { grants = λ at amount. omega arith; releases = λ at amount. omega arith; spends = λ weight op. omega arith }
moves_most conit (reply.WaitLent at holder out total num) = record { grants = λ at amount. omega arith; releases = λ at amount. omega arith; spends = λ weight op. omega arith }
moves_most conit (reply.WaitOrder at replica tentative order) = record { grants = λ at amount. omega arith; releases = λ at amount. omega arith; spends = λ weight op. omega arith }
moves_most conit (reply.WaitStale at replica moment wanted) = record { grants = λ at amount. omega arith; releases = λ at amount. omega arith; spends = λ weight op. omega arith }
moves_most conit (reply.NotHeld at held wanted) = record { grants = λ at amount. omega arith; releases = λ at amount. omega arith; spends = λ weight op. omega arith }

-- which is nothing on another conit, and never more than the amount
amount_on-other : (at amount conit number : ℕ) → number ≤ amount_on at amount conit → conit ≢ at → number ≡ 0
amount_on-other at amount conit number most other =
    let none = ap (λ (b : Bool). cond b amount 0) (ne_eqb at conit (λ same. other (sym same))) in
    omega (arith, most, none)

pub amount_on-most : (at amount conit : ℕ) → amount_on at amount conit ≤ amount
amount_on-most at amount conit = go (at == conit)
  where
    go : (b : Bool) → cond b amount 0 ≤ amount
    go true = omega arith
    go false = omega arith

-- a call that writes or reads changes what is reserved on no conit
call-still : (client number conit : ℕ) (asked : Request) (given : Reply)
    → IsWriteOrRead asked
    → IsCallOn client conit (act.Call client number asked given)
call-still client number conit (request.Write weights op) given is = record { calls = λ one. refl; grants = λ other differ. refl; uses = λ other differ. refl }
call-still client number conit (request.Read key needs) given is = record { calls = λ one. refl; grants = λ other differ. refl; uses = λ other differ. refl }
call-still client number conit (request.Held weight op) given is = absurd is
call-still client number conit (request.Reserve at more) given is = absurd is
call-still client number conit (request.Release at back) given is = absurd is

-- any call is on the conit of its request
pub call-at : (client number : ℕ) (asked : Request) (given : Reply)
    → IsCallOn client (conit_of asked) (act.Call client number asked given)
call-at client number (request.Write weights op) given = call-still client number 0 (request.Write weights op) given tt
call-at client number (request.Read key needs) given = call-still client number 0 (request.Read key needs) given tt
call-at client number (request.Held weight op) given = record {
  calls = λ one. refl;
  grants = λ other differ. refl;
  uses = λ other differ. amount_on-other weight.conit (unsigned_abs weight.nweight) other _ ((moves_most other given).spends weight op) differ;
}
call-at client number (request.Reserve at more) given = record {
  calls = λ one. refl;
  grants = λ other differ. amount_on-other at more other _ ((moves_most other given).grants at more) differ;
  uses = λ other differ. refl;
}
call-at client number (request.Release at back) given = record {
  calls = λ one. refl;
  grants = λ other differ. refl;
  uses = λ other differ. amount_on-other at back other _ ((moves_most other given).releases at back) differ;
}

-- and on the one that it may be asked on
pub call-on : (setup : Setup) (client number conit amount : ℕ) (asked : Request) (given : Reply)
    → MayAskWith setup conit amount asked
    → IsCallOn client conit (act.Call client number asked given)
call-on setup client number conit amount (request.Write weights op) given may = call-still client number conit (request.Write weights op) given tt
call-on setup client number conit amount (request.Read key needs) given may = call-still client number conit (request.Read key needs) given tt
call-on setup client number conit amount (request.Held weight op) given may =
    subst (λ one. IsCallOn client one (act.Call client number (request.Held weight op) given)) may.2 (call-at client number (request.Held weight op) given)
call-on setup client number conit amount (request.Reserve at more) given may =
    subst (λ one. IsCallOn client one (act.Call client number (request.Reserve at more) given)) may.0 (call-at client number (request.Reserve at more) given)
call-on setup client number conit amount (request.Release at back) given may =
    subst (λ one. IsCallOn client one (act.Call client number (request.Release at back) given)) may.0 (call-at client number (request.Release at back) given)

-- a clerk's part with what it drew
pub entries-push : (pairs : List (ℕ × Entry)) (tick : ℕ) (entry : Entry)
    → entries_of (pairs ++ (tick, entry) ∷ []) ≡ entries_of pairs ++ entry ∷ []
entries-push pairs tick entry = map-append (λ (pair : ℕ × Entry). pair.1) pairs ((tick, entry) ∷ [])

-- One more entry of a client.
module _ (before after : LockedView) (setup : Setup) (client : ℕ) (entry : Entry)
    (kept : IsLocked before) (among : client < CLIENTS) (same : IsSameReplica before.core after.core)
    (drawn : HasDrawn setup before.clerk after.clerk entry) (stored : after.stored ≡ after.clerk.pairs) where
  pub part-after : part_in after ≡ part_in before ++ entry ∷ []
  part-after =
      ap entries_of (stored ∙ drawn.pairs) ∙ entries-push before.clerk.pairs (length drawn.front) entry
      ∙ ap (λ pairs. entries_of pairs ++ entry ∷ []) kept.drawn

  pub replica-after : after.clerk.replica ≡ after.core.replica
  replica-after = drawn.replica ∙ kept.replica ∙ sym same.1

  pub own-after : part_of after.clerk.seen after.core.replica ≡ part_in after
  own-after = sym (ap (part_of after.clerk.seen) replica-after) ∙ drawn.own ∙ ap entries_of (sym stored)

  pub IsLocked-call : (conit : ℕ)
      → IsCallOn client conit entry.act
      → (here : conit < before.core.setup.conits)
      → Stands (part_in before ++ entry ∷ []) after.core
      → after.totals ≡ answered before.core.setup.conits client before.totals kept.places among conit (reserved_on after.core.budgets conit) here
      → IsLocked after
  IsLocked-call conit on here stands totals =
      let conits = before.core.setup.conits in
      let number = reserved_on after.core.budgets conit in
      let width : after.core.setup.conits ≡ conits = ap (λ (s : Setup). s.conits) same.0 in
      let now : number ≡ reserved (part_in after) conit = stands.budgets.reserved conit (omega (arith, here, width)) ∙ sym (ap (λ part. reserved part conit) part-after) in
      record {
        replica = replica-after;
        stands = subst (λ part. Stands part after.core) (sym part-after) stands;
        drawn = sym stored;
        own = own-after;
        places = ap length totals ∙ answered-places conits client before.totals kept.places among conit number here ∙ ap (λ n. n + 2 * CLIENTS) (sym width);
        allowances = λ one within. ⊎_elim
            (λ (equal : one ≡ conit).
            ap (λ t. get_or t one 0) totals
            ∙ ap (λ k. get_or (answered conits client before.totals kept.places among conit number here) k 0) equal
            ∙ answered-conit conits client before.totals kept.places among conit number here ∙ now ∙ ap (reserved (part_in after)) (sym equal))
            (λ (other : one ≡ conit → ⊥).
            let there = answered-else conits client before.totals kept.places among conit number here one other in
            let still = counted-else conits client before.totals kept.places among one (λ e. absurd (omega (arith, e, within, width))) (λ e. absurd (omega (arith, e, within, width))) in
            let were = kept.allowances one (omega (arith, within, width)) in
            let grants = sum_by_push (λ (e : Entry). granted_by one e.act) (part_in before) entry in
            let uses = sum_by_push (λ (e : Entry). used_by one e.act) (part_in before) entry in
            let same_there : reserved (part_in before ++ entry ∷ []) one ≡ reserved (part_in before) one = omega (arith, grants, uses, on.grants one other, on.uses one other) in
            ap (λ t. get_or t one 0) totals ∙ there ∙ still ∙ were ∙ sym same_there ∙ sym (ap (λ part. reserved part one) part-after))
            (cases_eq one conit);
        turns = λ one within. turns-after one within on.calls
            (λ place other. ap (λ t. get_or t place 0) totals
            ∙ answered-else conits client before.totals kept.places among conit number here place (λ e. absurd (omega (arith, e, here, other)))) width;
        made =
            ap (λ n. sum (drop (n + CLIENTS) after.totals)) width
            ∙ ap (λ t. sum (drop (conits + CLIENTS) t)) totals
            ∙ answered-made conits client before.totals kept.places among conit number here
            ∙ ap (λ n. n + 1) kept.made
            ∙ sym (ap length (stored ∙ drawn.pairs) ∙ length_push before.clerk.pairs (length drawn.front, entry) ∙ ap (λ pairs. length pairs + 1) kept.drawn);
      }
    where
      turns-after : (one : ℕ)
          → one < CLIENTS
          → ((one : ℕ) → is_call_of one entry.act ≡ (client == one))
          → ((place : ℕ) → before.core.setup.conits ≤ place → get_or after.totals place 0 ≡ get_or (counted before.core.setup.conits client before.totals kept.places among) place 0)
          → after.core.setup.conits ≡ before.core.setup.conits
          → get_or after.totals (turns_place after.core.setup.conits one) 0 ≡ calls_in (part_in after) one
      turns-after one within calls totals width =
          let conits = before.core.setup.conits in
          let moved : get_or after.totals (turns_place after.core.setup.conits one) 0 ≡ get_or (counted conits client before.totals kept.places among) (turns_place conits one) 0 =
          ap (λ n. get_or after.totals (turns_place n one) 0) width ∙ totals (turns_place conits one) (omega arith) in
          let pushed : calls_in (part_in after) one ≡ calls_in (part_in before) one + cond (client == one) 1 0 =
          ap (λ part. calls_in part one) part-after ∙ calls_in-push (part_in before) entry one ∙ ap (λ b. calls_in (part_in before) one + cond b 1 0) (calls one) in
          let were = kept.turns one within in
          ⊎_elim
          (λ (equal : one ≡ client).
          let yes : (client == one) ≡ true = eq-eqb client one (sym equal) in
          let step : calls_in (part_in after) one ≡ calls_in (part_in before) one + 1 = pushed ∙ ap (λ b. calls_in (part_in before) one + cond b 1 0) yes in
          let here = ap (λ k. get_or (counted conits client before.totals kept.places among) (turns_place conits k) 0) equal ∙ counted-turns conits client before.totals kept.places among in
          let again = ap (λ k. get_or before.totals (turns_place conits k) 0) equal in
          omega (arith, moved, step, here, again, were))
          (λ (other : one ≡ client → ⊥).
          let no : (client == one) ≡ false = ne_eqb client one (λ e. other (sym e)) in
          let step : calls_in (part_in after) one ≡ calls_in (part_in before) one + 0 = pushed ∙ ap (λ b. calls_in (part_in before) one + cond b 1 0) no in
          let here = counted-else conits client before.totals kept.places among (turns_place conits one) (λ e. other (omega (arith, e))) (λ e. absurd (omega (arith, e, within))) in
          omega (arith, moved, step, here, were))
          (cases_eq one client)

  -- what was seen before it has no other entry of the replica than those stored
  pub HasEntered-drawn : entry.replica ≡ before.core.replica
      → setup ≡ before.core.setup
      → HasEntered before after before.clerk.seen entry
  HasEntered-drawn replica setup_same =
      let at : after.core.replica ≡ before.core.replica = same.1 in
      let pushed = part_of-push_same drawn.front entry before.core.replica replica in
      record {
        front = drawn.front;
        seen = drawn.seen;
        mine = drawn.mine;
        told = drawn.mine;
        part = (same_from_push _ _ entry entry
            (sym pushed ∙ sym (ap (λ h. part_of h before.core.replica) drawn.seen) ∙ ap (part_of after.clerk.seen) (sym at) ∙ own-after ∙ part-after)).0;
        stored = stored ∙ drawn.pairs ∙ ap (λ pairs. pairs ++ (length drawn.front, entry) ∷ []) kept.drawn;
        run = subst (λ s. IsRun s after.clerk.seen) setup_same drawn.run;
      }

-- a clerk that drew has seen what it had seen
pub drawn-grows : (setup : Setup) (before after : ClerkView) (entry : Entry)
    → HasDrawn setup before after entry
    → IsPrefix before.seen after.seen
drawn-grows setup before after entry drawn =
    IsPrefix-trans before.seen drawn.front after.seen drawn.mine (entry ∷ [], drawn.seen)

-- the same before the clerk learnt what a session had seen, of an entry that what it learnt doesn't change
pub HasEntered-before : (before learnt after : LockedView) (known : List Entry) (entry : Entry)
    → learnt.core ≡ before.core
    → learnt.stored ≡ before.stored
    → IsPrefix before.clerk.seen learnt.clerk.seen
    → IsPrefix known learnt.clerk.seen
    → HasEntered learnt after learnt.clerk.seen entry
    → HasEntered before after known entry
HasEntered-before before learnt after known entry core stored mine told entered = record {
  front = entered.front;
  seen = entered.seen;
  mine = IsPrefix-trans before.clerk.seen learnt.clerk.seen entered.front mine entered.mine;
  told = IsPrefix-trans known learnt.clerk.seen entered.front told entered.mine;
  part = sym (ap (λ (c : Core). part_of entered.front c.replica) core) ∙ entered.part ∙ ap entries_of stored;
  stored = entered.stored ∙ ap (λ pairs. pairs ++ (length entered.front, entry) ∷ []) stored;
  run = subst (λ (c : Core). IsRun c.setup after.clerk.seen) core entered.run;
}

pub HasEntered-learnt : (before learnt after : LockedView) (known : List Entry) (entry : Entry)
    → learnt ≡ record before { clerk = learnt.clerk }
    → IsPrefix before.clerk.seen learnt.clerk.seen
    → IsPrefix known learnt.clerk.seen
    → HasEntered learnt after learnt.clerk.seen entry
    → HasEntered before after known entry
HasEntered-learnt before learnt after known entry value mine told entered =
    HasEntered-before before learnt after known entry (ap (λ (v : LockedView). v.core) value) (ap (λ (v : LockedView). v.stored) value) mine told entered

pub IfOk-learnt : {X F : Type 0} (result : Result X F) (before learnt after : LockedView) (known : List Entry) (entry_of : LockedView → X → Entry)
    → learnt ≡ record before { clerk = learnt.clerk }
    → ((x : X) → entry_of (record before { clerk = learnt.clerk }) x ≡ entry_of before x)
    → IsPrefix before.clerk.seen learnt.clerk.seen
    → IsPrefix known learnt.clerk.seen
    → IfOk result (λ x. HasEntered learnt after learnt.clerk.seen (entry_of learnt x))
    → IfOk result (λ x. HasEntered before after known (entry_of before x))
IfOk-learnt result before learnt after known entry_of value same mine told entered =
    IfOk-weaker result (λ x. HasEntered learnt after learnt.clerk.seen (entry_of learnt x)) (λ x. HasEntered before after known (entry_of before x))
    (λ x at. subst (HasEntered before after known) (ap (λ v. entry_of v x) value ∙ same x) (HasEntered-learnt before learnt after known (entry_of learnt x) value mine told at))
    entered
