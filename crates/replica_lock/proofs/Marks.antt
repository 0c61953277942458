-- What each step leaves of the marks in a node's book, and how they go with its journal.
use Rattle.std.proofs.Common.{◌≡◌, ◌≢◌, ℕ, ◌+◌, ◌-◌, ◌*◌, ◌^◌, ◌<◌, ◌≤◌, Bool, cond, List, Option, None, Some, length, get_or, set, refl, sym, ap, ◌∙◌, subst, ⊎_elim, arith, get_or-set_same, get_or-set_other}
use Rattle.std.proofs.lemmas.Bool.{cases_lt, le-ltb, lt-ltb}
use Rattle.std.proofs.lemmas.List.{length-set}
use Rattle.std.specs.Prelude.{IsTrue}
use Rattle.tact_base.specs.declared.limits.TheConstants.{CLIENTS}
use Rattle.tact_io.specs.Faults.{HasRisen}
use Rattle.run_model.specs.declared.entry.Act.{Act}
use Rattle.run_model.specs.declared.entry.Act.TheVariants as act
use Rattle.run_model.specs.declared.entry.Entry.{Entry}
use Rattle.entry_journal.specs.EntryJournals.{JournalView}
use Rattle.locked_replica.specs.Locks.{made_place, one_more_at, turns_place}
use Rattle.locked_replica.specs.Restarting.{IsNoCall}
use Rattle.replica_lock.specs.Ledgers.{IsMarked, IsOwedAct, all_clients, all_faults, all_halts, all_kept, amount_in, doubt_place, faults_place, halts_place, marked_at, more_at, resumed_book, risen, standing}
use Rattle.replica_lock.specs.declared.owe.Owe.{Owe}
use Rattle.replica_lock.proofs.LedgerLemmas.{more_at-nothing}
use Rattle.replica_lock.proofs.SumsByClient.{sums-at, sums-before, sums-behind, sums-least}

-- a mark that rises is one more at most, and isn't 0 then
pub risen-le : (mark : ℕ) → risen mark ≤ mark + 1
risen-le mark =
    ⊎_elim (λ (few : mark < 2 ^ 60). omega (arith, ap (λ (b : Bool). cond b (mark + 1) mark) (lt-ltb mark (2 ^ 60) few)))
    (λ (many : 2 ^ 60 ≤ mark). omega (arith, ap (λ (b : Bool). cond b (mark + 1) mark) (le-ltb mark (2 ^ 60) many)))
    (cases_lt mark (2 ^ 60))

pub risen-some : (mark : ℕ) → risen mark ≢ 0
risen-some mark none =
    ⊎_elim (λ (few : mark < 2 ^ 60). absurd (omega (arith, none, ap (λ (b : Bool). cond b (mark + 1) mark) (lt-ltb mark (2 ^ 60) few))))
    (λ (many : 2 ^ 60 ≤ mark). absurd (omega (arith, none, ap (λ (b : Bool). cond b (mark + 1) mark) (le-ltb mark (2 ^ 60) many))))
    (cases_lt mark (2 ^ 60))

-- an entry in doubt goes with each book that has the same doubts, and one that is no call with any
pub owed-act : (conits : ℕ) (book more : List ℕ) (owes : List Owe) (done : Act)
    → ((client : ℕ) → get_or more (doubt_place conits client) 0 ≡ get_or book (doubt_place conits client) 0)
    → IsOwedAct conits book owes done
    → IsOwedAct conits more owes done
owed-act conits book more owes (act.Call client number asked given) same owed = (λ none. owed.0 (sym (same client) ∙ none), owed.1)
owed-act conits book more owes done same owed = tt

pub owed-no_call : (conits : ℕ) (book : List ℕ) (owes : List Owe) (done : Act) → IsNoCall done → IsOwedAct conits book owes done
owed-no_call conits book owes (act.Call client number asked given) none = absurd none
owed-no_call conits book owes done none = tt

-- What a step leaves of the marks: they are the same as far as faults go, where those that tell of a halt go with the
-- journal.
module _ (conits : ℕ) (had has : JournalView) (book more : List ℕ) (owes later : List Owe) (marked : IsMarked conits had book owes) (tells : has.tells ≡ had.tells)
    (no_less : had.faults ≤ has.faults) where
  told_too : IsTrue has.tells → IsTrue had.tells
  told_too told = subst (λ (b : Bool). IsTrue b) tells told

  pub halts-same : all_halts conits more ≡ all_halts conits book → all_halts conits more ≢ 0 → IsTrue has.tells → has.faults ≢ 0
  halts-same same some told none = marked.halts (λ no. some (same ∙ no)) (told_too told) (omega (arith, none, no_less))

  pub marked-on : all_faults conits more ≡ all_faults conits book
      → (all_halts conits more ≢ 0 → IsTrue has.tells → has.faults ≢ 0)
      → (all_faults conits book ≡ 0 → all_kept later ≡ 0)
      → ((entry : Entry) → has.doubt ≡ Some entry → (all_faults conits book ≢ 0) × IsOwedAct conits more later entry.act)
      → IsMarked conits has more later
  marked-on same halts kept doubt = record {
    faults = λ counts. let few : had.faults < 2 ^ 64 - 1 = omega (arith, counts, no_less) in omega (arith, same, marked.faults few, no_less);
    halts = halts;
    kept = λ none. kept (sym same ∙ none);
    doubt = λ entry was. (λ none. (doubt entry was).0 (sym same ∙ none), (doubt entry was).1);
  }

  -- or one more fault is marked, where the journal counted one
  pub marked-fault : all_faults conits more ≤ all_faults conits book + 1
      → all_faults conits more ≢ 0
      → HasRisen had.faults has.faults
      → all_halts conits more ≡ all_halts conits book
      → ((entry : Entry) → has.doubt ≡ Some entry → IsOwedAct conits more later entry.act)
      → IsMarked conits has more later
  marked-fault most some rises same doubt = record {
    faults = λ counts. let few : had.faults < 2 ^ 64 - 1 = omega (arith, counts, no_less) in
        ⊎_elim (λ (more_now : had.faults < has.faults). omega (arith, more_now, most, marked.faults few)) (λ (full : had.faults ≡ 2 ^ 64 - 1). absurd (omega (arith, full, few))) rises;
    halts = halts-same same;
    kept = λ none. absurd (some none);
    doubt = λ entry was. (some, doubt entry was);
  }

-- What a fault mark of a client changes of all marks, and what a halt mark.
module _ (conits client : ℕ) (book : List ℕ) (sized : length book ≡ conits + 5 * CLIENTS) (among : client < CLIENTS) where
  pub fault-most : all_faults conits (marked_at (faults_place conits client) book) ≤ all_faults conits book + 1
  fault-most =
      let mark = get_or book (faults_place conits client) 0 in
      let sums = sums-at (conits + 2 * CLIENTS) client (risen mark) book among (omega (arith, sized, among)) in
      omega (arith, sums, risen-le mark)

  pub fault-some : all_faults conits (marked_at (faults_place conits client) book) ≢ 0
  fault-some none =
      let mark = get_or book (faults_place conits client) 0 in
      let more = set book (faults_place conits client) (risen mark) in
      let least = sums-least (conits + 2 * CLIENTS) client more among (omega (arith, length-set book (faults_place conits client) (risen mark), sized, among)) in
      let same = get_or-set_same book (faults_place conits client) (risen mark) 0 (omega (arith, sized, among)) in
      let zero_mark : risen mark ≡ 0 = omega (arith, least, same, none) in
      risen-some mark zero_mark

  pub fault-halts : all_halts conits (marked_at (faults_place conits client) book) ≡ all_halts conits book
  fault-halts = sums-before (conits + 3 * CLIENTS) (faults_place conits client) (risen (get_or book (faults_place conits client) 0)) book (omega (arith, among))

  pub fault-doubts : (other : ℕ) → get_or (marked_at (faults_place conits client) book) (doubt_place conits other) 0 ≡ get_or book (doubt_place conits other) 0
  fault-doubts other =
      get_or-set_other book (faults_place conits client) (doubt_place conits other) (risen (get_or book (faults_place conits client) 0)) 0 (λ same. absurd (omega (arith, same, among)))

  pub halt-faults : all_faults conits (marked_at (halts_place conits client) book) ≡ all_faults conits book
  halt-faults = sums-behind (conits + 2 * CLIENTS) (halts_place conits client) (risen (get_or book (halts_place conits client) 0)) book (omega arith)

  pub halt-doubts : (other : ℕ) → get_or (marked_at (halts_place conits client) book) (doubt_place conits other) 0 ≡ get_or book (doubt_place conits other) 0
  halt-doubts other =
      get_or-set_other book (halts_place conits client) (doubt_place conits other) (risen (get_or book (halts_place conits client) 0)) 0 (λ same. absurd (omega (arith, same, among)))

-- an answered call changes nothing of the marks
pub counted-marks : (conits client conit told : ℕ) (book : List ℕ)
    → client < CLIENTS
    → conit < conits
    → (place : ℕ)
    → conits + 2 * CLIENTS ≤ place
    → all_clients place (set (one_more_at (made_place conits client) (one_more_at (turns_place conits client) book)) conit told) ≡ all_clients place book
counted-marks conits client conit told book among here place past =
    let turned = one_more_at (turns_place conits client) book in
    let counted = one_more_at (made_place conits client) turned in
    sums-before place conit told counted (omega (arith, here, past)) ∙ sums-before place (made_place conits client) (get_or turned (made_place conits client) 0 + 1) turned (omega (arith, among, past))
    ∙ sums-before place (turns_place conits client) (get_or book (turns_place conits client) 0 + 1) book (omega (arith, among, past))

-- nor does a client that resumes
pub resumed-marks : (conits client : ℕ) (owe : Owe) (book : List ℕ)
    → client < CLIENTS
    → (owe.amount ≢ None → owe.conit < conits)
    → (place : ℕ)
    → conits + 2 * CLIENTS ≤ place
    → place + CLIENTS ≤ conits + 4 * CLIENTS
    → all_clients place (resumed_book conits client owe book) ≡ all_clients place book
resumed-marks conits client owe book among here place past within =
    let paid = more_at owe.conit (amount_in owe.amount) book in
    let turned = more_at (turns_place conits client) (standing owe) paid in
    sums-behind place (doubt_place conits client) (get_or turned (doubt_place conits client) 0 - 1) turned (omega (arith, within))
    ∙ sums-before place (turns_place conits client) (get_or paid (turns_place conits client) 0 + standing owe) paid (omega (arith, among, past)) ∙ out owe.amount refl
  where
    out : (amount : Option ℕ) → owe.amount ≡ amount → all_clients place (more_at owe.conit (amount_in owe.amount) book) ≡ all_clients place book
    out None none = ap (λ (l : List ℕ). all_clients place l) (more_at-nothing owe book none)
    out (Some amount) some =
        let inside : owe.conit < conits = here (λ none. cc) in
        sums-before place owe.conit (get_or book owe.conit 0 + amount_in owe.amount) book (omega (arith, inside, past))
