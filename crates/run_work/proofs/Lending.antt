-- Loans that items ask for, and those that are made.
use Rattle.std.proofs.Common.{◌≡◌, ◌⊎◌, ℕ, ◌+◌, ◌<◌, ◌≤◌, ◌==◌, ◌&&◌, Bool, true, false, List, [], ◌∷◌, ◌++◌, IfSome, Option, Some, None, filter, get_or, length, take, refl, sym, ap, ◌∙◌, subst, inl, inr, ⊎_elim, arith}
use Rattle.std.specs.List.{filter_map}
use Rattle.std.specs.Prelude.{IfErr, OnOk, Result, Ok, Err}
use Rattle.std.proofs.lemmas.Bool.{and_parts, eq-eqb, eqb-true}
use Rattle.std.proofs.lemmas.List.{length-append, take_all, take_more}
use Rattle.std.proofs.lemmas.List.Elements.{filter-append, filter_map-append}
use Rattle.tact_base.specs.Setup.{Setup}
use Rattle.run_model.specs.Histories.{IsPrefix, part_of}
use Rattle.run_model.specs.declared.entry.Entry.{Entry}
use Rattle.run_model.proofs.PrefixLemmas.{IsPrefix-refl, IsPrefix-trans}
use Rattle.replica_lock.specs.Loans.{IsLoanFaultSeen}
use Rattle.locked_replica.specs.Loans.{act_of}
use Rattle.replica_lock.specs.Sessions.{HasHeard, HasMade, SessionView, entry_after, marked_lent}
use Rattle.locked_replica.specs.declared.fault.NodeLoanFault.{NodeLoanFault}
use Rattle.locked_replica.specs.declared.fault.NodeLoanFault.TheVariants as fault
use Rattle.locked_replica.specs.declared.loan.Loan.{Loan}
use Rattle.locked_replica.specs.declared.loan.Loan.TheVariants as loan
use Rattle.work_load.specs.declared.plan.Item.{Item}
use Rattle.work_load.specs.declared.plan.Item.TheVariants as item
use Rattle.run_work.specs.Served.{AreLent, HasPassed, is_loan, loan_in, loan_of, loans_asked, loans_made, times}
use Rattle.run_work.specs.Serving.{HasLent}
use Rattle.run_work.specs.Trying.{is_refused}
use Rattle.run_work.proofs.TryingLemmas.{HaveWaited}

-- a loan is the same as itself, and as no other
is_loan-same : (one : Loan) → is_loan one one ≡ true
is_loan-same (loan.Out holder conit amount) = rw (eq-eqb holder holder refl, eq-eqb conit conit refl, eq-eqb amount amount refl) refl
is_loan-same (loan.Back owner conit amount) = rw (eq-eqb owner owner refl, eq-eqb conit conit refl, eq-eqb amount amount refl) refl

same-is_loan : (one other : Loan) → is_loan one other ≡ true → one ≡ other
same-is_loan (loan.Out holder conit amount) (loan.Out holder' conit' amount') is =
    let parts = and_parts (holder == holder' && conit == conit') (amount == amount') is in
    let more = and_parts (holder == holder') (conit == conit') parts.0 in
    rw (eqb-true holder holder' more.0, eqb-true conit conit' more.1, eqb-true amount amount' parts.1) refl
same-is_loan (loan.Back owner conit amount) (loan.Back owner' conit' amount') is =
    let parts = and_parts (owner == owner' && conit == conit') (amount == amount') is in
    let more = and_parts (owner == owner') (conit == conit') parts.0 in
    rw (eqb-true owner owner' more.0, eqb-true conit conit' more.1, eqb-true amount amount' parts.1) refl
same-is_loan (loan.Out holder conit amount) (loan.Back owner' conit' amount') is = cc
same-is_loan (loan.Back owner conit amount) (loan.Out holder' conit' amount') is = cc

-- how often a loan is among two lists, one after the other
times-append : (one : Loan) (loans more : List Loan) → times one (loans ++ more) ≡ times one loans + times one more
times-append one loans more = ap length (filter-append (is_loan one) loans more) ∙ length-append (filter (is_loan one) loans) (filter (is_loan one) more)

times-one : (one other : Loan) → is_loan one other ≡ true → times one (other ∷ []) ≡ 1
times-one one other is = rw (is) refl

times-none : (one other : Loan) → is_loan one other ≡ false → times one (other ∷ []) ≡ 0
times-none one other is = rw (is) refl

-- the loans of two histories, one after the other
loans_made-append : (seen more : List Entry) (replica : ℕ)
    → loans_made (seen ++ more) replica ≡ loans_made seen replica ++ loans_made more replica
loans_made-append seen more replica =
    ap (filter_map (λ (entry : Entry). loan_in entry.act)) (filter-append (λ (entry : Entry). entry.replica == replica) seen more)
    ∙ filter_map-append (λ (entry : Entry). loan_in entry.act) (part_of seen replica) (part_of more replica)

-- no fewer are made as more is seen
times-seen : (one : Loan) (replica : ℕ) (seen more : List Entry)
    → IsPrefix seen more
    → times one (loans_made seen replica) ≤ times one (loans_made more replica)
times-seen one replica seen more (rest, is) =
    omega (
      arith,
      ap (λ (list : List Entry). times one (loans_made list replica)) is,
      ap (times one) (loans_made-append seen rest replica),
      times-append one (loans_made seen replica) (loans_made rest replica),
    )

-- and what passed once did
HasPassed-seen : (setup : Setup) (replica : ℕ) (seen more : List Entry) (one : Loan)
    → IsPrefix seen more
    → HasPassed setup replica seen one
    → HasPassed setup replica more one
HasPassed-seen setup replica seen more one told (front, within, passes) = (front, IsPrefix-trans front seen more within told, passes)

-- the act of a loan is that loan
loan_in-act_of : (one : Loan) → loan_in (act_of one) ≡ Some one
loan_in-act_of (loan.Out holder conit amount) = refl
loan_in-act_of (loan.Back owner conit amount) = refl

one_made : (one : Loan) (entry : Entry) (replica : ℕ)
    → entry.replica ≡ replica
    → loan_in entry.act ≡ Some one
    → loans_made (entry ∷ []) replica ≡ one ∷ []
one_made one entry replica at is = rw (eq-eqb entry.replica replica at, is) refl

-- a loan is made once more where its entry is made, and passed where it is refused
module _ (setup : Setup) (before after : SessionView) (one : Loan) where
  made_more : (moment : ℕ)
      → HasMade setup before after moment (act_of one)
      → times one (loans_made before.seen before.replica) < times one (loans_made after.seen before.replica)
  made_more moment made =
      let entry : Entry = entry_after before made.front moment (act_of one) in
      omega (
        arith,
        times-seen one before.replica before.seen made.front made.told,
        ap (λ (list : List Entry). times one (loans_made list before.replica)) made.seen,
        ap (times one) (loans_made-append made.front (entry ∷ []) before.replica),
        times-append one (loans_made made.front before.replica) (loans_made (entry ∷ []) before.replica),
        ap (times one) (one_made one entry before.replica refl (loan_in-act_of one)),
        times-one one one (is_loan-same one),
      )

  refused : (told : NodeLoanFault)
      → after.replica ≡ before.replica
      → IsLoanFaultSeen setup after one told
      → ((why : _) → told ≡ fault.Node why → ⊥)
      → HasPassed setup before.replica after.seen one
  refused (fault.Node why) at seen other = absurd (other why refl)
  refused (fault.Home conit most) at seen other =
      subst (λ (r : ℕ). HasPassed setup r after.seen one) at (passed_home one seen)
    where
      passed_home : (asked : Loan) → IsLoanFaultSeen setup after asked (fault.Home conit most) → HasPassed setup after.replica after.seen asked
      passed_home (loan.Out holder on amount) (is_conit, is_most, passes) = (after.seen, IsPrefix-refl after.seen, omega (arith, is_most, passes))
      passed_home (loan.Back owner on amount) seen = absurd seen
  refused (fault.Free conit most) at seen other =
      subst (λ (r : ℕ). HasPassed setup r after.seen one) at (passed_free one seen)
    where
      passed_free : (asked : Loan) → IsLoanFaultSeen setup after asked (fault.Free conit most) → HasPassed setup after.replica after.seen asked
      passed_free (loan.Out holder on amount) seen = absurd seen
      passed_free (loan.Back owner on amount) (is_conit, is_most, passes) = (after.seen, IsPrefix-refl after.seen, omega (arith, is_most, passes))

-- the loans that items ask for, and those of one more
loans_asked-more : (items : List Item) (item : Item) (asked : Option Loan)
    → loan_of item ≡ asked
    → (one : Loan)
    → times one (loans_asked (items ++ item ∷ [])) ≡ times one (loans_asked items) + times one (loans_asked (item ∷ []))
loans_asked-more items item asked is one =
    ap (times one) (filter_map-append loan_of items (item ∷ [])) ∙ times-append one (loans_asked items) (loans_asked (item ∷ []))

asks_none : (item : Item) (one : Loan) → loan_of item ≡ None → times one (loans_asked (item ∷ [])) ≡ 0
asks_none item one is = rw (is) refl

asks_other : (item : Item) (one made : Loan) → loan_of item ≡ Some made → is_loan one made ≡ false → times one (loans_asked (item ∷ [])) ≡ 0
asks_other item one made is other = rw (is, other) refl

asks_one : (item : Item) (one made : Loan) → loan_of item ≡ Some made → times one (loans_asked (item ∷ [])) ≤ 1
asks_one item one made is = go (is_loan one made) refl
  where
    go : (same : Bool) → is_loan one made ≡ same → times one (loans_asked (item ∷ [])) ≤ 1
    go true same = rw (is, same) (omega arith)
    go false same = rw (is, same) (omega arith)

-- the loans of items are made as more is seen, and of one more item
pub AreLent-none : (setup : Setup) (replica : ℕ) (seen : List Entry) → AreLent setup replica [] seen
AreLent-none setup replica seen one = inl (omega arith)

module _ (setup : Setup) (items : List Item) (place : ℕ) (none : Item) (within : place < length items) (before after : SessionView) (told : IsPrefix before.seen after.seen)
    (so_far : AreLent setup before.replica (take place items) before.seen) where
  abbrev here : Item
  here = get_or items place none

  few : (one : Loan) (asked : ℕ)
      → times one (loans_asked (here ∷ [])) ≡ asked
      → times one (loans_asked (take place items)) + asked ≤ times one (loans_made after.seen before.replica)
      → times one (loans_asked (take (place + 1) items)) ≤ times one (loans_made after.seen before.replica)
  few one asked is enough =
      omega (arith, is, enough, ap (λ (list : List Item). times one (loans_asked list)) (take_more items place none within), loans_asked-more (take place items) here (loan_of here) refl one)

  pub AreLent-item : HasLent setup here before after → AreLent setup before.replica (take (place + 1) items) after.seen
  AreLent-item lent one = ⊎_elim
      (λ (enough : times one (loans_asked (take place items)) ≤ times one (loans_made before.seen before.replica)). go enough (loan_of here) refl lent)
      (λ (passed : HasPassed setup before.replica before.seen one). inr (HasPassed-seen setup before.replica before.seen after.seen one told passed))
      (so_far one)
    where
      go : times one (loans_asked (take place items)) ≤ times one (loans_made before.seen before.replica)
          → (asked : Option Loan)
          → loan_of here ≡ asked
          → IfSome asked (λ (made : Loan). (times made (loans_made before.seen before.replica) < times made (loans_made after.seen before.replica)) ⊎ HasPassed setup before.replica after.seen made)
          → (times one (loans_asked (take (place + 1) items)) ≤ times one (loans_made after.seen before.replica)) ⊎ HasPassed setup before.replica after.seen one
      go enough None is lent = inl (few one 0 (asks_none here one is) (omega (arith, enough, times-seen one before.replica before.seen after.seen told)))
      go enough (Some made) is lent = by_loan (is_loan one made) refl lent
        where
          by_loan : (same : Bool)
              → is_loan one made ≡ same
              → (times made (loans_made before.seen before.replica) < times made (loans_made after.seen before.replica)) ⊎ HasPassed setup before.replica after.seen made
              → (times one (loans_asked (take (place + 1) items)) ≤ times one (loans_made after.seen before.replica)) ⊎ HasPassed setup before.replica after.seen one
          by_loan false other lent =
              inl (few one 0 (asks_other here one made is other) (omega (arith, enough, times-seen one before.replica before.seen after.seen told)))
          by_loan true same (inl more) =
              let is_it : one ≡ made = same-is_loan one made same in
              let risen : times one (loans_made before.seen before.replica) < times one (loans_made after.seen before.replica) =
              subst (λ (l : Loan). times l (loans_made before.seen before.replica) < times l (loans_made after.seen before.replica)) (sym is_it) more in
              inl (few one (times one (loans_asked (here ∷ []))) refl (omega (arith, enough, risen, asks_one here one made is)))
          by_loan true same (inr passed) = inr (subst (HasPassed setup before.replica after.seen) (sym (same-is_loan one made same)) passed)

-- so are all, where the place is behind the last
pub AreLent-all : (setup : Setup) (replica : ℕ) (items : List Item) (place : ℕ) (seen : List Entry)
    → length items ≤ place
    → AreLent setup replica (take place items) seen
    → AreLent setup replica items seen
AreLent-all setup replica items place seen past lent = subst (λ (xs : List Item). AreLent setup replica xs seen) (take_all place items past) lent

-- what is lent as far as was seen is lent in the whole
pub AreLent-on : (setup : Setup) (replica : ℕ) (items : List Item) (seen history : List Entry)
    → IsPrefix seen history
    → AreLent setup replica items seen
    → AreLent setup replica items history
AreLent-on setup replica items seen history told lent one = ⊎_elim
    (λ (few : times one (loans_asked items) ≤ times one (loans_made seen replica)). inl (omega (arith, few, times-seen one replica seen history told)))
    (λ (passed : HasPassed setup replica seen one). inr (HasPassed-seen setup replica seen history one told passed))
    (lent one)

-- what is lent between two moments is lent around them
pub HasLent-around : (setup : Setup) (item : Item) (before now tried after : SessionView)
    → IsPrefix before.seen now.seen
    → IsPrefix now.seen tried.seen
    → IsPrefix tried.seen after.seen
    → now.replica ≡ before.replica
    → HasLent setup item now tried
    → HasLent setup item before after
HasLent-around setup item before now tried after first second third same lent = go (loan_of item) lent
  where
    Lent : SessionView → SessionView → ℕ → Loan → Type 0
    Lent one other replica made = (times made (loans_made one.seen replica) < times made (loans_made other.seen replica)) ⊎ HasPassed setup replica other.seen made

    go : (asked : Option Loan) → IfSome asked (Lent now tried now.replica) → IfSome asked (Lent before after before.replica)
    go None lent = tt
    go (Some made) lent = by_case (subst (λ (r : ℕ). Lent now tried r made) same lent)
      where
        by_case : Lent now tried before.replica made → Lent before after before.replica made
        by_case (inl more) =
            inl (omega (arith, more, times-seen made before.replica before.seen now.seen first, times-seen made before.replica tried.seen after.seen third))
        by_case (inr passed) = inr (HasPassed-seen setup before.replica tried.seen after.seen made third passed)

-- an item whose tries wait asks for no loan
pub no_loan : (tries : ℕ) (item : Item) (before after : List Entry) → HaveWaited tries item before after → 0 < tries → loan_of item ≡ None
no_loan tries (item.Lend holder conit amount) before after waited some = absurd (omega (arith, waited.count, ap length (waited.none refl), some))
no_loan tries (item.Back owner conit amount) before after waited some = absurd (omega (arith, waited.count, ap length (waited.none refl), some))
no_loan tries (item.Write weights op) before after waited some = refl
no_loan tries (item.Held weight op) before after waited some = refl
no_loan tries (item.Reserve conit amount) before after waited some = refl
no_loan tries (item.Release conit) before after waited some = refl
no_loan tries (item.Read key needs) before after waited some = refl
no_loan tries item.Restart before after waited some = refl

-- an item that asks for no loan lends none
pub HasLent-none : (setup : Setup) (item : Item) (before after : SessionView) → loan_of item ≡ None → HasLent setup item before after
HasLent-none setup item before after none = rw (none) tt

-- an item's loan after the call that asks for it, where this made it or refused it for its amount
pub HasLent-asked : (setup : Setup) (item : Item) (one : Loan) (before after : SessionView) (moment : ℕ) (answer : Result (Unit {0}) NodeLoanFault)
    → loan_of item ≡ Some one
    → OnOk answer (HasMade setup before after moment (act_of one))
    → IfErr answer (λ told. HasHeard setup before (marked_lent told before) after)
    → IfErr answer (IsLoanFaultSeen setup after one)
    → is_refused answer ≡ false
    → HasLent setup item before after
HasLent-asked setup item one before after moment (Ok done) is made heard seen plain = rw (is) (inl (made_more setup before after one moment made))
HasLent-asked setup item one before after moment (Err (fault.Node why)) is made heard seen plain = cc
HasLent-asked setup item one before after moment (Err (fault.Home conit most)) is made heard seen plain =
    rw (is) (inr (refused setup before after one (fault.Home conit most) (ap (λ (s : SessionView). s.replica) heard.value) seen (λ why same. cc)))
HasLent-asked setup item one before after moment (Err (fault.Free conit most)) is made heard seen plain =
    rw (is) (inr (refused setup before after one (fault.Free conit most) (ap (λ (s : SessionView). s.replica) heard.value) seen (λ why same. cc)))
