-- What a replica ever lent is bounded by the count of its entries.
use Rattle.std.proofs.Common.{◌≡◌, ℕ, ◌+◌, ◌*◌, ◌/◌, ◌%◌, ◌<◌, ◌≤◌, List, length, get_or, set, sym, subst, ⊎_elim, arith}
use Rattle.std.proofs.lemmas.Bool.{cases_lt}
use Rattle.std.proofs.lemmas.List.{get_or_past}
use Rattle.std.proofs.lemmas.List.Elements.{All-map, All-weaker, All-get_or, All-set}
use Rattle.std.proofs.lemmas.Nat.{div_below, mod_below}
use Rattle.tact_base.proofs.ListLemmas.{All-range}
use Rattle.tact_base.proofs.SetupLemmas.{HasCounts-from_IsSetup}
use Rattle.tact_base.specs.Setup.{Setup, IsSetup, loan_of}
use Rattle.tact_base.specs.declared.limits.TheConstants.{ALPHA_MAX, AMOUNT_MAX}
use Rattle.split_budget.specs.Budgets.{opening}
use Rattle.split_budget.proofs.Openings.{loan-limit}
use Rattle.replica_core.specs.States.{AreLentBy}

-- the numbers stay so where they are the same
pub AreLentBy-same : (count : ℕ) {old new : List ℕ}
    → new ≡ old
    → AreLentBy count old
    → AreLentBy count new
AreLentBy-same count same kept = subst (AreLentBy count) (sym same) kept

-- where more entries are made
pub AreLentBy-later : (before after : ℕ) (numbers : List ℕ)
    → before ≤ after
    → AreLentBy before numbers
    → AreLentBy after numbers
AreLentBy-later before after numbers more kept =
    All-weaker (λ lent. lent ≤ ALPHA_MAX + before * AMOUNT_MAX) (λ lent. lent ≤ ALPHA_MAX + after * AMOUNT_MAX)
    (λ lent within. omega (arith, within, more)) numbers kept

-- each is at most so much, wherever it stands
pub AreLentBy-at : (count : ℕ) (numbers : List ℕ) (place : ℕ)
    → AreLentBy count numbers
    → get_or numbers place 0 ≤ ALPHA_MAX + count * AMOUNT_MAX
AreLentBy-at count numbers place kept = ⊎_elim
    (λ (within : place < length numbers). All-get_or (λ lent. lent ≤ ALPHA_MAX + count * AMOUNT_MAX) numbers place 0 within kept)
    (λ (past : length numbers ≤ place). omega (arith, get_or_past numbers place 0 past))
    (cases_lt place (length numbers))

-- and where an entry before which they were so lends an amount
pub AreLentBy-lent : (count : ℕ) (numbers : List ℕ) (place amount : ℕ)
    → amount ≤ AMOUNT_MAX
    → AreLentBy count numbers
    → AreLentBy (count + 1) (set numbers place (get_or numbers place 0 + amount))
AreLentBy-lent count numbers place amount few kept =
    All-set (λ lent. lent ≤ ALPHA_MAX + (count + 1) * AMOUNT_MAX) numbers place (get_or numbers place 0 + amount)
    (omega (arith, few, AreLentBy-at count numbers place kept)) (AreLentBy-later count (count + 1) numbers (omega arith) kept)

-- the loans of an opening
pub AreLentBy-opening : (setup : Setup)
    → IsSetup setup
    → (replica : ℕ)
    → replica < setup.replicas
    → AreLentBy 0 (opening setup replica 0).lent
AreLentBy-opening setup good replica among =
    let counts = HasCounts-from_IsSetup setup good in
    All-map (λ lent. lent ≤ ALPHA_MAX + 0 * AMOUNT_MAX) (λ place. loan_of setup replica (place % setup.conits) (place / setup.conits)) _
    (All-range (λ place. loan_of setup replica (place % setup.conits) (place / setup.conits) ≤ ALPHA_MAX + 0 * AMOUNT_MAX) 0 (setup.replicas * setup.conits)
    (λ place low below.
    let holder = div_below place setup.conits setup.replicas counts.conits_low (omega arith) in
    let conit = mod_below place setup.conits counts.conits_low in
    omega (arith, loan-limit setup good replica among 0 replica (place % setup.conits) (place / setup.conits) among conit holder)))
