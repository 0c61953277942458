-- What the budgets keep at the opening.
use Rattle.std.proofs.Common.{◌≡◌, ℕ, ◌-◌, ◌*◌, ◌/◌, ◌%◌, ◌^◌, ◌<◌, ◌≤◌, ℤ, List, [], get_or, drop, All, replicate, ap, arith}
use Rattle.std.proofs.lemmas.List.{length-replicate, get_or-replicate, drop_all}
use Rattle.std.proofs.lemmas.List.Elements.{All-map}
use Rattle.std.proofs.lemmas.List.FromFn.{length-map-range_with_len}
use Rattle.std.proofs.lemmas.List.Sums.{get_or-le-sum_by, sum-map}
use Rattle.std.proofs.lemmas.Nat.{div_below, mod_below}
use Rattle.tact_base.proofs.ListLemmas.{All-range}
use Rattle.tact_base.proofs.Peers.{All-peers}
use Rattle.tact_base.proofs.PeerSums.{sum_by-each-le, reads-peers}
use Rattle.tact_base.proofs.SetupLemmas.{HasCounts-from_IsSetup, HasRow-from_IsSetup, place_in, length-loans_of}
use Rattle.tact_base.specs.Setup.{Setup, IsSetup, peers_of, place_of, alpha_of, loans_of, loan_of}
use Rattle.tact_base.specs.Sums.{above_zero, below_zero}
use Rattle.tact_base.specs.declared.conit_list.Weight.{Weight}
use Rattle.tact_base.specs.declared.limits.TheConstants.{ALPHA_MAX}
use Rattle.split_budget.specs.Budgets.{BudgetState, by_place, opening, IsPeer, part_on, reserved_on, lent_to, returned_by, returned_to, out, all_out}
use Rattle.split_budget.specs.Kept.{KeepsPeer, KeepsBudgets}
use Rattle.split_budget.proofs.Places.{get_or-by_place}

-- One opening, with so much room.
module _ (setup : Setup) (good : IsSetup setup) (replica : ℕ) (among : replica < setup.replicas) (room : ℕ) where
  -- a loan is within the limit of alphas
  pub loan-limit : (owner conit holder : ℕ)
      → owner < setup.replicas
      → conit < setup.conits
      → holder < setup.replicas
      → loan_of setup owner conit holder ≤ ALPHA_MAX
  loan-limit owner conit holder o k h =
      let row = HasRow-from_IsSetup setup good owner conit o k in
      let long = length-loans_of setup (HasCounts-from_IsSetup setup good) owner conit o k in
      let one = get_or-le-sum_by (λ x. x) (loans_of setup owner conit) holder 0 (rw long h) in
      omega (arith, one, row.total, row.alpha)

  told-fits : All (λ told. told < 2 ^ 64) (by_place setup (λ owner conit. loan_of setup owner conit replica))
  told-fits =
      let counts = HasCounts-from_IsSetup setup good in
      All-map (λ told. told < 2 ^ 64) (λ place. loan_of setup (place / setup.conits) (place % setup.conits) replica) _
      (All-range (λ place. loan_of setup (place / setup.conits) (place % setup.conits) replica < 2 ^ 64) 0 (setup.replicas * setup.conits)
      (λ place low below.
      let owner = div_below place setup.conits setup.replicas counts.conits_low (omega arith) in
      let conit = mod_below place setup.conits counts.conits_low in
      omega (arith, loan-limit (place / setup.conits) (place % setup.conits) replica owner conit among)))

  abbrev state : BudgetState
  state = opening setup replica room

  nothing_missed : (part : ℤ → ℕ) (known conit : ℕ) → part_on part conit (drop known []) ≡ 0
  nothing_missed part known conit = ap (part_on part conit) (drop_all {X = List Weight} known [] (omega arith))

  lent-opening : (peer conit : ℕ)
      → peer < setup.replicas
      → conit < setup.conits
      → lent_to state peer conit ≡ loan_of setup replica conit peer
  lent-opening peer conit p k = get_or-by_place setup (λ holder conit. loan_of setup replica conit holder) peer conit p k

  opening-peer : (peer conit : ℕ)
      → IsPeer state peer
      → conit < setup.conits
      → KeepsPeer state peer conit
  opening-peer peer conit is k =
      let within = place_in setup peer conit is.0 k in
      let none : reserved_on state conit ≡ 0 = get_or-replicate setup.conits conit 0 0 k in
      let returned : returned_to state peer conit ≡ 0 = get_or-replicate (setup.replicas * setup.conits) (place_of setup peer conit) 0 0 within in
      let told : returned_by state peer conit ≡ 0 = get_or-replicate (setup.replicas * setup.conits) (place_of setup peer conit) 0 0 within in
      record {
        plus = omega (arith, nothing_missed above_zero (get_or (replicate setup.replicas 0) peer 0 - 0) conit, none);
        minus = omega (arith, nothing_missed below_zero (get_or (replicate setup.replicas 0) peer 0 - 0) conit, none);
        returned = omega (arith, returned);
        returned_known = omega (arith, told);
        lent = omega (arith, lent-opening peer conit is.0 k, loan-limit replica conit peer among k is.0);
      }

  opening-home : (conit : ℕ)
      → conit < setup.conits
      → all_out state conit ≤ alpha_of setup replica conit
  opening-home conit k =
      let peers = peers_of setup replica in
      let loans = loans_of setup replica conit in
      let has = λ (peer : ℕ). out state peer conit in
      let each = All-peers setup replica (λ peer. has peer ≤ get_or loans peer 0) (λ peer within other. omega (arith, lent-opening peer conit within k)) in
      let less = sum_by-each-le has (λ peer. get_or loans peer 0) peers each in
      let all = reads-peers setup replica loans (length-loans_of setup (HasCounts-from_IsSetup setup good) replica conit among k) in
      omega (arith, sum-map has peers, less, all, (HasRow-from_IsSetup setup good replica conit among k).total)

  pub KeepsBudgets-opening : KeepsBudgets state
  KeepsBudgets-opening = record {
    setup = good;
    replica = among;
    known = length-replicate setup.replicas 0;
    reserved = length-replicate setup.conits 0;
    lent = length-map-range_with_len _ 0 (setup.replicas * setup.conits);
    lent_known = length-map-range_with_len _ 0 (setup.replicas * setup.conits);
    returned = length-replicate (setup.replicas * setup.conits) 0;
    returned_known = length-replicate (setup.replicas * setup.conits) 0;
    told = told-fits;
    given_up = λ peer is. omega arith;
    peers = opening-peer;
    home = opening-home;
  }
