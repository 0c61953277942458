-- How far a replica's value is off is at most what the others may have accepted unseen, and that is within what it has
-- out.
use Rattle.std.proofs.Common.{◌≡◌, ℕ, ◌+◌, ◌<◌, ◌≤◌, ◌==◌, true, false, cond, nat_le, unsigned_abs, ℤ, pos, ◌+ℤ◌, ◌-ℤ◌}
use Rattle.std.proofs.Common.{List, [], ◌∷◌, ◌++◌, length, get_or, filter, flat_map, sum, sum_by, All, refl, sym, ap}
use Rattle.std.proofs.Common.{ap₂, ◌∙◌, subst, ⊎_elim, arith}
use Rattle.std.proofs.lemmas.Bool.{cases_eq, ne_eqb, lt-leb, le-leb}
use Rattle.std.proofs.lemmas.Int.{ints}
use Rattle.std.proofs.lemmas.List.{length-append, get_or-append-add}
use Rattle.std.proofs.lemmas.List.Elements.{All-head, All-tail, filter-append}
use Rattle.std.proofs.lemmas.List.Sums.{sum_by-cons, sum-map}
use Rattle.tact_base.proofs.ListLemmas.{All-range, filter_all, filter_none}
use Rattle.tact_base.proofs.OrderSums.{net_sum-in_order}
use Rattle.tact_base.proofs.SumsLemmas.{net_sum-append, net_sum-parts}
use Rattle.tact_base.specs.Sums.{net_sum, plus_sum, minus_sum}
use Rattle.tact_base.specs.declared.write.Write.{Write}
use Rattle.tact_base.specs.Setup.{Setup, replicas_of}
use Rattle.run_model.specs.Histories.{part_of}
use Rattle.run_model.specs.OwnWrites.{own}
use Rattle.run_model.specs.Taking.{log_of}
use Rattle.run_model.specs.Loans.{share, out}
use Rattle.run_model.specs.Order.{value}
use Rattle.run_model.specs.Promises.{IsWithin}
use Rattle.run_model.specs.Reference.{unseen, num_error}
use Rattle.run_model.specs.Replies.{outs_of}
use Rattle.run_model.specs.declared.entry.Entry.{Entry}
use Rattle.run_model.proofs.PrefixLemmas.{IsPrefix-reads}
use Rattle.run_model.proofs.Accepted.{log_of-same}
use Rattle.run_model.proofs.Sound.{Sound}
use Rattle.run_model.proofs.SoundViews.{Sound-log}
use Rattle.run_promises.proofs.LoansAgree.{LoansAgree}

-- the size of a net sum is at most the greater of the two sums
net_sum-size : (writes : List Write) (conit most : ℕ)
    → plus_sum writes conit ≤ most
    → minus_sum writes conit ≤ most
    → unsigned_abs (net_sum writes conit) ≤ most
net_sum-size writes conit most plus minus = size (net_sum writes conit) (plus_sum writes conit) (minus_sum writes conit) (net_sum-parts writes conit) plus minus
  where
    size : (z : ℤ) (a b : ℕ) → z ≡ pos a -ℤ pos b → a ≤ most → b ≤ most → unsigned_abs z ≤ most
    size z a b is plus minus = omega (arith, ints, is, plus, minus)

-- of joined lists, each of which goes on from another, the net sums differ by no more than what each goes on with
module _ (whole front rest : ℕ → List Write) (goes_on : (i : ℕ) → whole i ≡ front i ++ rest i) (conit : ℕ) (most : ℕ → ℕ) where
  pub net_sum-differs : (xs : List ℕ)
      → All (λ i. unsigned_abs (net_sum (rest i) conit) ≤ most i) xs
      → unsigned_abs (net_sum (flat_map whole xs) conit -ℤ net_sum (flat_map front xs) conit) ≤ sum_by most xs
  net_sum-differs [] all = omega (arith, ints)
  net_sum-differs (x ∷ xs) all =
      let of_whole = net_sum-append (whole x) (flat_map whole xs) conit in
      let of_front = net_sum-append (front x) (flat_map front xs) conit in
      let of_one : net_sum (whole x) conit ≡ net_sum (front x) conit +ℤ net_sum (rest x) conit = ap (λ ws. net_sum ws conit) (goes_on x) ∙ net_sum-append (front x) (rest x) conit in
      let here = All-head (λ i. unsigned_abs (net_sum (rest i) conit) ≤ most i) x xs all in
      let later = net_sum-differs xs (All-tail (λ i. unsigned_abs (net_sum (rest i) conit) ≤ most i) x xs all) in
      combine (net_sum (whole x ++ flat_map whole xs) conit) (net_sum (whole x) conit) (net_sum (flat_map whole xs) conit) (net_sum (front x ++ flat_map front xs) conit)
      (net_sum (front x) conit) (net_sum (flat_map front xs) conit) (net_sum (rest x) conit)
      (most x) (sum_by most xs) (sum_by most (x ∷ xs)) of_whole of_front of_one here later (sum_by-cons most x xs)
    where
      combine : (w wx ws f fx fs r : ℤ) (m s t : ℕ)
          → w ≡ wx +ℤ ws
          → f ≡ fx +ℤ fs
          → wx ≡ fx +ℤ r
          → unsigned_abs r ≤ m
          → unsigned_abs (ws -ℤ fs) ≤ s
          → t ≡ m + s
          → unsigned_abs (w -ℤ f) ≤ t
      combine w wx ws f fx fs r m s t whole_is front_is one_is here later total = omega (arith, ints, whole_is, front_is, one_is, here, later, total)

-- A sound history.
module _ (setup : Setup) (history : List Entry) (sound : Sound setup history) where
  -- what an origin accepted is what a replica has of it, and then what it hasn't seen
  pub own-is_log_and_unseen : (replica origin : ℕ)
      → own (part_of history origin) ≡ log_of replica (part_of history replica) origin ++ unseen history origin replica
  own-is_log_and_unseen replica origin =
      let log = log_of replica (part_of history replica) origin in
      let whole = own (part_of history origin) in
      let indices = (sound.own origin).indices in
      let prefix = Sound-log setup history sound replica origin in
      let rest = prefix.0 in
      let is : whole ≡ log ++ rest = prefix.1 in
      let test = λ (w : Write). nat_le (length log) w.index in
      let early : All (λ w. test w ≡ false) log =
      λ k d inside.
      let at : (get_or log k d).index ≡ k =
      ap (λ (w : Write). w.index) (sym (IsPrefix-reads log whole k d prefix inside)) ∙ indices k d (omega (arith, inside, ap length is, length-append log rest)) in
      lt-leb (length log) (get_or log k d).index (omega (arith, at, inside)) in
      let late : All (λ w. test w ≡ true) rest =
      λ k d inside.
      let reads : get_or whole (length log + k) d ≡ get_or rest k d = ap (λ ws. get_or ws (length log + k) d) is ∙ get_or-append-add log rest k d in
      let at : (get_or rest k d).index ≡ length log + k =
      ap (λ (w : Write). w.index) (sym reads) ∙ indices (length log + k) d (omega (arith, inside, ap length is, length-append log rest)) in
      le-leb (length log) (get_or rest k d).index (omega (arith, at)) in
      let kept : filter test whole ≡ rest =
      ap (filter test) is ∙ filter-append test log rest ∙ ap₂ (λ (xs ys : List Write). xs ++ ys) (filter_none test log early) (filter_all test rest late) in
      is ∙ ap (λ ws. log ++ ws) (sym kept)

  -- of its own writes a replica has seen all
  own_unseen : (replica : ℕ) → unseen history replica replica ≡ []
  own_unseen replica =
      let is = own-is_log_and_unseen replica replica in
      let same : length (log_of replica (part_of history replica) replica) ≡ length (own (part_of history replica)) = ap length (log_of-same replica (part_of history replica)) in
      none (unseen history replica replica) (omega (arith, same, ap length is, length-append (log_of replica (part_of history replica) replica) (unseen history replica replica)))
    where
      none : (writes : List Write) → length writes ≡ 0 → writes ≡ []
      none [] size = refl
      none (write ∷ writes) size = absurd (omega (arith, size))

  -- what others accepted unseen is within what is out at them
  module _ (agree : LoansAgree setup history) (within : IsWithin setup history) (replica conit : ℕ) (replica_in : replica < setup.replicas) (conit_in : conit < setup.conits) where
    abbrev out_at : ℕ → ℕ
    out_at holder = cond (holder == replica) 0 (out setup replica (part_of history replica) holder conit)

    unseen_within : (origin : ℕ)
        → origin < setup.replicas
        → unsigned_abs (net_sum (unseen history origin replica) conit) ≤ out_at origin
    unseen_within origin origin_in = ⊎_elim
        (λ (same : origin ≡ replica).
        let nothing : unseen history origin replica ≡ [] = subst (λ o. unseen history o replica ≡ []) (sym same) (own_unseen replica) in
        let none : net_sum (unseen history origin replica) conit ≡ pos 0 = ap (λ ws. net_sum ws conit) nothing in
        let size : unsigned_abs (net_sum (unseen history origin replica) conit) ≡ 0 = ap unsigned_abs none in
        omega (arith, size))
        (λ (other : origin ≡ replica → ⊥).
        let at : out_at origin ≡ out setup replica (part_of history replica) origin conit =
        ap (λ yes. cond yes 0 (out setup replica (part_of history replica) origin conit)) (ne_eqb origin replica other) in
        let bound = within origin replica conit origin_in replica_in (λ turned. other (sym turned)) conit_in in
        let lent : share setup origin (part_of history origin) replica conit ≤ out setup replica (part_of history replica) origin conit =
        omega (arith, agree.lent origin replica conit, agree.returned replica origin conit) in
        net_sum-size (unseen history origin replica) conit (out_at origin) (omega (arith, at, bound.plus, lent)) (omega (arith, at, bound.minus, lent)))
        (cases_eq origin replica)

    -- The value is off by no more than what is out.
    pub num_error-within : num_error setup history replica conit ≤ sum (outs_of setup replica (part_of history replica) conit)
    num_error-within =
        let logs = log_of replica (part_of history replica) in
        let whole = λ (origin : ℕ). own (part_of history origin) in
        let differs = net_sum-differs whole logs (λ origin. unseen history origin replica) (own-is_log_and_unseen replica) conit out_at (replicas_of setup)
        (All-range (λ origin. unsigned_abs (net_sum (unseen history origin replica) conit) ≤ out_at origin) 0 setup.replicas (λ origin low high. unseen_within origin (omega arith))) in
        let value_is : value setup replica (part_of history replica) conit ≡ net_sum (flat_map logs (replicas_of setup)) conit = net_sum-in_order (flat_map logs (replicas_of setup)) conit in
        let total : sum (outs_of setup replica (part_of history replica) conit) ≡ sum_by out_at (replicas_of setup) = sum-map out_at (replicas_of setup) in
        rw (value_is, total) differs
