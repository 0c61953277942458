-- A careful run never sells too many places, nor fewer than none.
use Rattle.std.proofs.Common.{◌≡◌, ◌==◌, ℕ, zero, suc, ◌<◌, ◌≤◌, unsigned_abs, ℤ, pos, negsuc, ◌+ℤ◌, ◌-ℤ◌, ◌≤ℤ◌, ◌<ℤ◌, List, [], ◌∷◌, ◌++◌, length}
use Rattle.std.proofs.Common.{get_or, map, flat_map, sum, All, Option, None, Some, refl, sym, subst, arith}
use Rattle.std.specs.Option.{option_to_list}
use Rattle.std.proofs.lemmas.Bool.{eqb-true}
use Rattle.std.proofs.lemmas.Int.{ints}
use Rattle.std.proofs.lemmas.List.{append-nil}
use Rattle.std.proofs.lemmas.List.Elements.{All-filter, All-weaker, filter_passes}
use Rattle.tact_base.proofs.ConitListLemmas.{IsConitList-once, weight_in_limits}
use Rattle.tact_base.specs.Setup.{Setup, replicas_of}
use Rattle.tact_base.specs.Sums.{on_conit, signed_sum, weights_on}
use Rattle.tact_base.specs.declared.conit_list.Weight.{Weight}
use Rattle.tact_base.specs.declared.write.Write.{Write}
use Rattle.run_model.specs.Histories.{part_of}
use Rattle.run_model.specs.Loans.{out}
use Rattle.run_model.specs.Order.{value}
use Rattle.run_model.specs.Ranges.{IsWeightInRange}
use Rattle.run_model.specs.Reference.{num_error, reference}
use Rattle.run_model.specs.Replies.{outs_of}
use Rattle.run_model.specs.Runs.{IsLawful, IsRun}
use Rattle.run_model.specs.declared.entry.Entry.{Entry}
use Rattle.run_model.proofs.EntriesInRange.{acted_is_asked}
use Rattle.run_model.proofs.PartLemmas.{accepted_in}
use Rattle.run_model.proofs.PrefixLemmas.{EachAfter-last, EachAfter-prefix, IsPrefix-append}
use Rattle.run_model.proofs.RunInduction.{IsRun-prefix, over_runs}
use Rattle.run_model.proofs.SoundRuns.{Sound-run}
use Rattle.run_model.proofs.WeightsInRange.{IsWeights-in_range}
use Rattle.run_promises.proofs.FreeCalls.{sum-outs}
use Rattle.run_promises.proofs.Kept.{IsWithin-run}
use Rattle.run_promises.proofs.LoansAgree.{LoansAgree-run}
use Rattle.run_promises.proofs.NumErrors.{num_error-within}
use Rattle.seat_app.specs.Careful.{IsCareful, IsCarefulEntry, IsNeverOversold, IsWithinCapacity, LeavesRoom}
use Rattle.seat_app.specs.Seats.{SeatsState, out_of}
use Rattle.seat_app.proofs.ReferenceSteps.{reference-nil, reference-push}

-- what is out, with 0 for the replica itself
outs_of-all : (setup : Setup) (replica : ℕ) (part : List Entry) (conit : ℕ)
    → sum (outs_of setup replica part conit) ≡ out_of setup replica part conit
outs_of-all setup replica part conit = sum-outs (λ (holder : ℕ). out setup replica part holder conit) replica (replicas_of setup)

-- a number that is off by at most so much keeps within its bounds after a change that leaves room
abbrev IsBetween : ℤ → ℕ → Type 0
IsBetween z most = (pos 0 ≤ℤ z) × (z ≤ℤ pos most)

changed : (whole seen : ℤ) (out most : ℕ) (change : ℤ)
    → unsigned_abs (whole -ℤ seen) ≤ out
    → (pos 0 <ℤ change → (seen +ℤ pos out +ℤ change) ≤ℤ pos most)
    → (change <ℤ pos 0 → pos 0 ≤ℤ (seen -ℤ pos out +ℤ change))
    → IsBetween whole most
    → IsBetween (whole +ℤ change) most
changed whole seen out most (pos zero) off above below between = (omega (arith, ints, between.0), omega (arith, ints, between.1))
changed whole seen out most (pos (suc n)) off above below between =
    let room : (seen +ℤ pos out +ℤ pos (suc n)) ≤ℤ pos most = above (omega (arith, ints)) in
    (omega (arith, ints, between.0), omega (arith, ints, off, room))
changed whole seen out most (negsuc n) off above below between =
    let room : pos 0 ≤ℤ (seen -ℤ pos out +ℤ negsuc n) = below (omega (arith, ints)) in
    (omega (arith, ints, off, room), omega (arith, ints, between.1))

module _ (setup : Setup) (seats : SeatsState) (before : List Entry) (entry : Entry) (run : IsRun setup before) (lawful : IsLawful setup before entry) where
  -- the weights of its write on the conit: at most one, on a conit of the setup
  abbrev weights : List Weight
  weights = weights_on (option_to_list (accepted_in entry)) seats.conit

  few_weights : length weights ≤ 1
  few_weights = go (accepted_in entry) refl
    where
      go : (write : Option Write)
          → accepted_in entry ≡ write
          → length (weights_on (option_to_list write) seats.conit) ≤ 1
      go None is = omega arith
      go (Some write) is =
          let asked = acted_is_asked setup entry.replica entry.moment entry.act write lawful.due.in_range.act is in
          let kept = IsWeights-in_range setup write.weights asked.weights in
          subst (λ (ws : List Weight). length (on_conit seats.conit ws) ≤ 1) (sym (append-nil write.weights))
          (IsConitList-once (λ (weight : Weight). weight.conit) weight_in_limits write.weights kept seats.conit)

  in_setup : 0 < length weights → seats.conit < setup.conits
  in_setup some = go (accepted_in entry) refl some
    where
      go : (write : Option Write)
          → accepted_in entry ≡ write
          → 0 < length (weights_on (option_to_list write) seats.conit)
          → seats.conit < setup.conits
      go None is some = absurd (omega arith)
      go (Some write) is some =
          let asked = acted_is_asked setup entry.replica entry.moment entry.act write lawful.due.in_range.act is in
          let d : Weight = record { conit = 0; nweight = pos 0; oweight = 0 } in
          let on = weights_on (write ∷ []) seats.conit in
          let all = flat_map (λ (w : Write). w.weights) (write ∷ []) in
          let here = λ (weight : Weight). weight.conit == seats.conit in
          let each = subst (All (λ (weight : Weight). weight.conit < setup.conits)) (sym (append-nil write.weights))
          (All-weaker (IsWeightInRange setup) (λ (weight : Weight). weight.conit < setup.conits) (λ weight fits. fits.conit) write.weights asked.weights.each) in
          let below = All-filter here (λ (weight : Weight). weight.conit < setup.conits) all each 0 d some in
          let passes = filter_passes here all 0 d some in
          omega (arith, below, eqb-true (get_or on 0 d).conit seats.conit passes)

  -- what the replica sees is off by at most what it has out
  off : seats.conit < setup.conits
      → unsigned_abs (reference setup before seats.conit -ℤ value setup entry.replica (part_of before entry.replica) seats.conit)
      ≤ out_of setup entry.replica (part_of before entry.replica) seats.conit
  off conit_in =
      subst (λ n. num_error setup before entry.replica seats.conit ≤ n) (outs_of-all setup entry.replica (part_of before entry.replica) seats.conit)
      (num_error-within setup before (Sound-run setup before run) (LoansAgree-run setup before run) (IsWithin-run setup before run) entry.replica seats.conit
      lawful.due.in_range.replica conit_in)

  within-push : IsCarefulEntry setup seats (part_of before entry.replica) entry
      → IsWithinCapacity setup seats before
      → IsWithinCapacity setup seats (before ++ entry ∷ [])
  within-push careful within =
      let grown = reference-push setup before entry seats.conit lawful.due.in_range.replica in
      let both = go weights few_weights in_setup careful in
      record { least = subst (λ z. pos 0 ≤ℤ z) (sym grown) both.0; most = subst (λ z. z ≤ℤ pos seats.capacity) (sym grown) both.1 }
    where
      go : (on : List Weight)
          → length on ≤ 1
          → (0 < length on → seats.conit < setup.conits)
          → All (LeavesRoom setup seats entry.replica (part_of before entry.replica)) (map (λ weight. weight.nweight) on)
          → IsBetween (reference setup before seats.conit +ℤ signed_sum (map (λ weight. weight.nweight) on)) seats.capacity
      go [] few conit_in room = (omega (arith, ints, within.least), omega (arith, ints, within.most))
      go (weight ∷ []) few conit_in room =
          let leaves = room 0 (pos 0) (omega arith) in
          let total : weight.nweight +ℤ pos 0 ≡ weight.nweight = omega (arith, ints) in
          subst (λ z. IsBetween (reference setup before seats.conit +ℤ z) seats.capacity) (sym total)
          (changed (reference setup before seats.conit) (value setup entry.replica (part_of before entry.replica) seats.conit)
          (out_of setup entry.replica (part_of before entry.replica) seats.conit) seats.capacity weight.nweight (off (conit_in (omega arith))) leaves.above leaves.below
          (within.least, within.most))
      go (first ∷ second ∷ rest) few conit_in room = absurd (omega arith)

-- at the end, and so at every point
within_capacity : (setup : Setup) (seats : SeatsState) (history : List Entry)
    → IsRun setup history
    → IsCareful setup seats history
    → IsWithinCapacity setup seats history
within_capacity setup seats =
    over_runs setup (λ history. IsCareful setup seats history → IsWithinCapacity setup seats history)
    (λ careful. record { least = omega (arith, ints, reference-nil setup seats.conit); most = omega (arith, ints, reference-nil setup seats.conit) })
    (λ before entry run lawful holds careful.
    let rule = λ (front : List Entry) (one : Entry). IsCarefulEntry setup seats (part_of front one.replica) one in
    within-push setup seats before entry run lawful (EachAfter-last rule before entry careful)
    (holds (EachAfter-prefix rule before (before ++ entry ∷ []) (IsPrefix-append before (entry ∷ [])) careful)))

pub never_oversold : (setup : Setup) (seats : SeatsState) (history : List Entry)
    → IsRun setup history
    → IsCareful setup seats history
    → IsNeverOversold setup seats history
never_oversold setup seats history run careful prefix begins =
    let rule = λ (front : List Entry) (one : Entry). IsCarefulEntry setup seats (part_of front one.replica) one in
    within_capacity setup seats prefix (IsRun-prefix setup prefix history begins run) (EachAfter-prefix rule prefix history begins careful)
