-- What one more entry adds to the reference value of a conit: the nweights that it has on it.
use Rattle.std.proofs.Common.{◌≡◌, ℕ, zero, suc, ◌+◌, ◌<◌, ◌≤◌, pos, ◌+ℤ◌, List, [], ◌∷◌, ◌++◌, flat_map, Option, None, Some, refl, sym, ap, ◌∙◌, ⊎_elim, arith}
use Rattle.std.specs.List.{cons_option, range_with_len}
use Rattle.std.specs.Option.{option_to_list}
use Rattle.std.proofs.lemmas.Bool.{cases_eq}
use Rattle.std.proofs.lemmas.Int.{ints}
use Rattle.tact_base.proofs.SumsLemmas.{net_sum-append}
use Rattle.tact_base.specs.Setup.{Setup}
use Rattle.tact_base.specs.Sums.{net_sum}
use Rattle.tact_base.specs.declared.write.Write.{Write}
use Rattle.run_model.specs.Histories.{part_of}
use Rattle.run_model.specs.OwnWrites.{own}
use Rattle.run_model.specs.Reference.{reference}
use Rattle.run_model.specs.declared.entry.Entry.{Entry}
use Rattle.run_model.proofs.PartLemmas.{accepted_in, own-push, part_of-push_other, part_of-push_same}

-- Of joined lists one goes on with more, and no other does: what it goes on with is added.
module _ (whole front : ℕ → List Write) (place : ℕ) (more : List Write) (conit : ℕ) (here : whole place ≡ front place ++ more)
    (elsewhere : (i : ℕ) → (i ≡ place → ⊥) → whole i ≡ front i) where
  net_sum-past : (start len : ℕ)
      → place < start
      → net_sum (flat_map whole (range_with_len start len)) conit ≡ net_sum (flat_map front (range_with_len start len)) conit
  net_sum-past start zero past = refl
  net_sum-past start (suc len) past =
      let rest = range_with_len (start + 1) len in
      let same : whole start ≡ front start = elsewhere start (λ is. omega (arith, is)) in
      omega (
        arith,
        ints,
        net_sum-append (whole start) (flat_map whole rest) conit,
        net_sum-append (front start) (flat_map front rest) conit,
        ap (λ ws. net_sum ws conit) same,
        net_sum-past (start + 1) len (omega arith),
      )

  pub net_sum-one_goes_on : (start len : ℕ)
      → start ≤ place
      → place < start + len
      → net_sum (flat_map whole (range_with_len start len)) conit
      ≡ net_sum (flat_map front (range_with_len start len)) conit +ℤ net_sum more conit
  net_sum-one_goes_on start zero low high = absurd (omega arith)
  net_sum-one_goes_on start (suc len) low high =
      let rest = range_with_len (start + 1) len in
      let of_whole = net_sum-append (whole start) (flat_map whole rest) conit in
      let of_front = net_sum-append (front start) (flat_map front rest) conit in
      ⊎_elim
      (λ (at : start ≡ place).
      let goes : whole start ≡ front start ++ more = ap whole at ∙ here ∙ ap (λ i. front i ++ more) (sym at) in
      omega (arith, ints, of_whole, of_front, ap (λ ws. net_sum ws conit) goes, net_sum-append (front start) more conit, net_sum-past (start + 1) len (omega (arith, at))))
      (λ (other : start ≡ place → ⊥).
      omega (
        arith,
        ints,
        of_whole,
        of_front,
        ap (λ ws. net_sum ws conit) (elsewhere start other),
        net_sum-one_goes_on (start + 1) len (omega (arith, low, other)) (omega arith),
      ))
      (cases_eq start place)

-- an option as a list
cons_option-nil : (write : Option Write) → cons_option write [] ≡ option_to_list write
cons_option-nil None = refl
cons_option-nil (Some write) = refl

-- one more entry
pub reference-push : (setup : Setup) (history : List Entry) (entry : Entry) (conit : ℕ)
    → entry.replica < setup.replicas
    → reference setup (history ++ entry ∷ []) conit ≡ reference setup history conit +ℤ net_sum (option_to_list (accepted_in entry)) conit
reference-push setup history entry conit within =
    net_sum-one_goes_on (λ r. own (part_of (history ++ entry ∷ []) r)) (λ r. own (part_of history r)) entry.replica (option_to_list (accepted_in entry)) conit
    (ap own (part_of-push_same history entry entry.replica refl) ∙ own-push (part_of history entry.replica) entry
    ∙ ap (λ more. own (part_of history entry.replica) ++ more) (cons_option-nil (accepted_in entry)))
    (λ r other. ap own (part_of-push_other history entry r (λ same. other (sym same))))
    0 setup.replicas (omega arith) (omega (arith, within))

-- and none at all
pub reference-nil : (setup : Setup) (conit : ℕ) → reference setup [] conit ≡ pos 0
reference-nil setup conit = by (range_with_len 0 setup.replicas)
  where
    by : (replicas : List ℕ) → net_sum (flat_map (λ r. own (part_of [] r)) replicas) conit ≡ pos 0
    by [] = refl
    by (replica ∷ replicas) = by replicas
