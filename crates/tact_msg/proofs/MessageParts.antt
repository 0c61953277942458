-- What a message and its parts, as they are read, say of each other.
use Rattle.std.proofs.Common.{◌≡◌, ◌≢◌, ℕ, zero, suc, ◌+◌, ◌-◌, ◌<◌, ◌≤◌, inl, inr, ◌==◌, List, [], ◌∷◌, ◌++◌, length, get_or, map, All, refl, sym, ap, ap₂, subst, ◌∙◌, arith}
use Rattle.std.specs.Prelude.{min}
use Rattle.std.specs.List.{flat_map, range_with_len}
use Rattle.std.proofs.lemmas.Bool.{cases_eq, eq-eqb, ne_eqb}
use Rattle.std.proofs.lemmas.List.{length-append, append-nil}
use Rattle.std.proofs.lemmas.List.Concat.{flat_map-cons}
use Rattle.std.proofs.lemmas.List.Elements.{All-append, All-cons, All-nil, All-weaker, filter-append}
use Rattle.std.proofs.lemmas.Grind.{flat_map-append}
use Rattle.tact_base.proofs.ListLemmas.{All-range, flat_map_agree}
use Rattle.tact_base.specs.declared.write.Write.{Write}
use Rattle.tact_base.specs.declared.conit_list.Weight.{Weight}
use Rattle.tact_base.specs.Setup.{Setup}
use Rattle.run_model.specs.Ranges.{AreWeightsInRange, IsWriteInRange}
use Rattle.run_model.specs.Bytes.{AreWeightsOf}
use Rattle.run_model.proofs.OriginWrites.{from_one, from_one-all, from_one-none}
use Rattle.run_model.proofs.WeightsInRange.{AreWeightsInRange-kept, IsWeights-in_range}
use Rattle.tact_msg.specs.declared.parts.Told.{Told}
use Rattle.tact_msg.specs.MessageBytes.{told_bound, told_bytes, write_bytes}
use Rattle.tact_msg.proofs.PartReaders.{IsTold, Tolds}
use Rattle.tact_msg.proofs.WriteReaders.{IsWriteOf, AllWrites}

-- ---- weights, as their type has them and as ranges have them

-- weights in range of a setup are its weights as their type has them
pub weights_of_setup : (setup : Setup) (weights : List Weight)
    → AreWeightsInRange setup weights
    → AreWeightsOf setup.conits weights
weights_of_setup setup weights are = (IsWeights-in_range setup weights are, λ k d within. (are.each k d within).conit)

-- and a write in range has its numbers within their limits, and the other way round
pub write_of_setup : (setup : Setup) (write : Write) → IsWriteInRange setup write → IsWriteOf setup.conits write
write_of_setup setup write is = record {
  stamp_least = is.stamp_least;
  stamp_most = is.stamp_most;
  moment = is.moment;
  weights = weights_of_setup setup write.weights is.weights;
  op = is.op;
}

pub write_in_setup : (setup : Setup) (write : Write) → IsWriteOf setup.conits write → IsWriteInRange setup write
write_in_setup setup write is = record {
  stamp_least = is.stamp_least;
  stamp_most = is.stamp_most;
  moment = is.moment;
  weights = (AreWeightsInRange-kept setup write.weights is.weights.0).0 is.weights.1;
  op = is.op;
}

-- ---- how many writes are told

-- below the bound
pub record IsFew (to origin due room count : ℕ) : Type 0 where
  pub due_most : count ≤ due
  pub room_most : count ≤ room
  pub receiver : origin ≡ to → count ≡ 0

pub few_told : (to origin due room count : ℕ) → count < told_bound to origin due room → IsFew to origin due room count
few_told to origin due room count below = elim (cases_eq origin to) [
  | inl is ↦
      let one : told_bound to origin due room ≡ 1 = rw (eq-eqb origin to is) refl in
      record { due_most = omega (arith, one, below); room_most = omega (arith, one, below); receiver = λ same. omega (arith, one, below) }
  | inr isnt ↦
      let many : told_bound to origin due room ≡ suc (min due room) = rw (ne_eqb origin to isnt) refl in
      record { due_most = omega (arith, many, below); room_most = omega (arith, many, below); receiver = λ same. absurd (isnt same) }
]

pub told_few : (to origin due room count : ℕ) → IsFew to origin due room count → count < told_bound to origin due room
told_few to origin due room count few = elim (cases_eq origin to) [
  | inl is ↦
      let one : told_bound to origin due room ≡ 1 = rw (eq-eqb origin to is) refl in
      omega (arith, one, few.receiver is)
  | inr isnt ↦
      let many : told_bound to origin due room ≡ suc (min due room) = rw (ne_eqb origin to isnt) refl in
      omega (arith, many, few.due_most, few.room_most)
]

-- ---- from parts that were read

-- what is told of each origin was read with some room
pub told_at_place : (to start room : ℕ) (tolds : List Told) (text : List ℕ)
    → Tolds to start room tolds text
    → (k : ℕ) (d : Told)
    → k < length tolds
    → (left : ℕ) × (own : List ℕ) × IsTold to (start + k) left (get_or tolds k d) own
told_at_place to start room [] text s k d within = absurd (omega arith)
told_at_place to start room (told ∷ tolds) text s zero d within = (room, s.0, subst (λ o. IsTold to o room told s.0) (omega arith) s.2)
told_at_place to start room (told ∷ tolds) text s (suc k) d within =
    let rest = told_at_place to (suc start) (room - told.count) tolds s.1 s.3 k d (omega arith) in
    (rest.0, rest.1, subst (λ o. IsTold to o rest.0 (get_or tolds k d) rest.1) (omega arith) rest.2)

pub tolds_spelled : (to start room : ℕ) (tolds : List Told) (text : List ℕ)
    → Tolds to start room tolds text
    → text ≡ flat_map told_bytes tolds
tolds_spelled to start room [] text s = s
tolds_spelled to start room (told ∷ tolds) text s =
    let rest = tolds_spelled to (suc start) (room - told.count) tolds s.1 s.3 in
    rw (flat_map-cons, s.4, s.2.spelled, rest) refl

-- the writes of an origin are those that are told of it
abbrev HasWrites : List Write → Told → Type 0
HasWrites writes told =
    (length (from_one told.origin writes) ≡ told.count)
    × (map (λ (write : Write). write.index) (from_one told.origin writes) ≡ range_with_len told.first (length (from_one told.origin writes)))

pub record AreWritten (conits start room : ℕ) (tolds : List Told) (writes : List Write) (text : List ℕ) : Type 0 where
  pub spelled : text ≡ flat_map write_bytes writes
  pub each : All (IsWriteOf conits) writes
  pub later : All (λ (write : Write). start ≤ write.origin) writes
  pub placed : writes ≡ flat_map (λ o. from_one o writes) (range_with_len start (length tolds))
  pub few : length writes ≤ room
  pub told : All (HasWrites writes) tolds

abbrev IsFrom : ℕ → Write → Type 0
IsFrom origin write = write.origin ≡ origin

abbrev IsLater : ℕ → Write → Type 0
IsLater start write = start ≤ write.origin

-- an origin before others
module _ (start : ℕ) (ours others : List Write) (are : All (IsFrom start) ours) (later : All (IsLater (suc start)) others) where
  from_here : from_one start (ours ++ others) ≡ ours
  from_here =
      filter-append (λ (write : Write). write.origin == start) ours others
      ∙ ap₂ (λ (xs ys : List Write). xs ++ ys) (from_one-all start ours are)
      (from_one-none start others (All-weaker (IsLater (suc start)) (λ (write : Write). write.origin ≢ start) (λ write past same. absurd (omega (arith, past, same))) others later))
      ∙ append-nil ours

  from_there : (o : ℕ) → start < o → from_one o (ours ++ others) ≡ from_one o others
  from_there o past =
      filter-append (λ (write : Write). write.origin == o) ours others
      ∙ ap (λ (xs : List Write). xs ++ from_one o others)
      (from_one-none o ours (All-weaker (IsFrom start) (λ (write : Write). write.origin ≢ o) (λ write is same. absurd (omega (arith, is, same))) ours are))

pub written : (conits to start room : ℕ) (tolds : List Told) (text : List ℕ) (writes : List Write) (spelled : List ℕ)
    → Tolds to start room tolds text
    → AllWrites conits tolds writes spelled
    → AreWritten conits start room tolds writes spelled
written conits to start room [] text writes spelled t s = subst (λ (ws : List Write). AreWritten conits start room [] ws spelled) (sym s.0) (record {
  spelled = s.1;
  each = All-nil (IsWriteOf conits);
  later = All-nil (IsLater start);
  placed = refl;
  few = omega arith;
  told = All-nil (HasWrites []);
})
written conits to start room (told ∷ tolds) text writes spelled t s =
    let ours = s.0 in
    let others = s.1 in
    let rest = written conits to (suc start) (room - told.count) tolds t.1 others s.3 t.3 s.5 in
    let few = few_told to start (told.have - told.first) room told.count t.2.few in
    let origin : told.origin ≡ start = t.2.origin in
    let are : All (IsFrom start) ours = subst (λ o. All (IsFrom o) ours) origin s.4.1.origins in
    let here = from_here start ours others are rest.later in
    let at_told : from_one told.origin (ours ++ others) ≡ ours = subst (λ o. from_one o (ours ++ others) ≡ ours) (sym origin) here in
    let there : flat_map (λ o. from_one o others) (range_with_len (start + 1) (length tolds)) ≡ flat_map (λ o. from_one o (ours ++ others)) (range_with_len (start + 1) (length tolds)) =
    flat_map_agree (λ o. from_one o others) (λ o. from_one o (ours ++ others)) (range_with_len (start + 1) (length tolds))
    (All-range (λ o. from_one o others ≡ from_one o (ours ++ others)) (start + 1) (length tolds) (λ o low high. sym (from_there start ours others are rest.later o (omega (arith, low))))) in
    let next : suc start ≡ start + 1 = omega arith in
    let others_placed : others ≡ flat_map (λ o. from_one o others) (range_with_len (start + 1) (length tolds)) =
    subst (λ n. others ≡ flat_map (λ o. from_one o others) (range_with_len n (length tolds))) next rest.placed in
    subst (λ (ws : List Write). AreWritten conits start room (told ∷ tolds) ws spelled) (sym s.6) (record {
      spelled = rw (s.7, s.4.2, rest.spelled) (sym (flat_map-append write_bytes ours others));
      each = All-append (IsWriteOf conits) ours others s.4.1.each rest.each;
      later = All-append (IsLater start) ours others (All-weaker (IsFrom start) (IsLater start) (λ write is. omega (arith, is)) ours are)
          (All-weaker (IsLater (suc start)) (IsLater start) (λ write past. omega (arith, past)) others rest.later);
      placed = ap₂ (λ (xs ys : List Write). xs ++ ys) (sym here) (others_placed ∙ there);
      few = omega (arith, few.room_most, s.4.0, rest.few, length-append ours others);
      told = All-cons (HasWrites (ours ++ others)) told tolds (rw (at_told) s.4.0, rw (at_told) s.4.1.indices)
          (still start ours others are rest.later tolds (room - told.count) t.1 t.3 rest.told);
    })
  where
    still : (start : ℕ) (ours others : List Write)
        → All (IsFrom start) ours
        → All (IsLater (suc start)) others
        → (tolds : List Told) (left : ℕ) (own : List ℕ)
        → Tolds to (suc start) left tolds own
        → All (HasWrites others) tolds
        → All (HasWrites (ours ++ others)) tolds
    still start ours others are later tolds left own t all k d within =
        let at = told_at_place to (suc start) left tolds own t k d within in
        let told = get_or tolds k d in
        let same : from_one told.origin others ≡ from_one told.origin (ours ++ others) = sym (from_there start ours others are later told.origin (omega (arith, at.2.origin))) in
        subst (λ (ws : List Write). (length ws ≡ told.count) × (map (λ (write : Write). write.index) ws ≡ range_with_len told.first (length ws))) same (all k d within)
