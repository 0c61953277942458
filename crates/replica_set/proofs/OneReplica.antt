-- One replica of a set goes on, and the others stay.
use Rattle.std.proofs.Common.{◌≡◌, ℕ, ◌<◌, List, [], ◌∷◌, ◌++◌, length, get_or, set, map, Some, Result, refl, sym, ap, ◌∙◌, subst, ⊎_elim, get_or-set_same, get_or-set_other, arith}
use Rattle.std.specs.List.{slice_get}
use Rattle.std.specs.Option.{option_map}
use Rattle.std.proofs.lemmas.Bool.{cases_eq}
use Rattle.std.proofs.lemmas.List.{map-set, length-map, length-set, set-get_or}
use Rattle.std.proofs.lemmas.Option.{slice_get-map, slice_get-get_or, slice_get_within, slice_get_read, get_or_from_slice_get}
use Rattle.std.specs.Result.{IfOk, IfErr, OnOk, OnErr}
use Rattle.std.proofs.lemmas.Option.{same_Some}
use Rattle.std.proofs.lemmas.Result.{MatchResult-weaker, IfOk-weaker, on_ok_weaker, on_err_weaker}
use Rattle.tact_base.specs.Setup.{Setup}
use Rattle.run_model.specs.Histories.{part_of}
use Rattle.run_model.specs.declared.entry.Act.{Act}
use Rattle.run_model.specs.declared.entry.Entry.{Entry}
use Rattle.run_model.proofs.PartLemmas.{part_of-push_same, part_of-push_other}
use Rattle.replica_core.specs.States.{Core, ReplicaState}
use Rattle.replica_core.specs.Stands.{Stands, IsSameReplica, GoesOn as CoreGoesOn}
use Rattle.replica_set.specs.Sets.{SetState, IsAt, IsOneOf, IsSet, StandsFor, GoesOn, HoldsAt, entry_of}

-- what is there after one place was set: there what was set, and elsewhere what was there
pub set_cases : {X : Type 0} (xs : List X) (place : ℕ) (new : X) (P : ℕ → X → Type 0)
    → P place new
    → ((k : ℕ) (x : X) → (k ≡ place → ⊥) → slice_get xs k ≡ Some x → P k x)
    → (k : ℕ) (x : X)
    → slice_get (set xs place new) k ≡ Some x
    → P k x
set_cases xs place new P here elsewhere k x found =
    let within : k < length xs = omega (arith, slice_get_within (set xs place new) k x found, length-set xs place new) in
    let read : get_or (set xs place new) k x ≡ x = get_or_from_slice_get (set xs place new) k x x found in
    ⊎_elim
    (λ (same : k ≡ place).
    let is : new ≡ x = sym (get_or-set_same xs place new x (omega (arith, within, same))) ∙ ap (λ i. get_or (set xs place new) i x) (sym same) ∙ read in
    subst (λ i. P i x) (sym same) (subst (P place) is here))
    (λ (other : k ≡ place → ⊥).
    elsewhere k x other (slice_get-get_or xs k x within ∙ ap Some (sym (get_or-set_other xs place k new x other) ∙ read)))
    (cases_eq k place)

-- what a replica keeps, and a set of replicas
abbrev pub core_of : ReplicaState → Core
core_of one = one.core

abbrev pub state_of : Setup → List ReplicaState → SetState
state_of setup ones = record { setup = setup; cores = map core_of ones }

-- One of a set.
module _ (setup : Setup) (ones : List ReplicaState) {state : SetState} (view_is : state_of setup ones ≡ state) (is_set : IsSet (state_of setup ones))
    (replica : ℕ) (within : replica < state.setup.replicas) {old : ReplicaState} (read : old ≡ get_or ones replica old) where
  set_is : IsSet state
  set_is = subst IsSet view_is is_set

  inside : replica < length ones
  inside =
      let sized : length (map core_of ones) ≡ setup.replicas = is_set.sized in
      omega (arith, within, ap (λ (s : SetState). s.setup.replicas) view_is, sized, length-map ones core_of)

  pub here : IsAt state replica old.core
  here =
      subst (λ s. IsAt s replica old.core) view_is
      (slice_get-map core_of ones replica ∙ ap (option_map core_of) (slice_get_read ones (length ones) replica old refl inside read))

  pub one : IsOneOf state.setup replica old.core
  one = set_is.each replica old.core here

  -- what holds of its core holds of the core there
  pub at_it : (P : Core → Type 0) → P old.core → HoldsAt state replica P
  at_it P holds core found = subst P (same_Some old.core core (sym here ∙ found)) holds

  pub fault_at : {T E : Type 0} (outcome : Result T E) (F : Core → E → Type 0)
      → IfErr outcome (F old.core)
      → IfErr outcome (λ fault. HoldsAt state replica (λ core. F core fault))
  fault_at outcome F told =
      MatchResult-weaker outcome told (λ x holds. holds) (λ fault holds. at_it (λ core. F core fault) holds)

  pub may_at : {T E : Type 0} (outcome : Result T E) (P : Core → Type 0)
      → OnOk outcome (P old.core)
      → OnOk outcome (HoldsAt state replica P)
  may_at outcome P told = on_ok_weaker outcome (at_it P) told

  -- what is so for each part that it stands for is so for its part of each history
  pub due_in : {T E : Type 0} (outcome : Result T E) (Q : T → Setup → ℕ → List Entry → Type 0)
      → IfOk outcome (λ given. (part : List Entry) → Stands part old.core → Q given old.core.setup old.core.replica part)
      → IfOk outcome (λ given. (history : List Entry) → StandsFor history state → Q given state.setup replica (part_of history replica))
  due_in outcome Q told =
      IfOk-weaker outcome (λ given. (part : List Entry) → Stands part old.core → Q given old.core.setup old.core.replica part)
      (λ given. (history : List Entry) → StandsFor history state → Q given state.setup replica (part_of history replica))
      (λ given due history stands.
      let part = part_of history replica in
      subst (λ s. Q given s replica part) one.setup
      (subst (λ r. Q given old.core.setup r part) one.replica (due part (stands.parts replica old.core here))))
      told

  -- What it is afterwards.
  module _ (new : ReplicaState) where
    abbrev after : SetState
    after = state_of setup (set ones replica new)

    pub unchanged : {T E : Type 0} (outcome : Result T E)
        → OnErr outcome (new ≡ old)
        → OnErr outcome (after ≡ state)
    unchanged outcome told =
        on_err_weaker outcome
        (λ same. ap (λ (s : ReplicaState). state_of setup (set ones replica s)) (same ∙ read)
        ∙ ap (state_of setup) (set-get_or ones replica old)
        ∙ view_is)
        told

    pub same_setup : after.setup ≡ state.setup
    same_setup = ap (λ (s : SetState). s.setup) view_is

    module _ (same : IsSameReplica old.core new.core) where
      after_cases : (P : ℕ → Core → Type 0)
          → P replica new.core
          → ((k : ℕ) (core : Core) → (k ≡ replica → ⊥) → IsAt state k core → P k core)
          → (k : ℕ) (core : Core)
          → IsAt after k core
          → P k core
      after_cases P holds elsewhere k core found =
          set_cases (map core_of ones) replica new.core P holds
          (λ k core other before. elsewhere k core other (subst (λ s. IsAt s k core) view_is before))
          k core
          (subst (λ (cores : List Core). slice_get cores k ≡ Some core) (map-set core_of ones replica new) found)

      pub is_set_after : IsSet after
      is_set_after = record {
        sized = ap length (map-set core_of ones replica new) ∙ length-set (map core_of ones) replica new.core ∙ is_set.sized;
        each = after_cases (IsOneOf setup)
            (record { setup = same.0 ∙ one.setup ∙ sym same_setup; replica = same.1 ∙ one.replica })
            (λ k core other found. subst (λ s. IsOneOf s k core) (sym same_setup) (set_is.each k core found));
      }

      goes_on : (handed : ℕ) (done : List Entry → Act)
          → CoreGoesOn old.core new.core handed done
          → GoesOn state after replica handed done
      goes_on handed done goes history stands =
          let part = part_of history replica in
          let entry = entry_of history replica handed (done part) in
          let grown : Stands (part ++ entry ∷ []) new.core =
          subst (λ r. Stands (part ++ record { replica = r; moment = entry.moment; act = entry.act } ∷ []) new.core) one.replica (goes part (stands.parts replica old.core here)) in
          record {
            is_set = is_set_after;
            parts = after_cases (λ k core. Stands (part_of (history ++ entry ∷ []) k) core)
                (subst (λ p. Stands p new.core) (sym (part_of-push_same history entry replica refl)) grown)
                (λ k core other found.
                subst (λ p. Stands p core) (sym (part_of-push_other history entry k (λ (is : replica ≡ k). other (sym is)))) (stands.parts k core found));
          }

      pub goes_on_if : {T E : Type 0} (outcome : Result T E) (handed : ℕ) (done : T → List Entry → Act)
          → IfOk outcome (λ given. CoreGoesOn old.core new.core handed (done given))
          → IfOk outcome (λ given. GoesOn state after replica handed (done given))
      goes_on_if outcome handed done told =
          IfOk-weaker outcome (λ given. CoreGoesOn old.core new.core handed (done given)) (λ given. GoesOn state after replica handed (done given))
          (λ given goes. goes_on handed (done given) goes)
          told
