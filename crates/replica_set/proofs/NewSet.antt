-- Replicas that have done nothing, one after another, are a set that stands for nothing.
use Rattle.std.proofs.Common.{◌≡◌, ℕ, ◌+◌, ◌<◌, ◌≤◌, List, [], ◌∷◌, ◌++◌, length, get_or, Some, refl, sym, ap, ◌∙◌, subst, ⊎_elim, arith}
use Rattle.std.specs.List.{slice_get}
use Rattle.std.proofs.lemmas.Bool.{cases_lt}
use Rattle.std.proofs.lemmas.List.{length_push, get_or_push, get_or_append_left}
use Rattle.std.proofs.lemmas.Option.{slice_get-get_or, slice_get_within, get_or_from_slice_get}
use Rattle.tact_base.specs.Setup.{Setup}
use Rattle.replica_core.specs.States.{Core}
use Rattle.replica_core.specs.Stands.{Stands}
use Rattle.replica_set.specs.Sets.{IsOneOf, IsSet, StandsFor}

-- the one of a number, which has done nothing
pub record IsNew (among : Setup) (number : ℕ) (core : Core) : Type 0 where
  pub one : IsOneOf among number core
  pub stands : Stands [] core

-- the first so many
pub record AreNew (setup : Setup) (count : ℕ) (cores : List Core) : Type 0 where
  pub sized : length cores ≡ count
  pub each : (k : ℕ) (core : Core)
      → slice_get cores k ≡ Some core
      → IsNew setup k core

-- none, and one more
pub none_are_new : (setup : Setup) → AreNew setup 0 []
none_are_new setup = record { sized = refl; each = λ k core found. absurd (omega (arith, slice_get_within [] k core found)) }

pub one_more_is_new : (setup : Setup) (count : ℕ) (cores : List Core) (core : Core)
    → AreNew setup count cores
    → core.setup ≡ setup
    → core.replica ≡ count
    → Stands [] core
    → AreNew setup (count + 1) (cores ++ core ∷ [])
one_more_is_new setup count cores new are setup_is replica_is stands = record {
  sized = omega (arith, length_push cores new, are.sized);
  each = λ k core found.
      let read : get_or (cores ++ new ∷ []) k core ≡ core = get_or_from_slice_get (cores ++ new ∷ []) k core core found in
      let within : k < count + 1 = omega (arith, slice_get_within (cores ++ new ∷ []) k core found, length_push cores new, are.sized) in
      ⊎_elim
      (λ (early : k < length cores).
      are.each k core (slice_get-get_or cores k core early ∙ ap Some (sym (get_or_append_left cores (new ∷ []) core k early) ∙ read)))
      (λ (late : length cores ≤ k).
      let at : k ≡ count = omega (arith, late, within, are.sized) in
      let is : new ≡ core = sym (get_or_push cores new core k (omega (arith, at, are.sized))) ∙ read in
      subst (IsNew setup k) is (record { one = record { setup = setup_is; replica = replica_is ∙ sym at }; stands = stands }))
      (cases_lt k (length cores));
}

pub new_set : (setup : Setup) (cores : List Core)
    → AreNew setup setup.replicas cores
    → IsSet (record { setup = setup; cores = cores })
new_set setup cores are = record { sized = are.sized; each = λ k core found. (are.each k core found).one }

pub new_stands : (setup : Setup) (cores : List Core)
    → AreNew setup setup.replicas cores
    → StandsFor [] (record { setup = setup; cores = cores })
new_stands setup cores are = record { is_set = new_set setup cores are; parts = λ k core found. (are.each k core found).stands }
