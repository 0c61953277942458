-- A clerk that draws restarts.
use Rattle.std.proofs.Common.{◌≡◌, ℕ, zero, suc, ◌+◌, ◌<◌, ◌≤◌, List, [], ◌∷◌, ◌++◌, All, map, length, get_or, refl, sym, ap, ◌∙◌, subst, arith}
use Rattle.std.specs.List.{range_with_len}
use Rattle.std.proofs.lemmas.List.{map-append, length-map, get_or-map}
use Rattle.std.proofs.lemmas.List.FromFn.{map-range_with_len_more, length-map-range_with_len, get_or-map-range_with_len}
use Rattle.tact_base.specs.Setup.{Setup}
use Rattle.run_model.specs.Histories.{last_moment}
use Rattle.run_model.specs.Taking.{clock}
use Rattle.run_model.specs.Runs.{IsDue}
use Rattle.run_model.specs.declared.entry.Entry.{Entry}
use Rattle.run_model.proofs.ClockLemmas.{clock-push_none}
use Rattle.run_model.proofs.PartLemmas.{last_moment-push}
use Rattle.run_history.specs.Closing.{AreAllThere}
use Rattle.run_history.specs.Seats.{ClerkView, DeskView, fresh_clerk, fresh_clerks}
use Rattle.run_history.specs.Ticks.{entries_of}
use Rattle.thread_tests.specs.Restarts.{restart, HasRestarts, AreInPlace}

abbrev pub restarts : ℕ → ℕ → List Entry
restarts replica count = map (restart replica) (range_with_len 0 count)

pub restarts_more : (replica count : ℕ)
    → restarts replica (count + 1) ≡ restarts replica count ++ restart replica count ∷ []
restarts_more replica count = map-range_with_len_more (restart replica) 0 count count (omega arith)

-- restarts tell no stamp
restarts-clock : (replica count : ℕ) → clock (restarts replica count) ≡ 0
restarts-clock replica zero = refl
restarts-clock replica (suc count) =
    let one_more : suc count ≡ count + 1 = omega arith in
    let more : restarts replica (suc count) ≡ restarts replica count ++ restart replica count ∷ [] = ap (restarts replica) one_more ∙ restarts_more replica count in
    ap clock more ∙ clock-push_none (restarts replica count) (restart replica count) refl refl ∙ restarts-clock replica count

restarts-last : (replica count : ℕ) → last_moment (restarts replica count) ≤ count
restarts-last replica zero = omega arith
restarts-last replica (suc count) =
    let one_more : suc count ≡ count + 1 = omega arith in
    let more : restarts replica (suc count) ≡ restarts replica count ++ restart replica count ∷ [] = ap (restarts replica) one_more ∙ restarts_more replica count in
    omega (arith, ap last_moment more ∙ last_moment-push (restarts replica count) (restart replica count))

pub restart_is_due : (setup : Setup) (replica count : ℕ) (part : List Entry)
    → part ≡ restarts replica count → replica < setup.replicas → count < 1000
    → IsDue setup part (restart replica count)
restart_is_due setup replica count part is within few = subst (λ part. IsDue setup part (restart replica count)) (sym is) (record {
  room = omega (arith, length-map-range_with_len (restart replica) 0 count);
  moment = restarts-last replica count;
  clock_below = omega (arith, restarts-clock replica count);
  in_range = record { replica = within; moment = omega arith; act = tt };
  act = tt;
})

-- one more restart
pub has_more : (desk : DeskView) (count tick : ℕ) (before after : ClerkView)
    → HasRestarts desk count before → after.table ≡ before.table → after.replica ≡ before.replica
    → after.pairs ≡ before.pairs ++ (tick, restart before.replica count) ∷ []
    → HasRestarts desk (count + 1) after
has_more desk count tick before after has table replica pairs = record {
  table = table ∙ has.table;
  replica = rw replica has.replica;
  drawn = ap entries_of pairs ∙ map-append (λ (pair : ℕ × Entry). pair.1) before.pairs ((tick, restart before.replica count) ∷ [])
      ∙ ap (λ part. part ++ restart before.replica count ∷ []) has.drawn ∙ sym (restarts_more before.replica count)
      ∙ ap (λ replica. restarts replica (count + 1)) (sym replica);
}

-- clerks in their places are of the desk, and each replica's is there
pub tables_in_place : (desk : DeskView) (clerks : List ClerkView) → AreInPlace desk clerks
    → All (λ (clerk : ClerkView). clerk.table ≡ desk.table) clerks
tables_in_place desk clerks in_place i d within = (in_place.each i d within).0

pub whole_in_place : (desk : DeskView) (clerks : List ClerkView) → AreInPlace desk clerks
    → AreAllThere desk.setup.replicas clerks
whole_in_place desk clerks in_place replica below =
    let within : replica < length clerks = omega (arith, in_place.size) in
    let some_clerk = fresh_clerk desk.table 0 in (
      replica,
      omega (arith, length-map clerks (λ (clerk : ClerkView). clerk.replica)),
      get_or-map (λ (clerk : ClerkView). clerk.replica) clerks replica some_clerk replica within ∙ (in_place.each replica some_clerk within).1,
    )

-- two clerks are all where there are two replicas
pub two_there : (replicas : ℕ) (first second : ClerkView) → replicas ≡ 2 → first.replica ≡ 0
    → second.replica ≡ 1 → AreAllThere replicas (first ∷ second ∷ [])
two_there replicas first second two is_first is_second zero below = (0, omega arith, is_first)
two_there replicas first second two is_first is_second (suc zero) below = (1, omega arith, is_second)
two_there replicas first second two is_first is_second (suc (suc n)) below = absurd (omega arith)

-- clerks that just opened have drawn nothing
fresh_at : (desk : DeskView) (clerks : List ClerkView) (i : ℕ) (d : ClerkView)
    → clerks ≡ fresh_clerks desk → i < length clerks
    → (get_or clerks i d ≡ fresh_clerk desk.table i) × (length clerks ≡ desk.setup.replicas)
fresh_at desk clerks i d fresh within =
    let size : length clerks ≡ desk.setup.replicas = ap length fresh ∙ length-map-range_with_len (fresh_clerk desk.table) 0 desk.setup.replicas in
    (ap (λ list. get_or list i d) fresh ∙ get_or-map-range_with_len (fresh_clerk desk.table) 0 desk.setup.replicas i i d (omega arith) (omega arith), size)

pub fresh_has_none : (desk : DeskView) (clerks : List ClerkView) (i : ℕ) (d : ClerkView)
    → clerks ≡ fresh_clerks desk → i < length clerks → HasRestarts desk 0 (get_or clerks i d)
fresh_has_none desk clerks i d fresh within =
    let at = fresh_at desk clerks i d fresh within in
    subst (HasRestarts desk 0) (sym at.0) (record { table = refl; replica = omega (arith, at.1); drawn = refl })

-- some element of a list that has one
an_element : {A : Type 0} (xs : List A) (i : ℕ) → i < length xs → A
an_element [] i within = absurd (omega arith)
an_element (x ∷ xs) i within = x

-- what clerks that just opened became are in their places
pub still_in_place : {X : Type 0} (f : X → ClerkView) (desk : DeskView) (clerks : List ClerkView) (drawn : List X)
    → clerks ≡ fresh_clerks desk
    → length clerks ≡ desk.setup.replicas
    → length drawn ≡ length clerks
    → ((i : ℕ) (d : X) → i < length clerks → (f (get_or drawn i d)).table ≡ desk.table)
    → ((i : ℕ) (d : X) (e : ClerkView) → i < length clerks → (f (get_or drawn i d)).replica ≡ (get_or clerks i e).replica)
    → AreInPlace desk (map f drawn)
still_in_place f desk clerks drawn fresh size as_many tables replicas = record {
  size = length-map drawn f ∙ as_many ∙ size;
  each = λ i d within.
      let inside : i < length drawn = omega (arith, length-map drawn f) in
      let one = an_element drawn i inside in
      let read = get_or-map f drawn i one d inside in (
        ap (λ (clerk : ClerkView). clerk.table) read ∙ tables i one (omega arith),
        ap (λ (clerk : ClerkView). clerk.replica) read ∙ replicas i one d (omega arith)
            ∙ ap (λ (clerk : ClerkView). clerk.replica) (fresh_at desk clerks i d fresh (omega arith)).0,
      );
}

pub fresh_size : (desk : DeskView) (clerks : List ClerkView) → clerks ≡ fresh_clerks desk
    → length clerks ≡ desk.setup.replicas
fresh_size desk clerks fresh = ap length fresh ∙ length-map-range_with_len (fresh_clerk desk.table) 0 desk.setup.replicas
