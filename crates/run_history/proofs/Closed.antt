-- What closing gathers is the whole history.
use Rattle.std.proofs.Common.{◌≡◌, ◌≢◌, ℕ, ◌<◌, List, [], ◌∷◌, ◌++◌, All, AllPairs, Contains, map, slice_get, Some, refl, sym, ap, ◌∙◌, subst, ⊎_elim, arith}
use Rattle.std.proofs.lemmas.List.{map-append, length-map, get_or-map}
use Rattle.std.proofs.lemmas.List.Elements.{All-weaker, All-append, All-contains, Contains-append_left}
use Rattle.std.proofs.lemmas.Option.{slice_get_within, get_or_from_slice_get}
use Rattle.tact_base.proofs.ElementLemmas.{Contains-first, Contains-later, Contains-cases, Contains-none, Contains-flat_map, Contains-from_flat_map}
use Rattle.tact_base.proofs.ListLemmas.{All-one, All-from_map}
use Rattle.tact_base.specs.Setup.{Setup}
use Rattle.run_model.specs.Histories.{IsPrefix}
use Rattle.run_model.specs.Runs.{IsRun}
use Rattle.run_model.specs.declared.entry.Entry.{Entry}
use Rattle.run_history.specs.declared.view.Part.{Part}
use Rattle.run_history.specs.declared.view.View.{View}
use Rattle.run_history.specs.Closing.{all_drawn, AreAllThere, Gathers}
use Rattle.run_history.specs.Seats.{ClerkView}
use Rattle.run_history.specs.Steps.{part_with, IsLooked, joined}
use Rattle.run_history.specs.Ticks.{drawn_by, IsMerge}
use Rattle.run_history.proofs.RunLemmas.{replicas_in_run}
use Rattle.run_history.proofs.TickLemmas.{Contains-drawn_by, drawn_by-Contains}

-- what is among the numbers that a function gives is given by an element
pub from_map : {X : Type 0} (f : X → ℕ) (xs : List X) (n : ℕ) → Contains (map f xs) n
    → (x : X) × Contains xs x × (f x ≡ n)
from_map f [] n within = absurd (Contains-none n within)
from_map f (x ∷ xs) n within = ⊎_elim
    (λ (same : f x ≡ n). (x, Contains-first x x xs refl, same))
    (λ later. let found = from_map f xs n later in (found.0, Contains-later x found.0 xs found.1, found.2))
    (Contains-cases (f x) n (map f xs) within)

-- what stands at a place is contained
in_history : (history : List Entry) (tick : ℕ) (entry : Entry) → slice_get history tick ≡ Some entry
    → Contains history entry
in_history history tick entry is = (tick, slice_get_within history tick entry is, get_or_from_slice_get history tick entry entry is)

-- clerks, one for each replica, that drew what their replicas drew of a history have all of it
module _ (setup : Setup) (history : List Entry) (run : IsRun setup history) (clerks : List ClerkView)
    (all : AreAllThere setup.replicas clerks) (drawn : All (λ (clerk : ClerkView). clerk.pairs ≡ drawn_by history clerk.replica) clerks) where
  stands : (tick : ℕ) (entry : Entry) → Contains (all_drawn clerks) (tick, entry)
      → slice_get history tick ≡ Some entry
  stands tick entry within =
      let found = Contains-from_flat_map (λ (clerk : ClerkView). clerk.pairs) clerks (tick, entry) within in
      let is : found.0.pairs ≡ drawn_by history found.0.replica = All-contains (λ (clerk : ClerkView). clerk.pairs ≡ drawn_by history clerk.replica) clerks found.0 drawn found.1 in
      drawn_by-Contains history found.0.replica tick entry (subst (λ pairs. Contains pairs (tick, entry)) is found.2)

  present : (tick : ℕ) (entry : Entry) → slice_get history tick ≡ Some entry
      → Contains (all_drawn clerks) (tick, entry)
  present tick entry is =
      let here = Contains-drawn_by history tick entry is in
      let below : entry.replica < setup.replicas =
      All-contains (λ (entry : Entry). entry.replica < setup.replicas) history entry
      (replicas_in_run setup history run) (in_history history tick entry is) in
      let found = from_map (λ (clerk : ClerkView). clerk.replica) clerks entry.replica (all entry.replica below) in
      let pairs_are : found.0.pairs ≡ drawn_by history found.0.replica = All-contains (λ (clerk : ClerkView). clerk.pairs ≡ drawn_by history clerk.replica) clerks found.0 drawn found.1 in
      Contains-flat_map (λ (clerk : ClerkView). clerk.pairs) clerks found.0 (tick, entry) found.1
      (subst (λ pairs. Contains pairs (tick, entry)) (sym (pairs_are ∙ ap (drawn_by history) found.2)) here)

  pub merges : IsMerge (all_drawn clerks) history
  merges tick entry = (stands tick entry, present tick entry)

-- A seat that gathers.
pub gathers_more : (clerks : List ClerkView) (clerk : ClerkView) (view other : View)
    → Gathers clerks view → clerk.seen ≡ other.seen
    → other.parts ≡ part_with clerk.replica clerk.pairs ∷ []
    → Gathers (clerks ++ clerk ∷ []) (joined view other)
gathers_more clerks clerk view other gathered seen part =
    let IsIn : ClerkView → Type 0 = λ clerk. Contains (joined view other).olds clerk.seen in
    record {
      closed = gathered.closed;
      parts = ap (λ parts. parts ++ other.parts) gathered.parts ∙ ap (λ parts. map (λ (clerk : ClerkView). part_with clerk.replica clerk.pairs) clerks ++ parts) part
          ∙ sym (map-append (λ (clerk : ClerkView). part_with clerk.replica clerk.pairs) clerks (clerk ∷ []));
      seen = All-append IsIn clerks (clerk ∷ [])
          (All-weaker (λ (clerk : ClerkView). Contains view.olds clerk.seen) IsIn
          (λ clerk within. Contains-later view.seen clerk.seen (other.seen ∷ (view.olds ++ other.olds))
          (Contains-later other.seen clerk.seen (view.olds ++ other.olds) (Contains-append_left view.olds other.olds clerk.seen within)))
          clerks gathered.seen)
          (All-one IsIn clerk (Contains-later view.seen clerk.seen (other.seen ∷ (view.olds ++ other.olds))
          (Contains-first other.seen clerk.seen (view.olds ++ other.olds) (sym seen))));
    }

-- A seat that gathered and then looked.
module _ (setup : Setup) (clerks : List ClerkView) (before : View) (found : ℕ) (after : View)
    (gathered : Gathers clerks before) (looked : IsLooked setup before found after) where
  pub parts_drawn : All (λ (clerk : ClerkView). clerk.pairs ≡ drawn_by after.seen clerk.replica) clerks
  parts_drawn =
      let IsDrawnPart : Part → Type 0 = λ part. part.pairs ≡ drawn_by after.seen part.replica in
      All-from_map IsDrawnPart (λ (clerk : ClerkView). part_with clerk.replica clerk.pairs) clerks (subst (All IsDrawnPart) gathered.parts looked.parts)

  pub fronts_seen : All (λ (clerk : ClerkView). IsPrefix clerk.seen after.seen) clerks
  fronts_seen = All-weaker (λ (clerk : ClerkView). Contains before.olds clerk.seen) (λ (clerk : ClerkView). IsPrefix clerk.seen after.seen)
      (λ clerk within. All-contains (λ old. IsPrefix old after.seen) before.olds clerk.seen looked.fronts within) clerks gathered.seen

  -- no two of the clerks are of one replica
  pub clerks_apart : AllPairs (λ (one other : ClerkView). one.replica ≢ other.replica) clerks
  clerks_apart i j d less within =
      let part = λ (clerk : ClerkView). part_with clerk.replica clerk.pairs in
      let Apart : Part → Part → Type 0 = λ one other. one.replica ≢ other.replica in
      let apart = subst (AllPairs Apart) gathered.parts looked.apart in
      let different = apart i j (part d) less (omega (arith, length-map clerks part, within)) in
      let replica = λ (part : Part). part.replica in
      λ same. different (ap replica (get_or-map part clerks i d (part d) (omega arith)) ∙ same ∙ sym (ap replica (get_or-map part clerks j d (part d) within)))
