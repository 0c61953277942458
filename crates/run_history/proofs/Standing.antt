-- What the history rule says of the pairs that seats have.
use Rattle.std.proofs.Common.{◌≡◌, ◌≢◌, ℕ, zero, suc, ◌<◌, ◌≤◌, ◌==◌, List, [], ◌∷◌, All, AllPairs, Contains, length, get_or, slice_get, slice_index, Some, sym, ap, ◌∙◌, subst, ⊎_elim, arith, true}
use Rattle.std.specs.List.{enumerate_from}
use Rattle.std.proofs.lemmas.Bool.{cases_eq, cases_lt}
use Rattle.std.proofs.lemmas.Bool.Decides.{nat_tests}
use Rattle.std.proofs.lemmas.List.{length-map}
use Rattle.std.proofs.lemmas.List.Elements.{All-weaker, All-contains, filter_passes}
use Rattle.std.proofs.lemmas.List.FromFn.{length-enumerate_from, get_or-enumerate_from}
use Rattle.std.proofs.lemmas.List.Kept.{AllPairs-filter}
use Rattle.std.proofs.lemmas.Option.{slice_get_within, slice_get-get_or}
use mathlib.Core.Option.{some, some-injective, some-ne-none}
use lib.ListN.{get_elem?}
use Rattle.atomic_table.proofs.Lists.{at_index}
use Rattle.tact_base.specs.Setup.{Setup}
use Rattle.run_model.specs.Histories.{part_of, IsPrefix}
use Rattle.run_model.specs.declared.entry.Entry.{Entry}
use Rattle.run_model.proofs.PrefixLemmas.{IsPrefix-trans}
use Rattle.run_history.specs.declared.view.Part.{Part}
use Rattle.run_history.specs.declared.view.View.{View}
use Rattle.run_history.specs.Rule.{FitsPart, HasPart, IsOneHistory}
use Rattle.run_history.specs.Standing.{HoldsPart, HoldsPair, IsDrawnOnce, IsDrawnPart, IsHistoryOf}
use Rattle.run_history.specs.Ticks.{drawn_by}
use Rattle.run_history.proofs.Closed.{from_map}
use Rattle.run_history.proofs.RunLemmas.{parts_are_short}
use Rattle.run_history.proofs.TickLemmas.{Contains-drawn_by, drawn_by-Contains, entries_of-drawn_by}

module _ {A : Type 0} where
  -- what is read at a place is contained
  at_get_or : (l : List A) (i : ℕ) (a d : A) → get_elem? l i ≡ some a
      → (i < length l) × (get_or l i d ≡ a)
  at_get_or [] i a d e = absurd (some-ne-none a (sym e))
  at_get_or (x ∷ xs) zero a d e = (omega arith, some-injective x a e)
  at_get_or (x ∷ xs) (suc i) a d e = let rest = at_get_or xs i a d e in (omega (arith, rest.0), rest.1)

  at_contains : (l : List A) (i : ℕ) (a : A) → get_elem? l i ≡ some a → Contains l a
  at_contains l i a e = let read = at_get_or l i a a e in (i, read.0, read.1)

  contains_at : (l : List A) (a : A) → Contains l a → (i : ℕ) × (get_elem? l i ≡ some a)
  contains_at l a (i, within, is) = (i, at_index l i a within (sym is))

  -- where each pair of places differs, one value stands at one place
  one_place : (R : A → A → Type 0) (l : List A) (i j : ℕ) (a b : A) → AllPairs R l
      → get_elem? l i ≡ some a → get_elem? l j ≡ some b → (R a b → ⊥) → (R b a → ⊥) → i ≡ j
  one_place R l i j a b all at_i at_j not_before not_after =
      let one = at_get_or l i a a at_i in
      let other = at_get_or l j b a at_j in
      ⊎_elim (λ (same : i ≡ j). same)
      (λ (apart : i ≡ j → ⊥). ⊎_elim
      (λ (less : i < j). absurd (not_before (rw (sym one.1, sym other.1) (all i j a less other.0))))
      (λ (more : j ≤ i). absurd (not_after (rw (sym one.1, sym other.1) (all j i a (omega arith) one.0))))
      (cases_lt i j))
      (cases_eq i j)

  in_range : (l : List A) (i : ℕ) → i < length l → (a : A) × (slice_get l i ≡ Some a)
  in_range [] i within = absurd (omega arith)
  in_range (x ∷ xs) i within = (get_or (x ∷ xs) i x, slice_get-get_or (x ∷ xs) i x within)

-- ticks rise
ticks_rise : (history : List Entry)
    → AllPairs (λ (one other : ℕ × Entry). one.0 < other.0) (enumerate_from 0 history)
ticks_rise history i j d less within =
    let inside : j < length history = omega (arith, length-enumerate_from 0 history) in
    let one = get_or-enumerate_from 0 history i d (omega arith) in
    let other = get_or-enumerate_from 0 history j d inside in
    rw (one, other) (omega arith)

drawn_rise : (history : List Entry) (replica : ℕ)
    → AllPairs (λ (one other : ℕ × Entry). one.0 < other.0) (drawn_by history replica)
drawn_rise history replica =
    AllPairs-filter (λ (one other : ℕ × Entry). one.0 < other.0) (λ (pair : ℕ × Entry). pair.1.replica == replica) (enumerate_from 0 history) (ticks_rise history)

drawn_names : (history : List Entry) (replica : ℕ)
    → All (λ (pair : ℕ × Entry). pair.1.replica ≡ replica) (drawn_by history replica)
drawn_names history replica =
    All-weaker (λ (pair : ℕ × Entry). (pair.1.replica == replica) ≡ true) (λ (pair : ℕ × Entry). pair.1.replica ≡ replica)
    (λ pair passes. grind (arith, nat_tests)) (drawn_by history replica)
    (filter_passes (λ (pair : ℕ × Entry). pair.1.replica == replica) (enumerate_from 0 history))

module _ (setup : Setup) (words : List ℕ) (views : List View) (kept : IsOneHistory setup words views) where
  abbrev history : List Entry
  history = kept.history

  part_fits : (seat place : ℕ) (part : Part) (held : HoldsPart views seat place part)
      → FitsPart words kept.seat_of history seat held.view.seen part
  part_fits seat place part held =
      let fits = kept.seats seat held.view held.at_seat in
      All-contains (FitsPart words kept.seat_of history seat held.view.seen) held.view.parts part fits.fitting
      (at_contains held.view.parts place part held.at_place)

  -- each part has what its replica drew
  pub parts_stand : (seat place : ℕ) (part : Part) → HoldsPart views seat place part
      → IsDrawnPart (slice_index words 1) part
  parts_stand seat place part held =
      let fits = part_fits seat place part held in
      let as_many : length part.pairs ≡ length (part_of history part.replica) =
      ap length fits.drawn ∙ sym (length-map (drawn_by history part.replica) (λ (pair : ℕ × Entry). pair.1)) ∙ ap length (entries_of-drawn_by history part.replica) in
      record {
        ticks = rw fits.drawn (drawn_rise history part.replica);
        entries = rw fits.drawn (drawn_names history part.replica);
        replica = fits.born;
        room = omega (arith, as_many, parts_are_short setup history kept.run part.replica);
      }

  -- a replica has one part
  pub one_part : (seat other_seat place other_place : ℕ) (part other : Part)
      → HoldsPart views seat place part → HoldsPart views other_seat other_place other
      → part.replica ≡ other.replica → (seat ≡ other_seat) × (place ≡ other_place)
  one_part seat other_seat place other_place part other held other_held same =
      let seats : seat ≡ other_seat = sym (part_fits seat place part held).here ∙ ap kept.seat_of same ∙ (part_fits other_seat other_place other other_held).here in
      let is : held.view ≡ other_held.view = some-injective held.view other_held.view (sym held.at_seat ∙ ap (get_elem? views) seats ∙ other_held.at_seat) in
      let at_other : get_elem? held.view.parts other_place ≡ some other = subst (λ (view : View). get_elem? view.parts other_place ≡ some other) (sym is) other_held.at_place in (
        seats,
        one_place (λ (one other : Part). one.replica ≢ other.replica) held.view.parts place other_place part other
            (kept.seats seat held.view held.at_seat).apart held.at_place at_other (λ not. not same) (λ not. not (sym same)),
      )

  -- a pair stands in the history at its tick
  pub pairs_stand : (seat place index tick : ℕ) (entry : Entry)
      → HoldsPair views seat place index (tick, entry) → slice_get history tick ≡ Some entry
  pairs_stand seat place index tick entry pair =
      let fits = part_fits seat place pair.part pair.held in
      drawn_by-Contains history pair.part.replica tick entry
      (subst (λ pairs. Contains pairs (tick, entry)) fits.drawn (at_contains pair.part.pairs index (tick, entry) pair.at_index))

  pub ticks_below : (seat place index tick : ℕ) (entry : Entry)
      → HoldsPair views seat place index (tick, entry) → tick < slice_index words 0
  ticks_below seat place index tick entry pair =
      omega (arith, kept.drawn, slice_get_within history tick entry (pairs_stand seat place index tick entry pair))

  names_replica : (seat place index tick : ℕ) (entry : Entry) (pair : HoldsPair views seat place index (tick, entry))
      → entry.replica ≡ pair.part.replica
  names_replica seat place index tick entry pair =
      All-contains (λ (drawn : ℕ × Entry). drawn.1.replica ≡ pair.part.replica) pair.part.pairs (tick, entry) (parts_stand seat place pair.part pair.held).entries
      (at_contains pair.part.pairs index (tick, entry) pair.at_index)

  -- one tick, one pair
  one_pair : (seat other_seat place other_place index other_index tick : ℕ) (entry other : Entry)
      → HoldsPair views seat place index (tick, entry)
      → HoldsPair views other_seat other_place other_index (tick, other)
      → (other_seat ≡ seat) × (other_place ≡ place) × (other_index ≡ index)
  one_pair seat other_seat place other_place index other_index tick entry other pair another =
      let here : slice_get history tick ≡ Some entry = pairs_stand seat place index tick entry pair in
      let there : slice_get history tick ≡ Some other = pairs_stand other_seat other_place other_index tick other another in
      let entries : entry ≡ other = cc (here, there) in
      let replicas : another.part.replica ≡ pair.part.replica =
      sym (names_replica other_seat other_place other_index tick other another) ∙ ap (λ (entry : Entry). entry.replica) (sym entries) ∙ names_replica seat place index tick entry pair in
      let places = one_part other_seat seat other_place place another.part pair.part another.held pair.held replicas in
      let pairs : another.part.pairs ≡ pair.part.pairs =
      (part_fits other_seat other_place another.part another.held).drawn ∙ ap (drawn_by history) replicas ∙ sym (part_fits seat place pair.part pair.held).drawn in
      let at_other : get_elem? pair.part.pairs other_index ≡ some (tick, other) = subst (λ pairs. get_elem? pairs other_index ≡ some (tick, other)) pairs another.at_index in (
        places.0,
        places.1,
        one_place (λ (one other : ℕ × Entry). one.0 < other.0) pair.part.pairs other_index index (tick, other) (tick, entry)
            (parts_stand seat place pair.part pair.held).ticks at_other pair.at_index (λ less. omega arith) (λ less. omega arith),
      )

  -- a replica that drew is enrolled
  born : (tick : ℕ) (entry : Entry) → slice_get history tick ≡ Some entry
      → entry.replica < slice_index words 1
  born tick entry is = ⊎_elim (λ (less : entry.replica < slice_index words 1). less)
      (λ (past : slice_index words 1 ≤ entry.replica).
      let none : part_of history entry.replica ≡ [] = kept.unborn entry.replica past in
      let empty : length (drawn_by history entry.replica) ≡ 0 =
      sym (length-map (drawn_by history entry.replica) (λ (pair : ℕ × Entry). pair.1)) ∙ ap length (entries_of-drawn_by history entry.replica ∙ none) in
      let within = Contains-drawn_by history tick entry is in
      absurd (omega (arith, within.1, empty)))
      (cases_lt entry.replica (slice_index words 1))

  -- each number below word 0 is drawn once
  pub drawn_once : (tick : ℕ) → tick < slice_index words 0 → IsDrawnOnce views tick
  drawn_once tick below = go (in_range history tick (omega (arith, kept.drawn)))
    where
      go : ((entry : Entry) × (slice_get history tick ≡ Some entry)) → IsDrawnOnce views tick
      go (entry, is) =
          let has : HasPart views (kept.seat_of entry.replica) entry.replica = kept.held entry.replica (born tick entry is) in
          let found = from_map (λ (part : Part). part.replica) has.view.parts entry.replica has.part in
          let place = contains_at has.view.parts found.0 found.1 in
          let held : HoldsPart views (kept.seat_of entry.replica) place.0 found.0 = record { view = has.view; at_seat = has.at; at_place = place.1 } in
          let pairs_are : found.0.pairs ≡ drawn_by history entry.replica =
          (part_fits (kept.seat_of entry.replica) place.0 found.0 held).drawn ∙ ap (drawn_by history) found.2 in
          let index = contains_at found.0.pairs (tick, entry) (subst (λ pairs. Contains pairs (tick, entry)) (sym pairs_are) (Contains-drawn_by history tick entry is)) in
          let stands : HoldsPair views (kept.seat_of entry.replica) place.0 index.0 (tick, entry) = record { part = found.0; held = held; at_index = index.1 } in
          record {
            seat = kept.seat_of entry.replica;
            place = place.0;
            index = index.0;
            entry = entry;
            stands = stands;
            only = λ other_seat other_place other_index other another.
                one_pair (kept.seat_of entry.replica) other_seat place.0 other_place index.0 other_index tick entry other stands another;
          }

  pub history_stands : IsHistoryOf setup (slice_index words 0) views history
  history_stands = record {
    run = kept.run;
    size = sym kept.drawn;
    merge = pairs_stand;
    fronts = λ seat view at.
        let fits = kept.seats seat view at in (
          fits.front,
          All-weaker (λ old. IsPrefix old view.seen) (λ old. IsPrefix old history)
              (λ old front. IsPrefix-trans old view.seen history front fits.front) view.olds fits.fronts,
        );
    olds = λ seat view at. (kept.seats seat view at).fronts;
  }
