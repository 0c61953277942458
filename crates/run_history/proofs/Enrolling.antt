-- The history rule at the start, and enrolling keeps it.
use Rattle.std.proofs.Common.{◌≡◌, ◌≢◌, ℕ, zero, suc, ◌+◌, ◌%◌, ◌^◌, ◌<◌, ◌≤◌, ◌==◌, cond, true, List, [], ◌∷◌, ◌++◌}
use Rattle.std.proofs.Common.{AllPairs, Contains, map, length, slice_index, slice_set, refl, sym, ap, ◌∙◌, subst}
use Rattle.std.proofs.Common.{⊎_elim, arith, eq-eqb, ne_eqb}
use Rattle.std.proofs.lemmas.Bool.{cases_eq}
use Rattle.std.proofs.lemmas.List.{length-set, get_or-set_same, get_or-set_other}
use Rattle.std.proofs.lemmas.List.Elements.{All-weaker, All-nil}
use Rattle.std.proofs.lemmas.List.FromFn.{map-range_with_len_more}
use Rattle.std.specs.List.{range_with_len}
use mathlib.Core.Option.{some, some-injective, some-ne-none}
use lib.ListN.{get_elem?}
use Rattle.atomic_table.specs.Seated.{TableId}
use Rattle.atomic_table.specs.Table.{Me, Allows, keeps}
use Rattle.tact_base.proofs.ElementLemmas.{Contains-first, Contains-none}
use Rattle.tact_base.proofs.ListLemmas.{All-one}
use Rattle.tact_base.specs.Setup.{Setup, IsSetup}
use Rattle.run_model.specs.Histories.{part_of, IsPrefix}
use Rattle.run_model.specs.Runs.{IsLawful}
use Rattle.run_model.specs.declared.entry.Entry.{Entry}
use Rattle.tact_base.proofs.SetupLemmas.{HasCounts-from_IsSetup}
use Rattle.run_model.proofs.PrefixLemmas.{EachAfter-nil, IsPrefix-filter, IsPrefix-refl}
use Rattle.run_history.specs.declared.view.Part.{Part}
use Rattle.run_history.specs.declared.view.View.{View}
use Rattle.run_history.specs.Rule.{FitsPart, FitsSeat, HasPart, IsOneHistory, KeepsHistory}
use Rattle.run_history.specs.Seats.{ClerkView, fresh_clerk}
use Rattle.run_history.specs.Steps.{part_with, first_pairs, seen_in, pairs_in, opener, IsEnrolled}
use Rattle.run_history.specs.Ticks.{drawn_by, entries_of}
use Rattle.run_history.proofs.SeatLemmas.{each_set, at_put, HasPart-set}
use Rattle.run_history.proofs.TickLemmas.{entries_of-drawn_by}

-- no part at all
pub none_apart : AllPairs (λ (one other : Part). one.replica ≢ other.replica) []
none_apart i j d less within = absurd (omega arith)

pub one_apart : (part : Part)
    → AllPairs (λ (one other : Part). one.replica ≢ other.replica) (part ∷ [])
one_apart part i j d less within = absurd (omega arith)

-- The rule at the start.
first_fits : (setup : Setup) (id : ℕ) (view : View) → get_elem? (opener setup ∷ []) id ≡ some view
    → FitsSeat (0 ∷ 0 ∷ []) (λ replica. 0) [] id view
first_fits setup zero view at =
    let is : opener setup ≡ view = some-injective (opener setup) view at in
    subst (FitsSeat (0 ∷ 0 ∷ []) (λ replica. 0) [] 0) is (record {
      front = IsPrefix-refl [];
      fronts = All-nil (λ old. IsPrefix old []);
      fitting = All-nil (FitsPart (0 ∷ 0 ∷ []) (λ replica. 0) [] 0 []);
      apart = none_apart;
      opener = λ opens. (refl, refl);
    })
first_fits setup (suc id) view at = absurd (some-ne-none view (sym at))

pub begins : (setup : Setup) → IsSetup setup → IsOneHistory setup (0 ∷ 0 ∷ []) (opener setup ∷ [])
begins setup good = record {
  history = [];
  seat_of = λ replica. 0;
  good = good;
  run = EachAfter-nil (IsLawful setup);
  size = refl;
  drawn = refl;
  enrolled = omega arith;
  unborn = λ replica past. refl;
  held = λ replica within. absurd (omega arith);
  seats = first_fits setup;
}

-- what has no entries is empty
no_pairs : (pairs : List (ℕ × Entry)) → entries_of pairs ≡ [] → pairs ≡ []
no_pairs [] none = refl
no_pairs (pair ∷ pairs) none = absurd (cc none)

no_front : (front whole : List Entry) → IsPrefix front whole → whole ≡ [] → front ≡ []
no_front [] whole prefix none = refl
no_front (entry ∷ front) whole (rest, is) none = absurd (cc (is, none))

-- the words after one more clerk
record Enrolls (words new : List ℕ) : Type 0 where
  pub drawn : slice_index new 0 ≡ slice_index words 0
  pub enrolled : slice_index new 1 ≡ slice_index words 1 + 1
  pub size : length new ≡ 2

enrolls : (words : List ℕ) (n : ℕ) → length words ≡ 2 → n ≡ slice_index words 1 + 1
    → Enrolls words (slice_set words 1 n)
enrolls words n size is = record {
  drawn = get_or-set_other words 1 0 n 0 (omega arith);
  enrolled = get_or-set_same words 1 n 0 (omega arith) ∙ is;
  size = length-set words 1 n ∙ size;
}

-- Whatever the table is, the opener may enrol one more where there is room.
module _ (setup : Setup) (words : List ℕ) (views : List View) (kept : IsOneHistory setup words views)
    (id : ℕ) (view : View) (at : get_elem? views id ≡ some view)
    (opens : view.opens ≡ true) (empty : view.parts ≡ []) (room : view.enrolled < setup.replicas) where
  abbrev history : List Entry
  history = kept.history

  abbrev fresh : ℕ
  fresh = slice_index words 1

  abbrev new : View
  new = record view { enrolled = fresh + 1; parts = part_with fresh [] ∷ [] }

  abbrev words' : List ℕ
  words' = slice_set words 1 ((slice_index words 1 + 1) % 2 ^ 64)

  -- the fresh clerk's part is at the opener
  unfoldable seat_of' : ℕ → ℕ
  seat_of' replica = cond (replica == fresh) id (kept.seat_of replica)

  seat_of'-fresh : seat_of' fresh ≡ id
  unfolding seat_of'
  seat_of'-fresh = ap (λ yes. cond yes id (kept.seat_of fresh)) (eq-eqb fresh fresh refl)

  seat_of'-other : (replica : ℕ) → replica < fresh → seat_of' replica ≡ kept.seat_of replica
  unfolding seat_of'
  seat_of'-other replica less = ap (λ yes. cond yes id (kept.seat_of replica)) (ne_eqb replica fresh (omega arith))

  fits : FitsSeat words kept.seat_of history id view
  fits = kept.seats id view at

  is_opener : (id ≡ 0) × (view.enrolled ≡ fresh)
  is_opener = fits.opener opens

  words_after : Enrolls words words'
  words_after =
      let few : setup.replicas ≤ 8 = (HasCounts-from_IsSetup setup kept.good).replicas_high in
      enrolls words ((slice_index words 1 + 1) % 2 ^ 64) kept.size (omega (arith, is_opener.1, room))

  none_drawn : part_of history fresh ≡ []
  none_drawn = kept.unborn fresh (omega arith)

  FitsPart-enrolled : (seat : ℕ) (known : List Entry) (part : Part)
      → FitsPart words kept.seat_of history seat known part
      → FitsPart words' seat_of' history seat known part
  FitsPart-enrolled seat known part fit = record {
    drawn = fit.drawn;
    whole = fit.whole;
    here = seat_of'-other part.replica fit.born ∙ fit.here;
    born = omega (arith, fit.born, words_after.enrolled);
  }

  here_fits : FitsSeat words' seat_of' history id new
  here_fits = record {
    front = fits.front;
    fronts = fits.fronts;
    fitting = All-one (FitsPart words' seat_of' history id view.seen) (part_with fresh []) (record {
      drawn = sym (no_pairs (drawn_by history fresh) (entries_of-drawn_by history fresh ∙ none_drawn));
      whole = no_front (part_of view.seen fresh) (part_of history fresh)
          (IsPrefix-filter (λ (entry : Entry). entry.replica == fresh) view.seen history fits.front) none_drawn ∙ sym none_drawn;
      here = seat_of'-fresh;
      born = omega (arith, words_after.enrolled);
    });
    apart = one_apart (part_with fresh []);
    opener = λ still. (is_opener.0, sym words_after.enrolled);
  }

  other_fits : (seat : ℕ) (other : View) → seat ≢ id → get_elem? views seat ≡ some other
      → FitsSeat words' seat_of' history seat other
  other_fits seat other apart at_other =
      let theirs = kept.seats seat other at_other in
      record {
        front = theirs.front;
        fronts = theirs.fronts;
        fitting = All-weaker (FitsPart words kept.seat_of history seat other.seen) (FitsPart words' seat_of' history seat other.seen)
            (FitsPart-enrolled seat other.seen) other.parts theirs.fitting;
        apart = theirs.apart;
        opener = λ enrolling. absurd (apart ((theirs.opener enrolling).0 ∙ sym is_opener.0));
      }

  held_after : (replica : ℕ) → replica < slice_index words' 1
      → HasPart (slice_set views id new) (seat_of' replica) replica
  held_after replica within = ⊎_elim
      (λ (same : replica ≡ fresh).
      rw (same, seat_of'-fresh) (record {
        view = new;
        at = at_put views id view new at;
        part = Contains-first fresh fresh [] refl;
      }))
      (λ (other : replica ≡ fresh → ⊥).
      let less : replica < fresh = omega (arith, other, within, words_after.enrolled) in
      rw (seat_of'-other replica less) (HasPart-set views id view new (kept.seat_of replica) replica at
      (λ has. absurd (Contains-none replica (subst (λ replicas. Contains replicas replica) (ap (λ (parts : List Part). map (λ (part : Part). part.replica) parts) empty) has)))
      (kept.held replica less)))
      (cases_eq replica fresh)

  pub rule_after_enrol : IsOneHistory setup words' (slice_set views id new)
  rule_after_enrol = record {
    history = history;
    seat_of = seat_of';
    good = kept.good;
    run = kept.run;
    size = words_after.size;
    drawn = words_after.drawn ∙ kept.drawn;
    enrolled = omega (arith, words_after.enrolled, is_opener.1, room);
    unborn = λ replica past. kept.unborn replica (omega (arith, words_after.enrolled, past));
    held = held_after;
    seats = each_set views id new (FitsSeat words' seat_of' history) here_fits other_fits;
  }

  pub enrolled_view : IsEnrolled view fresh new
  enrolled_view = record { number = sym is_opener.1; is = refl }

pub enrols : (setup : Setup) (slots id : ℕ) (me : Me (Unit {0}) View)
    → me.0.opens ≡ true
    → me.0.parts ≡ []
    → me.0.enrolled < setup.replicas
    → Allows (KeepsHistory setup) slots id me 1 (λ n. (n + 1) % 2 ^ 64)
    (λ found after. (after.1 ≡ me.1) × IsEnrolled me.0 found after.0)
enrols setup slots id me opens empty room state kept homes at in_word = (
  record me.0 { enrolled = slice_index state.words 1 + 1; parts = part_with (slice_index state.words 1) [] ∷ [] },
  keeps,
  tt,
  rule_after_enrol setup state.words state.views kept id me.0 at opens empty room,
  (refl, enrolled_view setup state.words state.views kept id me.0 at opens empty room),
)

-- what contracts see of a clerk that just enrolled
pub fresh_clerk_is : (of table : TableId) (replica : ℕ) (views : List View) (view : View)
    → of ≡ table
    → views ≡ view ∷ []
    → view.seen ≡ []
    → view.parts ≡ part_with replica [] ∷ []
    → record { table = of; replica = replica; seen = seen_in views; pairs = pairs_in views } ≡ fresh_clerk table replica
fresh_clerk_is of table replica views view same only seen part =
    let Clerk : TableId → List Entry → List (ℕ × Entry) → ClerkView = λ table seen pairs. record { table = table; replica = replica; seen = seen; pairs = pairs } in
    ap (λ table. Clerk table (seen_in views) (pairs_in views)) same
    ∙ ap (λ views. Clerk table (seen_in views) (pairs_in views)) only
    ∙ ap (λ seen. Clerk table seen (first_pairs view.parts)) seen
    ∙ ap (λ parts. Clerk table [] (first_pairs parts)) part

-- the clerks, with one more
pub fresh_clerks_more : (table : TableId) (replica : ℕ) (clerks after : List ClerkView) (clerk : ClerkView)
    → clerks ≡ map (fresh_clerk table) (range_with_len 0 replica)
    → after ≡ clerks ++ clerk ∷ []
    → clerk ≡ fresh_clerk table replica
    → after ≡ map (fresh_clerk table) (range_with_len 0 (replica + 1))
fresh_clerks_more table replica clerks after clerk before pushed is =
    pushed ∙ ap (λ clerks. clerks ++ clerk ∷ []) before ∙ ap (λ last. map (fresh_clerk table) (range_with_len 0 replica) ++ last ∷ []) is
    ∙ sym (map-range_with_len_more (fresh_clerk table) 0 replica replica (omega arith))
