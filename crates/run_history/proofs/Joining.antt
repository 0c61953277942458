-- Joining two views keeps the history rule.
use Rattle.std.proofs.Common.{◌≡◌, ◌≢◌, ℕ, ◌<◌, ◌≤◌, ◌==◌, List, [], ◌∷◌, ◌++◌, All, AllPairs, Contains, length, slice_index, slice_set, refl, sym, ap, ◌∙◌, subst, ⊎_elim, arith}
use Rattle.std.proofs.lemmas.Bool.{cases_eq}
use Rattle.std.proofs.lemmas.List.{map-append}
use Rattle.std.proofs.lemmas.List.Elements.{All-weaker, All-append, All-nil, All-cons, Contains-append_left, Contains-append_right}
use mathlib.Core.Option.{some, some-injective}
use lib.ListN.{get_elem?}
use Rattle.atomic_table.specs.Table.{Joins}
use Rattle.atomic_table.proofs.Lists.{set_else}
use Rattle.tact_base.proofs.ElementLemmas.{AllPairs-append}
use Rattle.tact_base.specs.Setup.{Setup}
use Rattle.run_model.specs.Histories.{part_of, IsPrefix}
use Rattle.run_model.specs.declared.entry.Entry.{Entry}
use Rattle.run_model.proofs.PrefixLemmas.{IsPrefix-trans, IsPrefix-filter, IsPrefix-length, IsPrefix-whole}
use Rattle.run_history.specs.declared.view.Part.{Part}
use Rattle.run_history.specs.declared.view.View.{View}
use Rattle.run_history.specs.Rule.{FitsPart, FitsSeat, HasPart, IsOneHistory, KeepsHistory}
use Rattle.run_history.specs.Steps.{longer, joined, nothing_known}
use Rattle.run_history.proofs.Cutting.{partless_fits, FitsPart-stays, FitsPart-moves, FitsSeat-stays}
use Rattle.run_history.proofs.SeatLemmas.{each_set, at_put, moved, moved-there, moved-else, replicas_in, HasPart-set, HasPart-set_other, IsLonger, longer_begins, HasPart-moved, IsOneHistory-reseated}

-- between a front that has all of a replica and the whole each front has all of it
all_between : (front middle history : List Entry) (replica : ℕ) → IsPrefix front middle
    → IsPrefix middle history → part_of front replica ≡ part_of history replica
    → part_of middle replica ≡ part_of history replica
all_between front middle history replica first second all =
    let test = λ (entry : Entry). entry.replica == replica in
    let some_of = IsPrefix-length (part_of front replica) (part_of middle replica) (IsPrefix-filter test front middle first) in
    IsPrefix-whole (part_of middle replica) (part_of history replica) (IsPrefix-filter test middle history second) (omega (arith, some_of, ap length all))

FitsPart-knows : (words : List ℕ) (seat_of : ℕ → ℕ) (history : List Entry) (id : ℕ) (known more : List Entry)
    → IsPrefix known more
    → IsPrefix more history
    → (part : Part)
    → FitsPart words seat_of history id known part
    → FitsPart words seat_of history id more part
FitsPart-knows words seat_of history id known more first second part fit = record {
  drawn = fit.drawn;
  whole = all_between known more history part.replica first second fit.whole;
  here = fit.here;
  born = fit.born;
}

-- Whatever the table is, a seat may take in what another has.
module _ (setup : Setup) (words : List ℕ) (views : List View) (kept : IsOneHistory setup words views)
    (id : ℕ) (view : View) (at : get_elem? views id ≡ some view)
    (from : ℕ) (apart : from ≢ id) (other : View) (at_other : get_elem? views from ≡ some other) where
  abbrev history : List Entry
  history = kept.history

  abbrev both : View
  both = joined view other

  abbrev seat_of' : ℕ → ℕ
  seat_of' = moved kept.seat_of from id

  mine_fits : FitsSeat words kept.seat_of history id view
  mine_fits = kept.seats id view at

  their_fits : FitsSeat words kept.seat_of history from other
  their_fits = kept.seats from other at_other

  seen : IsLonger view.seen other.seen history (longer view.seen other.seen)
  seen = longer_begins view.seen other.seen history mine_fits.front their_fits.front

  abbrev IsFront : List Entry → Type 0
  IsFront old = IsPrefix old (longer view.seen other.seen)

  olds_front : All IsFront (view.seen ∷ other.seen ∷ (view.olds ++ other.olds))
  olds_front =
      All-cons IsFront view.seen (other.seen ∷ (view.olds ++ other.olds)) seen.first
      (All-cons IsFront other.seen (view.olds ++ other.olds) seen.second
      (All-append IsFront view.olds other.olds
      (All-weaker (λ old. IsPrefix old view.seen) IsFront (λ old front. IsPrefix-trans old view.seen both.seen front seen.first) view.olds mine_fits.fronts)
      (All-weaker (λ old. IsPrefix old other.seen) IsFront (λ old front. IsPrefix-trans old other.seen both.seen front seen.second) other.olds their_fits.fronts)))

  abbrev Fits' : Part → Type 0
  Fits' = FitsPart words seat_of' history id both.seen

  parts_fit : All Fits' (view.parts ++ other.parts)
  parts_fit = All-append Fits' view.parts other.parts
      (All-weaker (FitsPart words kept.seat_of history id view.seen) Fits'
      (λ part fit. FitsPart-knows words seat_of' history id view.seen both.seen seen.first seen.front part
      (FitsPart-stays words kept.seat_of history from id id view.seen part (λ same. apart (sym same)) fit))
      view.parts mine_fits.fitting)
      (All-weaker (FitsPart words kept.seat_of history from other.seen) Fits'
      (λ part fit. FitsPart-knows words seat_of' history id other.seen both.seen seen.second seen.front part
      (FitsPart-moves words kept.seat_of history from id other.seen part fit))
      other.parts their_fits.fitting)

  parts_apart : AllPairs (λ (one two : Part). one.replica ≢ two.replica) (view.parts ++ other.parts)
  parts_apart = AllPairs-append (λ (one two : Part). one.replica ≢ two.replica) view.parts other.parts mine_fits.apart their_fits.apart
      (All-weaker (FitsPart words kept.seat_of history id view.seen) (λ one. All (λ (two : Part). one.replica ≢ two.replica) other.parts)
      (λ one fit. All-weaker (FitsPart words kept.seat_of history from other.seen) (λ (two : Part). one.replica ≢ two.replica)
      (λ two theirs same. apart (sym theirs.here ∙ ap kept.seat_of (sym same) ∙ fit.here)) other.parts their_fits.fitting)
      view.parts mine_fits.fitting)

  both_fits : FitsSeat words seat_of' history id both
  both_fits = record {
    front = seen.front;
    fronts = olds_front;
    fitting = parts_fit;
    apart = parts_apart;
    opener = mine_fits.opener;
  }

  abbrev views' : List View
  views' = slice_set (slice_set views id both) from nothing_known

  replicas_both : (replica : ℕ) → replicas_in both ≡ replicas_in view ++ replicas_in other
  replicas_both replica = map-append (λ (part : Part). part.replica) view.parts other.parts

  -- the joined seat still stands where the other is spent
  at_both : get_elem? views' id ≡ some both
  at_both = set_else (slice_set views id both) from id nothing_known (λ same. apart (sym same)) ∙ at_put views id view both at

  held_after : (replica : ℕ) → replica < slice_index words 1
      → HasPart views' (seat_of' replica) replica
  held_after replica within =
      HasPart-moved views views' kept.seat_of from id other both replica at_other at_both
      (λ theirs. rw (replicas_both replica) (Contains-append_right (replicas_in view) (replicas_in other) replica theirs))
      (λ else has.
      HasPart-set_other (slice_set views id both) from nothing_known (kept.seat_of replica) replica else
      (HasPart-set views id view both (kept.seat_of replica) replica at
      (λ mine. rw (replicas_both replica) (Contains-append_left (replicas_in view) (replicas_in other) replica mine)) has))
      (kept.held replica within)

  pub rule_after_join : IsOneHistory setup words views'
  rule_after_join = IsOneHistory-reseated setup words views views' seat_of' kept held_after
      (each_set (slice_set views id both) from nothing_known (FitsSeat words seat_of' history)
      (partless_fits words seat_of' history from nothing_known (history, refl) (All-nil (λ old. IsPrefix old [])) refl refl)
      (λ seat view not_from at_seat.
      each_set views id both (λ seat view. seat ≢ from → FitsSeat words seat_of' history seat view) (λ not. both_fits)
      (λ seat view not_id at_seat not_from. FitsSeat-stays words kept.seat_of history from id seat view not_from (kept.seats seat view at_seat))
      seat view at_seat not_from))

pub joins : (setup : Setup) (id : ℕ) (view : View) (from : ℕ) (other : View)
    → Joins (KeepsHistory setup) id view from other (joined view other) nothing_known
joins setup id view from other state kept at apart at_other =
    rule_after_join setup state.words state.views kept id view at from apart other
    (sym (set_else state.views id from (joined view other) apart) ∙ at_other)
