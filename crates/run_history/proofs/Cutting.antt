-- Cutting a view in two keeps the history rule, and so does a seat that comes and knows nothing.
use Rattle.std.proofs.Common.{◌≡◌, ◌≢◌, ℕ, ◌<◌, false, List, [], ◌∷◌, ◌++◌, All, Contains, length, slice_index, slice_set, refl, sym, ap, ◌∙◌, subst, ⊎_elim}
use Rattle.std.proofs.lemmas.Bool.{cases_eq}
use Rattle.std.proofs.lemmas.List.Elements.{All-weaker, All-nil}
use mathlib.Core.Option.{some, some-injective}
use lib.ListN.{get_elem?}
use Rattle.atomic_table.specs.Table.{Enters, Splits}
use Rattle.atomic_table.proofs.Lists.{at_last, set_again}
use Rattle.tact_base.specs.Setup.{Setup}
use Rattle.run_model.specs.Histories.{IsPrefix}
use Rattle.run_model.specs.declared.entry.Entry.{Entry}
use Rattle.run_history.specs.declared.view.Part.{Part}
use Rattle.run_history.specs.declared.view.View.{View}
use Rattle.run_history.specs.Rule.{FitsPart, FitsSeat, HasPart, IsOneHistory, KeepsHistory}
use Rattle.run_history.specs.Steps.{noted, handing, handed, nothing_known}
use Rattle.run_history.proofs.Enrolling.{none_apart}
use Rattle.run_history.proofs.SeatLemmas.{each_set, each_push, moved, moved-there, moved-else, replicas_in, HasPart-set_other, HasPart-push, HasPart-moved, IsOneHistory-reseated}

-- a seat that comes with no part
pub rule_with : (setup : Setup) (words : List ℕ) (views : List View) (new : View) (kept : IsOneHistory setup words views)
    → FitsSeat words kept.seat_of kept.history (length views) new
    → IsOneHistory setup words (views ++ new ∷ [])
rule_with setup words views new kept fits =
    IsOneHistory-reseated setup words views (views ++ new ∷ []) kept.seat_of kept
    (λ replica within. HasPart-push views new (kept.seat_of replica) replica (kept.held replica within))
    (each_push views new (FitsSeat words kept.seat_of kept.history) fits kept.seats)

-- it fits where it has seen a front and doesn't open
pub partless_fits : (words : List ℕ) (seat_of : ℕ → ℕ) (history : List Entry) (id : ℕ) (view : View)
    → IsPrefix view.seen history → All (λ old. IsPrefix old view.seen) view.olds → view.parts ≡ []
    → view.opens ≡ false → FitsSeat words seat_of history id view
partless_fits words seat_of history id view front fronts none closed = record {
  front = front;
  fronts = fronts;
  fitting = rw none (All-nil (FitsPart words seat_of history id view.seen));
  apart = rw none none_apart;
  opener = λ opens. absurd (cc (opens, closed));
}

pub notes : (setup : Setup) (id : ℕ) (view : View)
    → Splits (KeepsHistory setup) id view view (noted view)
notes setup id view state kept at =
    let fits = kept.seats id view at in
    subst (λ views. IsOneHistory setup state.words (views ++ noted view ∷ [])) (sym (set_again state.views id view at))
    (rule_with setup state.words state.views (noted view) kept
    (partless_fits state.words kept.seat_of kept.history (length state.views) (noted view) fits.front fits.fronts refl refl))

pub comes : (setup : Setup) (slots : ℕ) (then : ℕ → View → Type 0)
    → ((found : ℕ) → then found nothing_known) → Enters (KeepsHistory setup) slots 0 then
comes setup slots then told state kept homes in_word = (
  nothing_known,
  rule_with setup state.words state.views nothing_known kept
      (partless_fits state.words kept.seat_of kept.history (length state.views) nothing_known (kept.history, refl) (All-nil (λ old. IsPrefix old [])) refl refl),
  told (slice_index state.words 0),
)

-- parts of other seats, and parts that move
module _ (words : List ℕ) (seat_of : ℕ → ℕ) (history : List Entry) (from to : ℕ) where
  pub FitsPart-stays : (id : ℕ) (known : List Entry) (part : Part) → id ≢ from
      → FitsPart words seat_of history id known part
      → FitsPart words (moved seat_of from to) history id known part
  FitsPart-stays id known part other fit = record {
    drawn = fit.drawn;
    whole = fit.whole;
    here = moved-else seat_of from to part.replica (λ there. other (sym fit.here ∙ there)) ∙ fit.here;
    born = fit.born;
  }

  pub FitsPart-moves : (known : List Entry) (part : Part)
      → FitsPart words seat_of history from known part
      → FitsPart words (moved seat_of from to) history to known part
  FitsPart-moves known part fit = record {
    drawn = fit.drawn;
    whole = fit.whole;
    here = moved-there seat_of from to part.replica fit.here;
    born = fit.born;
  }

  pub FitsSeat-stays : (id : ℕ) (view : View) → id ≢ from → FitsSeat words seat_of history id view
      → FitsSeat words (moved seat_of from to) history id view
  FitsSeat-stays id view other fits = record {
    front = fits.front;
    fronts = fits.fronts;
    fitting = All-weaker (FitsPart words seat_of history id view.seen) (FitsPart words (moved seat_of from to) history id view.seen)
        (λ part fit. FitsPart-stays id view.seen part other fit) view.parts fits.fitting;
    apart = fits.apart;
    opener = fits.opener;
  }

-- Whatever the table is, a seat may hand its parts to a new one.
module _ (setup : Setup) (words : List ℕ) (views : List View) (kept : IsOneHistory setup words views)
    (id : ℕ) (view : View) (at : get_elem? views id ≡ some view) where
  abbrev history : List Entry
  history = kept.history

  abbrev left : List View
  left = slice_set views id (handing view)

  abbrev to : ℕ
  to = length left

  abbrev seat_of' : ℕ → ℕ
  seat_of' = moved kept.seat_of id to

  fits : FitsSeat words kept.seat_of history id view
  fits = kept.seats id view at

  handing_fits : FitsSeat words seat_of' history id (handing view)
  handing_fits = record {
    front = fits.front;
    fronts = fits.fronts;
    fitting = All-nil (FitsPart words seat_of' history id view.seen);
    apart = none_apart;
    opener = fits.opener;
  }

  handed_fits : FitsSeat words seat_of' history to (handed view)
  handed_fits = record {
    front = fits.front;
    fronts = fits.fronts;
    fitting = All-weaker (FitsPart words kept.seat_of history id view.seen) (FitsPart words seat_of' history to view.seen)
        (FitsPart-moves words kept.seat_of history id to view.seen) view.parts fits.fitting;
    apart = fits.apart;
    opener = λ opens. absurd (cc opens);
  }

  held_after : (replica : ℕ) → replica < slice_index words 1
      → HasPart (left ++ handed view ∷ []) (seat_of' replica) replica
  held_after replica within =
      HasPart-moved views (left ++ handed view ∷ []) kept.seat_of id to view (handed view) replica at (at_last left (handed view) to refl) (λ has. has)
      (λ other has.
      HasPart-push left (handed view) (kept.seat_of replica) replica
      (HasPart-set_other views id (handing view) (kept.seat_of replica) replica other has))
      (kept.held replica within)

  pub rule_after_hand : IsOneHistory setup words (left ++ handed view ∷ [])
  rule_after_hand = IsOneHistory-reseated setup words views (left ++ handed view ∷ []) seat_of' kept held_after
      (each_push left (handed view) (FitsSeat words seat_of' history) handed_fits
      (each_set views id (handing view) (FitsSeat words seat_of' history) handing_fits
      (λ seat other apart at_other. FitsSeat-stays words kept.seat_of history id to seat other apart (kept.seats seat other at_other))))

pub hands : (setup : Setup) (id : ℕ) (view : View)
    → Splits (KeepsHistory setup) id view (handing view) (handed view)
hands setup id view state kept at = rule_after_hand setup state.words state.views kept id view at
