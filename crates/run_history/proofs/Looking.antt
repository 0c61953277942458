-- The look keeps the history rule.
use Rattle.std.proofs.Common.{◌≡◌, ℕ, ◌<◌, List, All, slice_index, slice_set, refl, sym, subst, arith}
use Rattle.std.proofs.lemmas.List.{set-get_or}
use Rattle.std.proofs.lemmas.List.Elements.{All-weaker}
use mathlib.Core.Option.{some}
use lib.ListN.{get_elem?}
use Rattle.atomic_table.specs.Table.{Me, Allows, keeps}
use Rattle.tact_base.specs.Setup.{Setup}
use Rattle.run_model.specs.Histories.{IsPrefix}
use Rattle.run_model.specs.declared.entry.Entry.{Entry}
use Rattle.run_model.proofs.PrefixLemmas.{IsPrefix-trans, IsPrefix-refl}
use Rattle.run_history.specs.declared.view.Part.{Part}
use Rattle.run_history.specs.declared.view.View.{View}
use Rattle.run_history.specs.Rule.{FitsPart, FitsSeat, IsOneHistory, KeepsHistory}
use Rattle.run_history.specs.Steps.{IsLooked}
use Rattle.run_history.specs.Ticks.{drawn_by}
use Rattle.run_history.proofs.SeatLemmas.{each_set, HasPart-set, IsOneHistory-reseated}

-- Whatever the table is, a seat may look.
module _ (setup : Setup) (words : List ℕ) (views : List View) (kept : IsOneHistory setup words views)
    (id : ℕ) (view : View) (at : get_elem? views id ≡ some view) where
  abbrev history : List Entry
  history = kept.history

  abbrev new : View
  new = record view { seen = history }

  fits : FitsSeat words kept.seat_of history id view
  fits = kept.seats id view at

  fronts_after : All (λ old. IsPrefix old history) view.olds
  fronts_after = All-weaker (λ old. IsPrefix old view.seen) (λ old. IsPrefix old history)
      (λ old front. IsPrefix-trans old view.seen history front fits.front) view.olds fits.fronts

  here_fits : FitsSeat words kept.seat_of history id new
  here_fits = record {
    front = IsPrefix-refl history;
    fronts = fronts_after;
    fitting = All-weaker (FitsPart words kept.seat_of history id view.seen) (FitsPart words kept.seat_of history id history)
        (λ part fit. record { drawn = fit.drawn; whole = refl; here = fit.here; born = fit.born }) view.parts fits.fitting;
    apart = fits.apart;
    opener = fits.opener;
  }

  rule_same_words : IsOneHistory setup words (slice_set views id new)
  rule_same_words = IsOneHistory-reseated setup words views (slice_set views id new) kept.seat_of kept
      (λ replica within. HasPart-set views id view new (kept.seat_of replica) replica at (λ has. has) (kept.held replica within))
      (each_set views id new (FitsSeat words kept.seat_of history) here_fits (λ seat other apart at_other. kept.seats seat other at_other))

  pub rule_after_look : IsOneHistory setup (slice_set words 0 (slice_index words 0)) (slice_set views id new)
  rule_after_look = subst (λ list. IsOneHistory setup list (slice_set views id new)) (sym (set-get_or words 0 0)) rule_same_words

  pub looked : IsLooked setup view (slice_index words 0) new
  looked = record {
    is = refl;
    number = kept.drawn;
    front = fits.front;
    fronts = fronts_after;
    parts = All-weaker (FitsPart words kept.seat_of history id view.seen) (λ (part : Part). part.pairs ≡ drawn_by history part.replica)
        (λ part fit. fit.drawn) view.parts fits.fitting;
    among = All-weaker (FitsPart words kept.seat_of history id view.seen) (λ (part : Part). part.replica < setup.replicas)
        (λ part fit. omega (arith, fit.born, kept.enrolled)) view.parts fits.fitting;
    apart = fits.apart;
    run = kept.run;
  }

pub looks : (setup : Setup) (slots id : ℕ) (me : Me (Unit {0}) View)
    → Allows (KeepsHistory setup) slots id me 0 (λ n. n)
    (λ found after. (after.1 ≡ me.1) × IsLooked setup me.0 found after.0)
looks setup slots id me state kept homes at in_word = (
  record me.0 { seen = kept.history },
  keeps,
  tt,
  rule_after_look setup state.words state.views kept id me.0 at,
  (refl, looked setup state.words state.views kept id me.0 at),
)
