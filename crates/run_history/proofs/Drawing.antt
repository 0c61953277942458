-- The draw keeps the history rule.
use Rattle.std.proofs.Common.{◌≡◌, ◌≢◌, ℕ, ◌+◌, ◌*◌, ◌%◌, ◌^◌, ◌≤◌, List, [], ◌∷◌, ◌++◌, All, Contains, map, length, slice_index, slice_set, refl, sym, ap, ◌∙◌, subst, arith, length-append}
use Rattle.std.proofs.lemmas.List.{append_assoc, map-append, length-set, get_or-set_same, get_or-set_other}
use Rattle.std.proofs.lemmas.List.Elements.{All-head, All-weaker}
use mathlib.Core.Option.{some}
use lib.ListN.{get_elem?}
use Rattle.atomic_table.specs.Table.{Me, Allows, keeps}
use Rattle.tact_base.specs.declared.limits.TheConstants.{HISTORY_MAX}
use Rattle.tact_base.proofs.ListLemmas.{All-one}
use Rattle.tact_base.specs.Setup.{Setup}
use Rattle.run_model.specs.Histories.{part_of, IsPrefix}
use Rattle.run_model.specs.Runs.{IsDue, IsLawful, IsRun, WasSent}
use Rattle.run_model.specs.declared.entry.Entry.{Entry}
use Rattle.tact_base.proofs.SetupLemmas.{HasCounts-from_IsSetup}
use Rattle.run_model.proofs.PartLemmas.{part_of-push_same, part_of-push_other}
use Rattle.run_model.proofs.PrefixLemmas.{EachAfter-push, IsPrefix-refl}
use Rattle.run_history.specs.declared.view.Part.{Part}
use Rattle.run_history.specs.declared.view.View.{View}
use Rattle.run_history.specs.Rule.{FitsPart, FitsSeat, IsOneHistory, KeepsHistory}
use Rattle.run_history.specs.Steps.{part_with, first_pairs, IsClerk, IsDrawn}
use Rattle.run_history.specs.Ticks.{entries_of}
use Rattle.run_history.proofs.RunLemmas.{IsLawful-more, run_is_short}
use Rattle.run_history.proofs.SeatLemmas.{each_set, HasPart-set}
use Rattle.run_history.proofs.TickLemmas.{drawn_by-push_same, drawn_by-push_other}

-- a clerk's view after it drew
abbrev pub drawn_view : View → Entry → List Entry → View
drawn_view view entry history = record view {
  seen = history ++ entry ∷ [];
  parts = part_with entry.replica (first_pairs view.parts ++ (length history, entry) ∷ []) ∷ [];
}

-- the words after one more entry
pub record Counted (words new : List ℕ) (count : ℕ) : Type 0 where
  pub drawn : slice_index new 0 ≡ count + 1
  pub enrolled : slice_index new 1 ≡ slice_index words 1
  pub size : length new ≡ 2

counted : (words : List ℕ) (count n : ℕ) → length words ≡ 2 → n ≡ count + 1
    → Counted words (slice_set words 0 n) count
counted words count n size is = record {
  drawn = get_or-set_same words 0 n 0 (omega arith) ∙ is;
  enrolled = get_or-set_other words 0 1 n 0 (omega arith);
  size = length-set words 0 n ∙ size;
}

-- a part of another replica fits after the draw
FitsPart-drawn : (words new : List ℕ) (count : ℕ) (seat_of : ℕ → ℕ) (history : List Entry) (entry : Entry) (id : ℕ) (known : List Entry) (part : Part)
    → Counted words new count
    → part.replica ≢ entry.replica
    → FitsPart words seat_of history id known part
    → FitsPart new seat_of (history ++ entry ∷ []) id known part
FitsPart-drawn words new count seat_of history entry id known part words_are other fits =
    let apart : entry.replica ≡ part.replica → ⊥ = λ same. other (sym same) in
    record {
      drawn = fits.drawn ∙ sym (drawn_by-push_other history entry part.replica apart);
      whole = fits.whole ∙ sym (part_of-push_other history entry part.replica apart);
      here = fits.here;
      born = rw words_are.enrolled fits.born;
    }

-- whatever the table is, a clerk that may draw does
module _ (setup : Setup) (entry : Entry) (words : List ℕ) (views : List View) (kept : IsOneHistory setup words views)
    (id : ℕ) (view : View) (at : get_elem? views id ≡ some view) (clerk : IsClerk entry.replica view) (lawful : IsLawful setup view.seen entry) where
  abbrev history : List Entry
  history = kept.history

  abbrev after : List Entry
  after = history ++ entry ∷ []

  abbrev own : List (ℕ × Entry)
  own = first_pairs view.parts

  abbrev new : View
  new = drawn_view view entry history

  fits : FitsSeat words kept.seat_of history id view
  fits = kept.seats id view at

  own_fits : FitsPart words kept.seat_of history id view.seen (part_with entry.replica own)
  own_fits =
      All-head (FitsPart words kept.seat_of history id view.seen) (part_with entry.replica own) []
      (subst (All (FitsPart words kept.seat_of history id view.seen)) clerk.part fits.fitting)

  may : IsLawful setup history entry
  may = IsLawful-more setup view.seen history entry fits.front own_fits.whole lawful

  pub run_after : IsRun setup after
  run_after = EachAfter-push (IsLawful setup) history entry kept.run may

  pub words_after : Counted words (slice_set words 0 ((slice_index words 0 + 1) % 2 ^ 64)) (length history)
  words_after =
      let short : length history ≤ setup.replicas * HISTORY_MAX = run_is_short setup history kept.run in
      let few : setup.replicas ≤ 8 = (HasCounts-from_IsSetup setup kept.good).replicas_high in
      let more : (slice_index words 0 + 1) % 2 ^ 64 ≡ length history + 1 = omega (arith, kept.drawn) in
      counted words (length history) ((slice_index words 0 + 1) % 2 ^ 64) kept.size more

  pub drawn : IsDrawn setup entry view (slice_index words 0) new
  drawn =
      let pair : (slice_index words 0, entry) ≡ (length history, entry) = ap (λ n. (n, entry)) kept.drawn in
      let mine_is : part_of history entry.replica ≡ entries_of own = sym own_fits.whole ∙ clerk.own in
      record {
        clerk = record {
          closed = clerk.closed;
          part = refl;
          own = part_of-push_same history entry entry.replica refl ∙ ap (λ part. part ++ entry ∷ []) mine_is
              ∙ sym (map-append (λ (pair : ℕ × Entry). pair.1) own ((length history, entry) ∷ []));
        };
        pairs = ap (λ pair. own ++ pair ∷ []) (sym pair);
        seen = record {
          others = fits.front.0;
          is = ap (λ whole. whole ++ entry ∷ []) fits.front.1;
          at = kept.drawn ∙ ap length fits.front.1;
        };
        run = run_after;
      }

  abbrev words' : List ℕ
  words' = slice_set words 0 ((slice_index words 0 + 1) % 2 ^ 64)

  here_fits : FitsSeat words' kept.seat_of after id new
  here_fits = record {
    front = IsPrefix-refl after;
    fronts = All-weaker (λ old. IsPrefix old view.seen) (λ old. IsPrefix old after)
        (λ old front. (
          (front.0 ++ fits.front.0) ++ entry ∷ [],
          ap (λ whole. whole ++ entry ∷ []) (fits.front.1 ∙ ap (λ seen. seen ++ fits.front.0) front.1 ∙ append_assoc old front.0 fits.front.0)
              ∙ append_assoc old (front.0 ++ fits.front.0) (entry ∷ []),
        ))
        view.olds fits.fronts;
    fitting = All-one (FitsPart words' kept.seat_of after id after) (part_with entry.replica (own ++ (length history, entry) ∷ [])) (record {
      drawn = ap (λ pairs. pairs ++ (length history, entry) ∷ []) own_fits.drawn ∙ sym (drawn_by-push_same history entry entry.replica refl);
      whole = refl;
      here = own_fits.here;
      born = rw words_after.enrolled own_fits.born;
    });
    apart = λ i j d less within. absurd (omega arith);
    opener = λ opens. absurd (cc (opens, clerk.closed));
  }

  other_fits : (seat : ℕ) (other : View) → seat ≢ id → get_elem? views seat ≡ some other
      → FitsSeat words' kept.seat_of after seat other
  other_fits seat other apart at_other =
      let fits = kept.seats seat other at_other in
      record {
        front = (fits.front.0 ++ entry ∷ [], ap (λ whole. whole ++ entry ∷ []) fits.front.1 ∙ append_assoc other.seen fits.front.0 (entry ∷ []));
        fronts = fits.fronts;
        fitting = All-weaker (FitsPart words kept.seat_of history seat other.seen) (FitsPart words' kept.seat_of after seat other.seen)
            (λ part fit. FitsPart-drawn words words' (length history) kept.seat_of history entry seat other.seen part words_after
            (λ same. apart (sym fit.here ∙ ap kept.seat_of same ∙ own_fits.here)) fit)
            other.parts fits.fitting;
        apart = fits.apart;
        opener = λ opens. ((fits.opener opens).0, (fits.opener opens).1 ∙ sym words_after.enrolled);
      }

  pub rule_after : IsOneHistory setup words' (slice_set views id new)
  rule_after = record {
    history = after;
    seat_of = kept.seat_of;
    good = kept.good;
    run = run_after;
    size = words_after.size;
    drawn = omega (arith, words_after.drawn, length-append history (entry ∷ []));
    enrolled = rw words_after.enrolled kept.enrolled;
    unborn = λ replica past.
        part_of-push_other history entry replica (omega (arith, own_fits.born, words_after.enrolled, past))
        ∙ kept.unborn replica (omega (arith, words_after.enrolled, past));
    held = λ replica within.
        HasPart-set views id view new (kept.seat_of replica) replica at
        (subst (λ replicas. Contains replicas replica) (ap (λ (parts : List Part). map (λ (part : Part). part.replica) parts) clerk.part))
        (kept.held replica (omega (arith, words_after.enrolled, within)));
    seats = each_set views id new (FitsSeat words' kept.seat_of after) here_fits other_fits;
  }

pub draws : (setup : Setup) (entry : Entry) (slots id : ℕ) (me : Me (Unit {0}) View)
    → IsClerk entry.replica me.0
    → IsLawful setup me.0.seen entry
    → Allows (KeepsHistory setup) slots id me 0 (λ n. (n + 1) % 2 ^ 64)
    (λ found after. (after.1 ≡ me.1) × IsDrawn setup entry me.0 found after.0)
draws setup entry slots id me clerk lawful state kept homes at in_word = (
  drawn_view me.0 entry kept.history,
  keeps,
  tt,
  rule_after setup entry state.words state.views kept id me.0 at clerk lawful,
  (refl, drawn setup entry state.words state.views kept id me.0 at clerk lawful),
)

-- the same, where what the clerk drew says that the entry is due
pub draws_due : (setup : Setup) (entry : Entry) (slots id : ℕ) (me : Me (Unit {0}) View)
    → IsClerk entry.replica me.0
    → IsDue setup (entries_of (first_pairs me.0.parts)) entry
    → WasSent me.0.seen entry.act
    → Allows (KeepsHistory setup) slots id me 0 (λ n. (n + 1) % 2 ^ 64)
    (λ found after. (after.1 ≡ me.1) × IsDrawn setup entry me.0 found after.0)
draws_due setup entry slots id me clerk due sent =
    draws setup entry slots id me clerk (record { due = subst (λ part. IsDue setup part entry) (sym clerk.own) due; sent = sent })
