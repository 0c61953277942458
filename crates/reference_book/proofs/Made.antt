-- A book in which nothing was accepted.
use Rattle.std.proofs.Common.{◌≡◌, ℕ, zero, suc, ◌<◌, ◌≤◌, List, [], length, map, flat_map, replicate, All, sym, refl, ap, ◌∙◌, subst, arith}
use Rattle.std.proofs.lemmas.List.{same_lists, length-replicate, get_or-replicate}
use Rattle.std.proofs.lemmas.List.Elements.{All-nil}
use Rattle.std.proofs.lemmas.List.FromFn.{length-map-range_with_len}
use Rattle.tact_base.proofs.ElementLemmas.{AllPairs-nil}
use Rattle.tact_base.proofs.ListLemmas.{get_or-map_range}
use Rattle.tact_base.proofs.CompareLemmas.{AreApart}
use Rattle.tact_base.specs.Setup.{Setup, replicas_of}
use Rattle.tact_base.specs.declared.limits.TheConstants.{HISTORY_MAX, REPLICAS_MAX}
use Rattle.tact_base.specs.declared.write.Write.{Write}
use Rattle.run_model.specs.Histories.{part_of}
use Rattle.run_model.specs.OwnWrites.{own}
use Rattle.conit_weights.specs.Running.{RunningState, HoldsAll}
use Rattle.reference_book.specs.Books.{BookState, IsBookOf, KeepsBook, log_in, writes_in}

-- so many empty lists
abbrev empty_logs : ℕ → List (List Write)
empty_logs count = replicate count []

joined-empty : (count : ℕ) → flat_map (λ (log : List Write). log) (empty_logs count) ≡ []
joined-empty zero = refl
joined-empty (suc count) = joined-empty count

few-empty : (count : ℕ) → All (λ (log : List Write). length log ≤ HISTORY_MAX) (empty_logs count)
few-empty count k d within = omega (arith, ap length (get_or-replicate count k [] d (omega (arith, within, length-replicate {A = List Write} count []))))

pub KeepsBook-made : (book : BookState) (kept : RunningState) (count : ℕ)
    → book.logs ≡ empty_logs count
    → count ≤ REPLICAS_MAX
    → HoldsAll kept []
    → KeepsBook book kept
KeepsBook-made book kept count is few nothing =
    let none : writes_in book ≡ [] = ap (flat_map (λ (log : List Write). log)) is ∙ joined-empty count in
    record {
      replicas = omega (arith, few, ap length is, length-replicate {A = List Write} count []);
      few = subst (All (λ (log : List Write). length log ≤ HISTORY_MAX)) (sym is) (few-empty count);
      placed = rw none (All-nil (λ (write : Write). write.index < length (log_in book write.origin)));
      apart = rw none (AllPairs-nil AreApart);
      sums = rw none nothing;
    }

pub IsBookOf-made : (setup : Setup) (book : BookState) (count : ℕ)
    → book.conits ≡ setup.conits
    → book.logs ≡ empty_logs count
    → count ≡ setup.replicas
    → IsBookOf setup [] book
IsBookOf-made setup book count conits is all = record {
  conits = conits;
  logs =
      is
      ∙ same_lists (empty_logs count) (map (λ (replica : ℕ). own (part_of [] replica)) (replicas_of setup))
      (length-replicate {A = List Write} count [] ∙ all ∙ sym (length-map-range_with_len (λ (replica : ℕ). own (part_of [] replica)) 0 setup.replicas))
      (λ k d within.
      let below : k < count = omega (arith, within, length-replicate {A = List Write} count []) in
      get_or-replicate count k [] d below ∙ sym (get_or-map_range (λ (replica : ℕ). own (part_of [] replica)) setup.replicas k d (omega (arith, below, all))));
}
