-- One more accepted write: what a book keeps goes on.
use Rattle.std.proofs.Common.{◌≡◌, ℕ, zero, suc, ◌*◌, ◌<◌, ◌≤◌, List, [], ◌∷◌, ◌++◌, length, get_or, set, flat_map, All, IsPermutation, refl, sym, ap, ◌∙◌, subst, ⊎_elim, arith, get_or-set_same, get_or-set_other}
use Rattle.std.proofs.lemmas.Bool.{cases_eq}
use Rattle.std.proofs.lemmas.List.{append_assoc, length_push, length-set, map-append}
use Rattle.std.proofs.lemmas.List.Concat.{length-flat_map}
use Rattle.std.proofs.lemmas.List.Elements.{All-cons, All-set, All-weaker}
use Rattle.std.proofs.lemmas.List.Kept.{AllPairs-cons}
use Rattle.std.proofs.lemmas.List.Sorted.{All-permutation, IsPermutation-middle, IsPermutation-sym}
use Rattle.std.proofs.lemmas.List.Sums.{sum_by-le}
use Rattle.tact_base.proofs.CompareLemmas.{AreApart}
use Rattle.tact_base.proofs.OrderLemmas.{Apart, Apart-IsPermutation}
use Rattle.tact_base.specs.declared.conit_list.Weight.{Weight}
use Rattle.tact_base.specs.declared.limits.TheConstants.{HISTORY_MAX, REPLICAS_MAX}
use Rattle.tact_base.specs.declared.write.Write.{Write}
use Rattle.conit_weights.specs.Running.{RunningState, HoldsAll}
use Rattle.replica_core.proofs.AdmitLemmas.{GetsOne}
use Rattle.replica_core.specs.Seen.{weights_of}
use Rattle.reference_book.specs.Books.{BookState, log_in, writes_in, with_accepted, IsNextIn, KeepsBook}

-- of joined lists, the one at a place gets one more element at its end
pub joined-one_more : (logs : List (List Write)) (at : ℕ) (write : Write)
    → at < length logs
    → GetsOne (flat_map (λ (log : List Write). log) logs) (flat_map (λ (log : List Write). log) (set logs at (get_or logs at [] ++ write ∷ []))) write
joined-one_more [] at write within = absurd (omega (arith, within))
joined-one_more (log ∷ logs) zero write within = record {
  front = log;
  rest = flat_map (λ (log : List Write). log) logs;
  was = refl;
  is = append_assoc log (write ∷ []) (flat_map (λ (log : List Write). log) logs);
}
joined-one_more (log ∷ logs) (suc at) write within =
    let gets = joined-one_more logs at write (omega (arith, within)) in
    record {
      front = log ++ gets.front;
      rest = gets.rest;
      was = ap (λ (ws : List Write). log ++ ws) gets.was ∙ sym (append_assoc log gets.front gets.rest);
      is = ap (λ (ws : List Write). log ++ ws) gets.is ∙ sym (append_assoc log gets.front (write ∷ gets.rest));
    }

-- no book has too many writes to be summed
pub writes_in-few : (book : BookState) (kept : RunningState)
    → KeepsBook book kept
    → length (writes_in book) ≤ REPLICAS_MAX * HISTORY_MAX
writes_in-few book kept keeps =
    omega (
      arith,
      length-flat_map (λ (log : List Write). log) book.logs,
      sum_by-le (λ (log : List Write). length log) HISTORY_MAX book.logs keeps.few,
      keeps.replicas,
    )

abbrev weights_in : Write → List Weight
weights_in write = write.weights

module _ (book : BookState) (write : Write) (next : IsNextIn book write) where
  abbrev more : BookState
  more = with_accepted book write

  gets : GetsOne (writes_in book) (writes_in more) write
  gets = joined-one_more book.logs write.origin write next.origin

  moved : IsPermutation (write ∷ (gets.front ++ gets.rest)) (writes_in more)
  moved =
      subst (IsPermutation (write ∷ (gets.front ++ gets.rest))) (sym gets.is)
      (IsPermutation-sym (gets.front ++ write ∷ gets.rest) (write ∷ (gets.front ++ gets.rest)) (IsPermutation-middle gets.front write gets.rest))

  log_here : log_in more write.origin ≡ log_in book write.origin ++ write ∷ []
  log_here = get_or-set_same book.logs write.origin (log_in book write.origin ++ write ∷ []) [] next.origin

  longer : (origin : ℕ) → length (log_in book origin) ≤ length (log_in more origin)
  longer origin = ⊎_elim
      (λ (same : origin ≡ write.origin).
      omega (arith, ap (λ o. length (log_in book o)) same, ap (λ o. length (log_in more o)) same, ap length log_here, length_push (log_in book write.origin) write))
      (λ (other : origin ≡ write.origin → ⊥).
      omega (arith, ap length (get_or-set_other book.logs write.origin origin (log_in book write.origin ++ write ∷ []) [] other)))
      (cases_eq origin write.origin)

  pub KeepsBook-accepted : (before after : RunningState)
      → KeepsBook book before
      → ((front rest : List (List Weight)) → HoldsAll before (front ++ rest) → HoldsAll after (front ++ write.weights ∷ rest))
      → KeepsBook more after
  KeepsBook-accepted before after keeps added =
      let IsPlaced = λ (held : Write). held.index < length (log_in book held.origin) in
      let IsPlacedAfter = λ (held : Write). held.index < length (log_in more held.origin) in
      let held : All IsPlaced (gets.front ++ gets.rest) = subst (All IsPlaced) gets.was keeps.placed in
      let others : All (AreApart write) (gets.front ++ gets.rest) =
      All-weaker IsPlaced (AreApart write)
      (λ one placed origin index. absurd (omega (arith, placed, index, next.index, ap (λ o. length (log_in book o)) origin)))
      (gets.front ++ gets.rest) held in
      record {
        replicas = omega (arith, keeps.replicas, length-set book.logs write.origin (log_in book write.origin ++ write ∷ []));
        few =
            All-set (λ (log : List Write). length log ≤ HISTORY_MAX) book.logs write.origin (log_in book write.origin ++ write ∷ [])
            (omega (arith, next.index, next.few, length_push (log_in book write.origin) write)) keeps.few;
        placed =
            All-permutation IsPlacedAfter (write ∷ (gets.front ++ gets.rest)) (writes_in more) moved
            (All-cons IsPlacedAfter write (gets.front ++ gets.rest)
            (omega (arith, next.index, ap length log_here, length_push (log_in book write.origin) write))
            (All-weaker IsPlaced IsPlacedAfter (λ one placed. omega (arith, placed, longer one.origin)) (gets.front ++ gets.rest) held));
        apart =
            Apart-IsPermutation (write ∷ (gets.front ++ gets.rest)) (writes_in more) moved
            (AllPairs-cons AreApart write (gets.front ++ gets.rest) others (subst Apart gets.was keeps.apart));
        sums =
            subst (λ (ws : List Write). HoldsAll after (weights_of ws)) (sym gets.is)
            (subst (HoldsAll after) (sym (map-append weights_in gets.front (write ∷ gets.rest)))
            (added (weights_of gets.front) (weights_of gets.rest)
            (subst (HoldsAll before) (ap weights_of gets.was ∙ map-append weights_in gets.front gets.rest) keeps.sums)));
      }
