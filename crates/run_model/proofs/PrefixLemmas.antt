-- Lists that begin others, and what holds of each item and those before it.
use Rattle.std.proofs.Common.{◌≡◌, ◌⊎◌, ℕ, ◌+◌, ◌-◌, ◌<◌, ◌≤◌, Bool, List, [], ◌∷◌, ◌++◌, length, get_or, take, drop, filter, All, refl, sym, ap, ◌∙◌, subst, subst₂, inl, inr, ⊎_elim, arith}
use Rattle.std.proofs.lemmas.Bool.{cases_lt}
use Rattle.std.proofs.lemmas.List.{append_assoc, append-nil, length-append, take-append-drop, drop-append-le, drop-drop, drop_all, drop_at, get_or_append_left, same_from_push}
use Rattle.std.proofs.lemmas.List.Elements.{filter-append}
use Rattle.tact_base.proofs.ListLemmas.{from_right, All-append_left}
use Rattle.run_model.specs.Histories.{IsPrefix, EachAfter}

-- a list is empty or has a last element
pub right_cases : {A : Type 0} (xs : List A)
    → (xs ≡ []) ⊎ ((front : List A) × (last : A) × (xs ≡ front ++ last ∷ []))
right_cases {A} xs = from_right (λ (xs : List A). (xs ≡ []) ⊎ ((front : List A) × (last : A) × (xs ≡ front ++ last ∷ []))) (inl refl) (λ front last before. inr (front, last, refl)) xs

module _ {A : Type 0} where
  pub IsPrefix-refl : (xs : List A) → IsPrefix xs xs
  IsPrefix-refl xs = ([], sym (append-nil xs))

  pub IsPrefix-nil : (xs : List A) → IsPrefix [] xs
  IsPrefix-nil xs = (xs, refl)

  pub IsPrefix-append : (xs ys : List A) → IsPrefix xs (xs ++ ys)
  IsPrefix-append xs ys = (ys, refl)

  pub IsPrefix-trans : (xs ys zs : List A) → IsPrefix xs ys → IsPrefix ys zs → IsPrefix xs zs
  IsPrefix-trans xs ys zs (rest, is) (more, is_more) = (rest ++ more, is_more ∙ ap (λ front. front ++ more) is ∙ append_assoc xs rest more)

  pub IsPrefix-take : (n : ℕ) (xs : List A) → IsPrefix (take n xs) xs
  IsPrefix-take n xs = (drop n xs, sym (take-append-drop n xs))

  pub IsPrefix-filter : (p : A → Bool) (xs ys : List A)
      → IsPrefix xs ys
      → IsPrefix (filter p xs) (filter p ys)
  IsPrefix-filter p xs ys (rest, is) = (filter p rest, ap (filter p) is ∙ filter-append p xs rest)

  pub IsPrefix-same : (xs ys : List A) → xs ≡ ys → IsPrefix xs ys
  IsPrefix-same xs ys same = ([], sym same ∙ sym (append-nil xs))

  -- of both, what follows a place
  pub IsPrefix-drop : (n : ℕ) (xs ys : List A) → IsPrefix xs ys → IsPrefix (drop n xs) (drop n ys)
  IsPrefix-drop n xs ys (rest, is) = ⊎_elim
      (λ (past : length xs < n). rw (drop_all n xs (omega arith)) (IsPrefix-nil (drop n ys)))
      (λ (within : n ≤ length xs). (rest, ap (drop n) is ∙ drop-append-le n xs rest within))
      (cases_lt (length xs) n)

  pub IsPrefix-length : (xs ys : List A) → IsPrefix xs ys → length xs ≤ length ys
  IsPrefix-length xs ys (rest, is) = omega (arith, ap length is, length-append xs rest)

  -- one that is as long as the whole
  pub IsPrefix-whole : (xs ys : List A) → IsPrefix xs ys → length ys ≤ length xs → xs ≡ ys
  IsPrefix-whole xs ys ([], is) least = sym (is ∙ append-nil xs)
  IsPrefix-whole xs ys (x ∷ rest, is) least = absurd (omega (arith, least, ap length is, length-append xs (x ∷ rest)))

  pub IsPrefix-reads : (xs ys : List A) (i : ℕ) (d : A)
      → IsPrefix xs ys
      → i < length xs
      → get_or ys i d ≡ get_or xs i d
  IsPrefix-reads xs ys i d (rest, is) within = ap (λ l. get_or l i d) is ∙ get_or_append_left xs rest d i within

  pub IsPrefix-All : (P : A → Type 0) (xs ys : List A) → IsPrefix xs ys → All P ys → All P xs
  IsPrefix-All P xs ys (rest, is) all = All-append_left P xs rest (subst (All P) is all)

  -- what a list has from a place within it on, and then a stretch of the whole from that place on, or from an earlier
  -- one
  pub IsPrefix-stretch : (log told whole : List A) (first : ℕ)
      → IsPrefix log whole
      → IsPrefix told (drop first whole)
      → first ≤ length log
      → IsPrefix (log ++ drop (length log - first) told) whole
  IsPrefix-stretch log told whole first (rest, is) (more, is_more) within =
      let n : ℕ = length log - first in
      let onward : first + n ≡ length log = omega arith in
      let past : drop n (drop first whole) ≡ rest =
      drop-drop n first whole ∙ ap (λ k. drop k whole) onward ∙ ap (drop (length log)) is ∙ drop_at log rest (length log) refl in
      let told_past : drop n (told ++ more) ≡ rest = sym (ap (drop n) is_more) ∙ past in
      ⊎_elim
      (λ (short : length told < n).
      rw (drop_all n told (omega arith), append-nil) (rest, is))
      (λ (long : n ≤ length told).
      let split : drop n told ++ more ≡ rest = sym (drop-append-le n told more long) ∙ told_past in
      (more, is ∙ ap (λ end. log ++ end) (sym split) ∙ sym (append_assoc log (drop n told) more)))
      (cases_lt (length told) n)

module _ {A : Type 0} (R : List A → A → Type 0) where
  pub EachAfter-nil : EachAfter R []
  EachAfter-nil before after item is = absurd (omega (arith, ap length is, length-append before (item ∷ after)))

  pub EachAfter-prefix : (xs ys : List A) → IsPrefix xs ys → EachAfter R ys → EachAfter R xs
  EachAfter-prefix xs ys (rest, is_rest) each before after item is =
      each before (after ++ rest) item (is_rest ∙ ap (λ front. front ++ rest) is ∙ append_assoc before (item ∷ after) rest)

  pub EachAfter-last : (xs : List A) (x : A) → EachAfter R (xs ++ x ∷ []) → R xs x
  EachAfter-last xs x each = each xs [] x refl

  pub EachAfter-push : (xs : List A) (x : A) → EachAfter R xs → R xs x → EachAfter R (xs ++ x ∷ [])
  EachAfter-push xs x each last before after item is = ⊎_elim
      (λ (none : after ≡ []).
      let ends = same_from_push xs before x item (is ∙ ap (λ end. before ++ item ∷ end) none) in
      subst₂ R ends.0 ends.1 last)
      (λ (some : (front : List A) × (end : A) × (after ≡ front ++ end ∷ [])).
      let ends = same_from_push xs (before ++ item ∷ some.0) x some.1
      (is ∙ ap (λ rest. before ++ item ∷ rest) some.2 ∙ sym (append_assoc before (item ∷ some.0) (some.1 ∷ []))) in
      each before some.0 item ends.0)
      (right_cases after)
