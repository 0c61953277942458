-- Reading items one after the other, as a loop does.
use Rattle.std.proofs.Common.{◌≡◌, ℕ, suc, ◌-◌, ◌+◌, ◌≤◌, ◌<◌, List, [], ◌∷◌, ◌++◌, Ok, Err, refl, sym, ap, ◌∙◌, append_assoc, arith}
use Rattle.std.proofs.lemmas.List.{append-nil}
use Rattle.run_model.specs.declared.fields.FieldFault.{FieldFault}
use Rattle.run_model.specs.Bytes.{◌>>=◌, Field, list_at}

-- what was read before, and what is still read
abbrev pub with_front : {A : Type 0} → List A → Field (List A) → Field (List A)
with_front front read = read >>= λ x. Ok (front ++ x.0, x.1)

regroup : {A : Type 0} (front : List A) (w : A) (read : Field (List A))
    → with_front front (read >>= λ x. Ok (w ∷ x.0, x.1)) ≡ with_front (front ++ w ∷ []) read
regroup {A = A} front w (Ok x) = ap (λ (ws : List A). Ok (ws, x.1)) (simp append_assoc)
regroup front w (Err f) = refl

pub at_first : {A : Type 0} (read : Field (List A)) → with_front [] read ≡ read
at_first (Ok x) = refl
at_first (Err f) = refl

module _ {A : Type 0} (item : ℕ → List ℕ → ℕ → Field A) (after : A → ℕ) where
  pub goes_on : (front : List A) (count i least : ℕ) (bytes : List ℕ) (place : ℕ) (w : A) (next : ℕ) (total : Field (List A))
      → i < count
      → item least bytes place ≡ Ok (w, next)
      → with_front front (list_at item after (count - i) least bytes place) ≡ total
      → with_front (front ++ w ∷ []) (list_at item after (count - (i + 1)) (after w) bytes next) ≡ total
  unfolding list_at
  goes_on front count i least bytes place w next total lt h so_far =
      let k : count - i ≡ suc (count - (i + 1)) = omega arith in
      let one : with_front front (list_at item after (count - i) least bytes place) ≡ with_front (front ++ w ∷ []) (list_at item after (count - (i + 1)) (after w) bytes next) =
      rw (k, h) (regroup front w (list_at item after (count - (i + 1)) (after w) bytes next)) in
      sym one ∙ so_far

  pub ends : (front : List A) (count i least : ℕ) (bytes : List ℕ) (place : ℕ) (f : FieldFault) (total : Field (List A))
      → i < count
      → item least bytes place ≡ Err f
      → with_front front (list_at item after (count - i) least bytes place) ≡ total
      → total ≡ Err f
  unfolding list_at
  ends front count i least bytes place f total lt h so_far =
      let k : count - i ≡ suc (count - (i + 1)) = omega arith in
      let one : with_front front (list_at item after (count - i) least bytes place) ≡ Err f = rw (k, h) refl in
      sym so_far ∙ one

  pub is_done : (front : List A) (count i least : ℕ) (bytes : List ℕ) (place : ℕ) (total : Field (List A))
      → count ≤ i
      → with_front front (list_at item after (count - i) least bytes place) ≡ total
      → total ≡ Ok (front, place)
  unfolding list_at
  is_done front count i least bytes place total le so_far =
      let k : count - i ≡ 0 = omega arith in
      let one : with_front front (list_at item after (count - i) least bytes place) ≡ Ok (front, place) = rw k (ap (λ (ws : List A). Ok (ws, place)) (append-nil front)) in
      sym so_far ∙ one
