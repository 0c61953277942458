-- Reading items one after the other, as a loop does.
use Rattle.std.proofs.Common.{◌≡◌, ℕ, suc, ◌-◌, ◌+◌, ◌≤◌, ◌<◌, Bool, true, false, List, [], ◌∷◌, ◌++◌, Result, Ok, Err, refl, sym, ap, ◌∙◌, append_assoc, arith}
use Rattle.std.proofs.lemmas.List.{append-nil}
use Rattle.run_model.specs.declared.status.LineKind.{LineKind}
use Rattle.run_record.specs.declared.line_fault.LineFault.{LineFault}
use Rattle.run_record.specs.declared.line_fault.LineFault.TheVariants as faults
use Rattle.run_record.specs.Fields.{◌>>=◌, Fails, Tokens, Field}
use Rattle.run_record.specs.Lists.{list_at}

-- what was read before, and what is still read
abbrev pub with_front : {A : Type 0} → List A → Field (List A) → Field (List A)
with_front front read = read >>= λ x. Ok (front ++ x.0, x.1)

pub regroup : {A : Type 0} (front : List A) (w : A) (read : Field (List A))
    → with_front front (read >>= λ x. Ok (w ∷ x.0, x.1)) ≡ with_front (front ++ w ∷ []) read
regroup {A = A} front w (Ok x) = ap (λ (ws : List A). Ok (ws, x.1)) (simp append_assoc)
regroup front w (Err f) = refl

pub at_first : {A : Type 0} (read : Field (List A)) → with_front [] read ≡ read
at_first (Ok x) = refl
at_first (Err f) = refl

module _ {A : Type 0} (item : ℕ → Tokens → Field A) (after : A → ℕ) (ends : Tokens → Bool) where
  pub goes_on : (front : List A) (count i least : ℕ) (tokens : Tokens) (w : A) (next : Tokens) (total : Field (List A))
      → i < count
      → ends tokens ≡ false
      → item least tokens ≡ Ok (w, next)
      → with_front front (list_at item after ends (count - i) least tokens) ≡ total
      → with_front (front ++ w ∷ []) (list_at item after ends (count - (i + 1)) (after w) next) ≡ total
  unfolding list_at
  goes_on front count i least tokens w next total lt more h so_far =
      let k : count - i ≡ suc (count - (i + 1)) = omega arith in
      let one : with_front front (list_at item after ends (count - i) least tokens) ≡ with_front (front ++ w ∷ []) (list_at item after ends (count - (i + 1)) (after w) next) =
      rw (k, more, h) (regroup front w (list_at item after ends (count - (i + 1)) (after w) next)) in
      sym one ∙ so_far

  pub fails : (front : List A) (count i least : ℕ) (tokens : Tokens) (kind : LineKind) (total : Field (List A))
      → i < count
      → ends tokens ≡ false
      → item least tokens ≡ Err kind
      → with_front front (list_at item after ends (count - i) least tokens) ≡ total
      → total ≡ Err kind
  unfolding list_at
  fails front count i least tokens kind total lt more h so_far =
      let k : count - i ≡ suc (count - (i + 1)) = omega arith in
      let one : with_front front (list_at item after ends (count - i) least tokens) ≡ Err kind = rw (k, more, h) refl in
      sym so_far ∙ one

  pub is_ended : (front : List A) (count i least : ℕ) (tokens : Tokens) (total : Field (List A))
      → i < count
      → ends tokens ≡ true
      → with_front front (list_at item after ends (count - i) least tokens) ≡ total
      → total ≡ Ok (front, tokens)
  unfolding list_at
  is_ended front count i least tokens total lt done so_far =
      let k : count - i ≡ suc (count - (i + 1)) = omega arith in
      let one : with_front front (list_at item after ends (count - i) least tokens) ≡ Ok (front, tokens) = rw (k, done) (ap (λ (ws : List A). Ok (ws, tokens)) (append-nil front)) in
      sym so_far ∙ one

  pub is_full : (front : List A) (count i least : ℕ) (tokens : Tokens) (total : Field (List A))
      → count ≤ i
      → with_front front (list_at item after ends (count - i) least tokens) ≡ total
      → total ≡ Ok (front, tokens)
  unfolding list_at
  is_full front count i least tokens total le so_far =
      let k : count - i ≡ 0 = omega arith in
      let one : with_front front (list_at item after ends (count - i) least tokens) ≡ Ok (front, tokens) = rw k (ap (λ (ws : List A). Ok (ws, tokens)) (append-nil front)) in
      sym so_far ∙ one

-- a reader that fails where another does
pub fails_alike : {X Y : Type 0} (fault : LineFault) (read : Result X LineKind) (total : Result Y LineKind)
    → ((kind : LineKind) → read ≡ Err kind → total ≡ Err kind)
    → Fails fault read
    → Fails fault total
fails_alike faults.NoMemory read total alike failed = tt
fails_alike (faults.Kind kind) read total alike failed = alike kind failed
