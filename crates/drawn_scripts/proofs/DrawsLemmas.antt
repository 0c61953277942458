-- What stands after drawn steps.
use Rattle.std.proofs.Common.{◌≡◌, ℕ, ◌+◌, List, [], ◌∷◌, ◌++◌, refl, ap, ◌∙◌, arith}
use Rattle.std.specs.List.{fold, range_with_len}
use Rattle.std.proofs.lemmas.List.Sums.{fold-append}
use Rattle.tact_base.proofs.RangeLists.{range_more}
use Rattle.drawn_scripts.specs.Draws.{Drawing, ◌>>=◌, after_steps, drawn}

-- no step, and one more step
module _ {A : Type 0} (step : ℕ → A → Drawing A) (begun : A) (number : ℕ) where
  pub after_none : after_steps step begun 0 number ≡ (begun, number)
  unfolding after_steps
  after_none = refl

  pub after_more : (n : ℕ)
      → after_steps step begun (n + 1) number ≡ step n (after_steps step begun n number).0 (after_steps step begun n number).1
  unfolding after_steps
  after_more n =
      let before = λ (drawing : Drawing A) (of_step : ℕ). drawing >>= step of_step in
      let none : Drawing A = drawn begun in
      let last : 0 + n ≡ n = omega (arith) in
      let range : range_with_len 0 (n + 1) ≡ range_with_len 0 n ++ n ∷ [] =
      range_more 0 n ∙ ap (λ (m : ℕ). range_with_len 0 n ++ m ∷ []) last in
      ap (λ (drawing : Drawing A). drawing number)
      (ap (λ (steps : List ℕ). fold before none steps) range ∙ fold-append before none (range_with_len 0 n) (n ∷ []))
