-- Numbers drawn one after another from a state of 64 bits, by a linear congruence (Knuth's MMIX).
use Rattle.std.specs.Prelude.{ℕ, ◌+◌, ◌*◌, ◌^◌, ◌/◌, ◌%◌, ◌==◌, List, [], ◌∷◌, fold, Option, None, Some, if◌then◌else◌}
use Rattle.std.specs.List.{range_with_len}

-- the state after a draw
unfoldable pub after_draw : ℕ → ℕ
after_draw state = (state * 6364136223846793005 + 1442695040888963407) % 2 ^ 64

-- something drawn: from each state, what is drawn and the state after it
abbrev pub Drawing : Type 0 → Type 0
Drawing A = ℕ → A × ℕ

-- nothing is drawn for it
abbrev pub drawn : {A : Type 0} → A → Drawing A
drawn thing state = (thing, state)

-- one drawing, and then another that may look at what the first drew
infixl 10 ◌>>=◌
abbrev pub ◌>>=◌ : {A B : Type 0} → Drawing A → (A → Drawing B) → Drawing B
(first >>= next) state = let taken = first state in next taken.0 taken.1

-- a number below k: the upper half of the state after the draw, modulo k
unfoldable pub pick : ℕ → Drawing ℕ
pick k state = (after_draw state / 2 ^ 32 % k, after_draw state)

-- two numbers below 4, not the same
unfoldable pub two_drawn : Drawing (ℕ × ℕ)
two_drawn = do
  first ← pick 4
  step ← pick 3
  drawn (first, (first + 1 + step) % 4)

-- what may be drawn, where it is
abbrev pub some_drawn : {A : Type 0} → Drawing A → Drawing (Option A)
some_drawn drawing = do
  thing ← drawing
  drawn (Some thing)

-- a number below a count, where there is one; else nothing is drawn
unfoldable pub one_drawn : ℕ → Drawing (Option ℕ)
one_drawn count = if count == 0 then drawn None else some_drawn (pick count)

abbrev pub listed : {A : Type 0} → Option A → List A
listed None = []
listed (Some thing) = thing ∷ []

-- what stands after so many steps, each by its number
unfoldable pub after_steps : {A : Type 0} → (ℕ → A → Drawing A) → A → ℕ → Drawing A
after_steps step begun steps = fold (λ before number. before >>= step number) (drawn begun) (range_with_len 0 steps)
