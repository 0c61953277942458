-- A text's first piece, and the pieces after it.
use Rattle.std.proofs.Common.{◌≡◌, ◌≢◌, ℕ, zero, suc, ◌+◌, ◌<◌, ◌≤◌, true, false, eqb, List, [], ◌∷◌, length, get_or, take, drop, refl, ap, arith, eq-eqb}
use Rattle.std.proofs.lemmas.List.{take_all, drop_all}
use Rattle.memchr.specs.Find.{NoneBefore, Nowhere, Passes, is_byte}
use Rattle.std.proofs.lemmas.Bool.Decides.{nat_tests}
use Rattle.std.specs.Prelude.{nat_eq, filter}
use Rattle.run_record.specs.Splitting.{with_front, pieces_of, has_bytes, tokens}
use Rattle.run_record.specs.Lines.{is_skipped}

eqb_no : (a b : ℕ) → a ≢ b → eqb a b ≡ false
eqb_no a b h = grind (arith, nat_tests)

-- the first piece ends at the first separator
pub first_piece : (s : ℕ) (bs : List ℕ) (k : ℕ)
    → 0 < length bs
    → k ≤ length bs
    → ((j : ℕ) → j < k → get_or bs j 0 ≢ s)
    → (k < length bs → get_or bs k 0 ≡ s)
    → pieces_of s bs ≡ take k bs ∷ pieces_of s (drop (k + 1) bs)
first_piece s [] k some within before here = absurd (omega arith)
first_piece s (b ∷ bs) zero some within before here = let e : eqb b s ≡ true = eq-eqb b s (here (omega arith)) in rw e refl
first_piece s (b ∷ []) (suc k) some within before here =
    let e : eqb b s ≡ false = eqb_no b s (before 0 (omega arith)) in
    let k-is : k ≡ 0 = omega arith in
    rw (e, k-is) refl
first_piece s (b ∷ c ∷ cs) (suc k) some within before here =
    let e : eqb b s ≡ false = eqb_no b s (before 0 (omega arith)) in
    let more : suc k + 1 ≡ suc (k + 1) = omega arith in
    let rest : pieces_of s (c ∷ cs) ≡ take k (c ∷ cs) ∷ pieces_of s (drop (k + 1) (c ∷ cs)) = first_piece s (c ∷ cs) k (omega arith) (omega arith) (λ j lt. before (suc j) (omega arith)) (λ lt. here (omega arith)) in
    rw (e, more) (ap (with_front b) rest)

-- the first line, which ends where a line feed was found first, and the only one, where none was
pub first_line : (bs : List ℕ) (k : ℕ)
    → 0 < length bs
    → NoneBefore (Passes (is_byte 10) bs) 0 (length bs) k
    → Passes (is_byte 10) bs k
    → pieces_of 10 bs ≡ take k bs ∷ pieces_of 10 (drop (k + 1) bs)
first_line bs k some none here =
    first_piece 10 bs k some (omega (arith, none.high)) (λ j lt same. none.before j (omega arith) lt (eq-eqb (get_or bs j 0) 10 same)) (λ lt. let found : eqb (get_or bs k 0) 10 ≡ true = here in grind (arith, nat_tests))

pub only_line : (bs : List ℕ)
    → 0 < length bs
    → Nowhere (Passes (is_byte 10) bs) 0 (length bs)
    → pieces_of 10 bs ≡ bs ∷ []
only_line bs some none =
    let all : take (length bs) bs ≡ bs = take_all (length bs) bs (omega arith) in
    let over : drop (length bs + 1) bs ≡ [] = drop_all (length bs + 1) bs (omega arith) in
    rw (all, over) at (first_piece 10 bs (length bs) some (omega arith) (λ j lt same. none j (omega arith) lt (eq-eqb (get_or bs j 0) 10 same)) (λ lt. absurd (omega arith)))

-- an empty first piece is no token
pub tokens_empty : (bs t after : List ℕ)
    → pieces_of 32 bs ≡ t ∷ pieces_of 32 after
    → length t ≡ 0
    → tokens bs ≡ tokens after
unfolding tokens
tokens_empty bs [] after e h = rw e refl
tokens_empty bs (b ∷ t) after e h = absurd (omega arith)

-- another is one
pub tokens_some : (bs t after : List ℕ)
    → pieces_of 32 bs ≡ t ∷ pieces_of 32 after
    → 0 < length t
    → tokens bs ≡ t ∷ tokens after
unfolding tokens
tokens_some bs [] after e h = absurd (omega arith)
tokens_some bs (b ∷ t) after e h = rw e refl

pub tokens_none : (bs : List ℕ) → length bs ≡ 0 → tokens bs ≡ []
unfolding tokens
tokens_none [] h = refl
tokens_none (b ∷ bs) h = absurd (omega arith)

-- a line that begins with another byte than a space is skipped exactly where that byte is `#`
first_tells : (byte : ℕ) (pieces : List (List ℕ)) → is_skipped (filter has_bytes (with_front byte pieces)) ≡ nat_eq byte 35
first_tells byte [] = refl
first_tells byte (piece ∷ pieces) = refl

pub is_skipped-first : (line : List ℕ)
    → 0 < length line
    → nat_eq (get_or line 0 0) 32 ≡ false
    → is_skipped (tokens line) ≡ nat_eq (get_or line 0 0) 35
unfolding tokens
is_skipped-first [] some apart = absurd (omega arith)
is_skipped-first (byte ∷ line) some apart = rw apart (first_tells byte (pieces_of 32 line))
