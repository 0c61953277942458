-- Lists over the numbers from 0 on, as they grow by one.
use Rattle.std.proofs.Common.{◌≡◌, ℕ, ◌+◌, List, [], ◌∷◌, ◌++◌, map, sym, ap, ◌∙◌, append_assoc, arith}
use Rattle.std.proofs.lemmas.Grind.{flat_map-append}
use Rattle.std.proofs.lemmas.List.{append-nil, map-id}
use Rattle.std.proofs.lemmas.List.FromFn.{map-range_with_len_more}
use Rattle.std.specs.List.{flat_map, range_with_len}

pub range_more : (a n : ℕ)
    → range_with_len a (n + 1) ≡ range_with_len a n ++ (a + n) ∷ []
range_more a n =
    sym (map-id (range_with_len a (n + 1)))
    ∙ map-range_with_len_more (λ (i : ℕ). i) a n (a + n) (omega arith)
    ∙ ap (λ (front : List ℕ). front ++ (a + n) ∷ []) (map-id (range_with_len a n))

pub map_more : {X : Type 0} (f : ℕ → X) (n : ℕ)
    → map f (range_with_len 0 (n + 1)) ≡ map f (range_with_len 0 n) ++ f n ∷ []
map_more f n = map-range_with_len_more f 0 n n (omega arith)

pub flat_map_range_more : {X : Type 0} (f : ℕ → List X) (n : ℕ)
    → flat_map f (range_with_len 0 (n + 1)) ≡ flat_map f (range_with_len 0 n) ++ f n
flat_map_range_more f n =
    let e : 0 + n ≡ n = omega arith in
    ap (flat_map f) (range_more 0 n) ∙ flat_map-append f (range_with_len 0 n) ((0 + n) ∷ [])
    ∙ ap (λ k. flat_map f (range_with_len 0 n) ++ flat_map f (k ∷ [])) e ∙ ap (λ ys. flat_map f (range_with_len 0 n) ++ ys) (append-nil (f n))

-- a list that grew by what f gives next
pub mapped_more : {X : Type 0} (f : ℕ → X) (n : ℕ) (start before after : List X) (x : X)
    → before ≡ start ++ map f (range_with_len 0 n)
    → after ≡ before ++ x ∷ []
    → x ≡ f n
    → after ≡ start ++ map f (range_with_len 0 (n + 1))
mapped_more f n start before after x was grew is =
    rw (map_more f n, ← is, ← append_assoc, ← was) grew
