-- The words behind that of the lock.
use Rattle.std.proofs.Common.{◌≡◌, ℕ, ◌+◌, ◌<◌, List, [], ◌∷◌, ◌++◌, length, get_or, take, drop, set, sym, refl, ap, ◌∙◌, arith, add-one, length-append}
use Rattle.std.proofs.lemmas.List.{take_more, take_all, length-drop}

-- the word behind a place is the place's total
pub past : (ws : List ℕ) (p : ℕ) → get_or (drop 1 ws) p 0 ≡ get_or ws (p + 1) 0
past [] p = refl
past (w ∷ ws) p = rw add-one refl

pub drop_lock : (ws : List ℕ) (n : ℕ) → drop 1 (set ws 0 n) ≡ drop 1 ws
drop_lock [] n = refl
drop_lock (w ∷ ws) n = refl

pub drop_place : (ws : List ℕ) (p n : ℕ) → drop 1 (set ws (p + 1) n) ≡ set (drop 1 ws) p n
drop_place [] p n = refl
drop_place (w ∷ ws) p n = rw add-one refl

pub lock_kept : (ws : List ℕ) (p n : ℕ) → get_or (set ws (p + 1) n) 0 0 ≡ get_or ws 0 0
lock_kept [] p n = refl
lock_kept (w ∷ ws) p n = rw add-one refl

-- the next total goes behind the book
pub longer : (b d : List ℕ) (x : ℕ)
    → b ≡ take (length b) d
    → length b < length d
    → x ≡ get_or d (length b) 0
    → b ++ x ∷ [] ≡ take (length (b ++ x ∷ [])) d
longer b d x e lt is =
    let n : ℕ = length b in
    let len : n + 1 ≡ length (b ++ x ∷ []) = omega (arith, length-append b (x ∷ [])) in
    ap (λ (l : List ℕ). l ++ x ∷ []) e
    ∙ (ap (λ (y : ℕ). take n d ++ y ∷ []) is ∙ (sym (take_more d n 0 lt) ∙ ap (λ (k : ℕ). take k d) len))

-- a book with all places has all words
pub full : (b ws : List ℕ)
    → b ≡ take (length b) (drop 1 ws)
    → length b + 1 ≡ length ws
    → b ≡ drop 1 ws
full b ws e len = e ∙ take_all (length b) (drop 1 ws) (omega (arith, length-drop 1 ws, len))
