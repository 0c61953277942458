-- A short list that is held in place, with blanks behind its items: they are got back from the items.
use Rattle.std.proofs.Common.{◌≡◌, ℕ, ◌-◌, ◌≤◌, List, ◌++◌, length, take, drop, replicate, take-append-drop, length-take-le, sym, ap, ◌∙◌, arith}

pub len_back : {T : Type 0} (most : ℕ) (items : List T) (len : ℕ)
    → len ≤ most
    → length items ≡ most
    → length (take len items) ≡ len
len_back most items len few all = length-take-le len items (omega (arith, few, all))

-- The items of a short list and the blanks behind them, got back from the items.
pub items_back : {T : Type 0} (most : ℕ) (blank : T) (items : List T) (len : ℕ)
    → len ≤ most
    → length items ≡ most
    → drop len items ≡ replicate (most - len) blank
    → take len items ++ replicate (most - length (take len items)) blank ≡ items
items_back {T = T} most blank items len few all blanks =
    let long = len_back most items len few all in
    rw long (ap (λ (l : List T). take len items ++ l) (sym blanks) ∙ take-append-drop len items)
