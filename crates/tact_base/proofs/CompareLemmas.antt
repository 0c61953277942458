-- `write_cmp` is a total order, and writes that tie are alike in stamp, origin and index.
use Rattle.std.proofs.Common.{◌≡◌, ℕ, ◌<◌, ◌≤◌, ◌⊎◌, Bool, true, false, Ordering, Less, Equal, Greater, nat_cmp, is_lt, refl, sym, ap, ◌∙◌, inl, inr, ⊎_elim}
use Rattle.std.specs.Cmp.{IsTotalOrder, IsStrictWeakOrder}
use Rattle.std.specs.Ordering.{MatchOrdering, ordering_then, ordering_reverse}
use Rattle.std.proofs.lemmas.Bool.{cases_lt, false≢true, lt-ltb}
use Rattle.std.proofs.lemmas.Cmp.{nat_cmp_total, on_total, then_total, ranked, tied_itself}
use Rattle.std.proofs.lemmas.List.Sorted.{ranks_by}
use Rattle.tact_base.specs.WriteOrder.{write_cmp, comes_before}
use Rattle.tact_base.specs.declared.write.Write.{Write}

-- two writes have one place in the order
pub record AreTied (a b : Write) : Type 0 where
  pub stamp : a.stamp ≡ b.stamp
  pub origin : a.origin ≡ b.origin
  pub index : a.index ≡ b.index

-- two writes differ in origin or index
abbrev pub AreApart : Write → Write → Type 0
AreApart a b = a.origin ≡ b.origin → a.index ≡ b.index → ⊥

-- the order is total
pub write_total : IsTotalOrder write_cmp
write_total =
    then_total (on_total (λ write. write.stamp) nat_cmp_total)
    (then_total (on_total (λ write. write.origin) nat_cmp_total) (on_total (λ write. write.index) nat_cmp_total))

-- and so is its test
pub before_order : IsStrictWeakOrder comes_before
before_order = ranks_by write_total (λ write. write)

-- numbers that tie are equal
nat_tied : (m n : ℕ) → nat_cmp m n ≡ Equal → m ≡ n
nat_tied m n tie = let ranks : MatchOrdering Equal (m < n) (m ≡ n) (n < m) = ranked m n Equal (sym tie) in ranks

-- a tie of two answers
then_tied : (o p : Ordering) → ordering_then o p ≡ Equal → (o ≡ Equal) × (p ≡ Equal)
then_tied Less p tie = cc
then_tied Equal p tie = (refl, tie)
then_tied Greater p tie = cc

-- writes that tie are alike
pub write_tied : (a b : Write) → write_cmp a b ≡ Equal → AreTied a b
write_tied a b tie =
    let first = then_tied (nat_cmp a.stamp b.stamp) (ordering_then (nat_cmp a.origin b.origin) (nat_cmp a.index b.index)) tie in
    let second = then_tied (nat_cmp a.origin b.origin) (nat_cmp a.index b.index) first.1 in
    record { stamp = nat_tied a.stamp b.stamp first.0; origin = nat_tied a.origin b.origin second.0; index = nat_tied a.index b.index second.1 }

-- Two writes.
module _ (a b : Write) where
  -- one comes before the other, or they tie
  pub before_cases : (comes_before a b ≡ true) ⊎ ((comes_before b a ≡ true) ⊎ AreTied a b)
  before_cases = go (write_cmp a b) refl
    where
      go : (o : Ordering)
          → write_cmp a b ≡ o
          → (is_lt o ≡ true) ⊎ ((comes_before b a ≡ true) ⊎ AreTied a b)
      go Less is = inl refl
      go Equal is = inr (inr (write_tied a b is))
      go Greater is = inr (inl (ap is_lt (write_total.antisymm b a ∙ ap ordering_reverse is)))

  -- where they are apart, one comes before the other
  pub before_cases_apart : AreApart a b → (comes_before a b ≡ true) ⊎ (comes_before b a ≡ true)
  before_cases_apart apart =
      ⊎_elim (λ h. inl h) (⊎_elim (λ h. inr h) (λ (tied : AreTied a b). absurd (apart tied.origin tied.index))) before_cases

  -- they don't come before each other
  pub before_one_way : comes_before a b ≡ true → comes_before b a ≡ false
  before_one_way = before_order.one_way a b

  -- what doesn't come before has no lower stamp
  pub stamp-le_not_before : comes_before b a ≡ false → a.stamp ≤ b.stamp
  stamp-le_not_before later =
      ⊎_elim (λ (lower : b.stamp < a.stamp). absurd (false≢true (sym later ∙ rw (lt-ltb b.stamp a.stamp lower)))) (λ h. h) (cases_lt b.stamp a.stamp)

-- what it is to come before, by the order's answer
pub less_from_before : (a b : Write) → comes_before a b ≡ true → write_cmp a b ≡ Less
less_from_before a b before = go (write_cmp a b) before
  where
    go : (o : Ordering) → is_lt o ≡ true → o ≡ Less
    go Less h = refl
    go Equal h = absurd (false≢true h)
    go Greater h = absurd (false≢true h)

-- no write comes before itself
pub before_itself : (a : Write) → comes_before a a ≡ false
before_itself a = ap is_lt (tied_itself write_total a)

-- what comes before the second comes before what doesn't come before the second
pub before_upto : (a b c : Write)
    → comes_before a b ≡ true
    → comes_before c b ≡ false
    → comes_before a c ≡ true
before_upto a b c first later = go (comes_before a c) refl
  where
    go : (is : Bool) → comes_before a c ≡ is → is ≡ true
    go true h = refl
    go false h = absurd (false≢true (sym (before_order.chain a c b h later) ∙ first))

-- the order is transitive
pub before_trans : (a b c : Write)
    → comes_before a b ≡ true
    → comes_before b c ≡ true
    → comes_before a c ≡ true
before_trans a b c first later = before_upto a b c first (before_one_way b c later)

-- and so is its other side
pub not_before_trans : (a b c : Write)
    → comes_before b a ≡ false
    → comes_before c b ≡ false
    → comes_before c a ≡ false
not_before_trans a b c first later = before_order.chain c b a later first
