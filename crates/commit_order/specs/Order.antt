-- The writes that a replica has seen, in order, up to which stamp they are committed, and how many of these are given
-- up.
use Rattle.std.specs.Prelude.{◌≡◌, ℕ, ◌+◌, ◌<◌, ◌≤◌, ◌^◌, List, ◌++◌, All, length}
use Rattle.std.specs.List.Sorted.{IsStrictlySortedBy}
use Rattle.tact_base.specs.WriteOrder.{write_cmp, committed_to}
use Rattle.tact_base.specs.declared.write.Write.{Write}

-- All writes, the first of which, so many, aren't held any more; the last point; and how many more writes can surely be
-- put in without taking memory.
pub record OrderState : Type 0 where
  pub writes : List Write
  pub dropped : ℕ
  pub point : ℕ
  pub room : ℕ

-- What is kept of the writes that aren't held and of those that are: together they are in order, and few enough to be
-- counted; the first are all committed, and so many of the others, of which so many at the front were given up too.
pub record KeepsOrder (gone held : List Write) (dropped front count point : ℕ) : Type 0 where
  pub sorted : IsStrictlySortedBy write_cmp (gone ++ held)
  pub many : length gone ≡ dropped
  pub past : All (λ (write : Write). write.stamp ≤ point) gone
  pub committed : count ≡ length (committed_to point held)
  pub given_up : front ≤ count
  pub counted : dropped + length held < 2 ^ 64
