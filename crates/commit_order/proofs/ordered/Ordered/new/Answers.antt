use Rattle.std.proofs.Common.{◌≤◌, refl, arith}
use Rattle.std.proofs.lemmas.List.Elements.{All-nil}
use Rattle.std.specs.List.Sorted.{IsStrictlySortedBy}
use Rattle.tact_base.specs.declared.write.Write.{Write}
use Rattle.commit_order.proofs.ordered.Ordered.new.Goals as goal

pub invariant_of-result : goal.invariant_of-result
unfolding IsStrictlySortedBy
invariant_of-result c =
    rw (c.new.ensures, c.new-2.ensures) (record { sorted = tt; many = refl; past = All-nil (λ (write : Write). write.stamp ≤ 0); committed = refl; given_up = omega arith; counted = omega arith })
