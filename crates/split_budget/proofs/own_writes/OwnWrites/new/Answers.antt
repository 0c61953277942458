use Rattle.std.proofs.Common.{refl}
use Rattle.split_budget.proofs.own_writes.OwnWrites.new.Goals as goal

pub returns : goal.returns
returns c = rw (c.new.ensures, c.in_ok-vec.ensures.items_if_clones_equal (λ y same. same)) refl
