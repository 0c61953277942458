use Rattle.std.proofs.Common.{refl}
use Rattle.split_budget.proofs.Openings.{KeepsBudgets-opening}
use Rattle.split_budget.proofs.budgets.Budgets.new.Goals as goal

pub invariant_of-result : goal.invariant_of-result
invariant_of-result c =
    rw (
      c.in_ok-copy.ensures,
      c.in_ok-new.ensures,
      c.in_ok-vec.ensures.items_if_clones_equal (λ y same. same),
      c.in_ok-lent.ensures,
      c.in_ok-lent_known.ensures,
      c.in_ok-vec-2.ensures.items_if_clones_equal (λ y same. same),
      c.in_ok-vec-3.ensures.items_if_clones_equal (λ y same. same),
    )
    (record { keeps = KeepsBudgets-opening _ c.requires.setup c.args.config.now.replica c.requires.replica _; replica = refl; conits = refl })
