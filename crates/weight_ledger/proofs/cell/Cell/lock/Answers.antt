use Rattle.std.proofs.Common.{◌∷◌, ◌∙◌, ap, sym, Some, arith, rules}
use Rattle.atomic_table.specs.Table.{rest}
use Rattle.weight_ledger.proofs.Locking.{goes_out}
use Rattle.weight_ledger.proofs.cell.Cell.lock.Goals as goal

pub swap-requires : goal.swap-requires
swap-requires g c =
    let t = c.self.inside.table.shared in (
      search rules,
      omega (arith, c.self.invariant.1),
      goes_out g.T.Counted.label g.T.Counted.totals (g.T.Counted.label t.key.first.value) t.key.shared t.key.owned _ _ _
          (search rules) (search rules) (search rules),
    )

pub exchange-found-requires : goal.exchange-found-requires
exchange-found-requires g c =
    let t = c.swap.ensures.2 in
    let e = ap (λ m. m.1) t.1 in
    (search rules, (Some t.0, e ∙ ap (λ l. (0, Some t.0) ∷ rest l) (sym e)))
