use Rattle.std.proofs.Common.{rules}
use Rattle.weight_ledger.proofs.Locking.{gives_back}
use Rattle.weight_ledger.proofs.held.Held.end.Goals as goal

pub swap-requires : goal.swap-requires
swap-requires g c =
    let key = c.cell.inside.table.shared.key in (
      search rules,
      search rules,
      gives_back g.T.Counted.label g.T.Counted.totals (g.T.Counted.label key.first.value) key.shared key.owned _ _ _ c.args.value
          (search rules) (search rules) (search rules) (search rules) (search rules),
    )
