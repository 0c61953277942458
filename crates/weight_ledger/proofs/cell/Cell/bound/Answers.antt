use Rattle.std.proofs.Common.{rules}
use Rattle.weight_ledger.proofs.Changing.{bounds}
use Rattle.weight_ledger.proofs.cell.Cell.bound.Goals as goal

pub load-requires : goal.load-requires
load-requires g c =
    let key = c.self.inside.table.shared.key in
    (search rules, search rules, bounds g.T.Counted.label g.T.Counted.totals (g.T.Counted.label key.first.value) key.shared key.owned _ _ c.args.place _)
