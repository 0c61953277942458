use Rattle.std.proofs.Common.{rules}
use Rattle.weight_ledger.proofs.Sharing.{joins, comes_off}
use Rattle.weight_ledger.proofs.Changing.{agrees}
use Rattle.weight_ledger.proofs.held.Held.agree.Goals as goal

pub join_seat-requires : goal.join_seat-requires
join_seat-requires g c =
    let key = c.cell.inside.table.shared.key in
    (search rules, search rules, search rules, search rules, joins g.T.Counted.label g.T.Counted.totals (g.T.Counted.label key.first.value) key.shared key.owned _ _ _ _ (search rules))

pub load-requires : goal.load-requires
load-requires g c =
    let key = c.cell.inside.table.shared.key in
    (search rules, search rules, agrees g.T.Counted.label g.T.Counted.totals (g.T.Counted.label key.first.value) key.shared key.owned _ _ _ (search rules))

pub split_seat-requires : goal.split_seat-requires
split_seat-requires g c =
    let key = c.cell.inside.table.shared.key in
    (search rules, search rules, comes_off g.T.Counted.label g.T.Counted.totals (g.T.Counted.label key.first.value) key.shared key.owned _ _)
