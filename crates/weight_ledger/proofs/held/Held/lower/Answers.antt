use Rattle.std.proofs.Common.{rules}
use Rattle.weight_ledger.proofs.Sharing.{joins, comes_off}
use Rattle.weight_ledger.proofs.Changing.{lowers}
use Rattle.weight_ledger.proofs.held.Held.lower.Goals as goal

pub join_seat-requires : goal.join_seat-requires
join_seat-requires g c =
    let key = c.cell.inside.table.shared.key in
    (search rules, search rules, search rules, search rules, joins g.T.Counted.label g.T.Counted.totals (g.T.Counted.label key.first.value) key.shared key.owned _ _ _ _ (search rules))

pub fetch_sub-requires : goal.fetch_sub-requires
fetch_sub-requires g c =
    let key = c.cell.inside.table.shared.key in (
      search rules,
      search rules,
      lowers g.T.Counted.label g.T.Counted.totals (g.T.Counted.label key.first.value)
          key.shared key.owned _ _ c.args.place c.args.amount _ (search rules) (search rules) (search rules) (search rules) (search rules),
    )

pub split_seat-requires : goal.split_seat-requires
split_seat-requires g c =
    let key = c.cell.inside.table.shared.key in
    (search rules, search rules, comes_off g.T.Counted.label g.T.Counted.totals (g.T.Counted.label key.first.value) key.shared key.owned _ _)
