use Rattle.std.proofs.Common.{rules}
use Rattle.weight_ledger.proofs.Locking.{reads}
use Rattle.weight_ledger.proofs.cell.Cell.read_all.Goals as goal

pub load-requires : goal.load-requires
load-requires g c =
    let t = c.self.inside.table.shared in (
      search rules,
      search rules,
      reads g.T.Counted.label g.T.Counted.totals (g.T.Counted.label t.key.first.value) t.key.shared t.key.owned _ _ _ _
          (search rules) (search rules) (search rules),
    )
