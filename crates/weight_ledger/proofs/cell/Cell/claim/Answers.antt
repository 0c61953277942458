use Rattle.std.proofs.Common.{[], arith, rules}
use Rattle.weight_ledger.specs.Keeping.{founder}
use Rattle.weight_ledger.proofs.Locking.{sits, claims}
use Rattle.weight_ledger.proofs.cell.Cell.claim.Goals as goal

pub load_new_seat-seat-requires : goal.load_new_seat-seat-requires
load_new_seat-seat-requires g c =
    let t = c.self.inside.table.shared in
    let name = g.T.Counted.label t.key.first.value in
    (omega (arith, c.self.invariant.1), sits g.T.Counted.label g.T.Counted.totals name t.key.shared t.key.owned t.table_id.slots (founder name t.key.shared t.key.owned, []))

pub compare_exchange-requires : goal.compare_exchange-requires
compare_exchange-requires g c =
    let t = c.self.inside.table.shared in
    let name = g.T.Counted.label t.key.first.value in
    (search rules, omega (arith, c.self.invariant.1), claims g.T.Counted.label g.T.Counted.totals name t.key.shared t.key.owned _ _ _ (search rules))
