use Rattle.std.proofs.Common.{arith}
use Rattle.run_history.proofs.Drawing.{draws_due}
use Rattle.run_history.proofs.steps.draw_as.Goals as goal

pub fetch_add-requires : goal.fetch_add-requires
fetch_add-requires g c = (
  c.requires.table.0,
  omega (arith, c.requires.table.1),
  rw (← c.requires.told.0, c.requires.told.1)
      (draws_due g.T.Told.setup c.args.entry.now c.args.table.now.shared.table_id.slots c.args.seat.now.id c.args.seat.now.me c.requires.clerk c.requires.due c.requires.sent),
)
