use Rattle.std.proofs.Common.{arith}
use Rattle.run_history.proofs.Looking.{looks}
use Rattle.run_history.proofs.steps.look_as.Goals as goal

pub load-requires : goal.load-requires
load-requires g c = (
  c.requires.table.0,
  omega (arith, c.requires.table.1),
  rw (← c.requires.told) (looks g.T.Told.setup c.args.table.now.shared.table_id.slots c.args.seat.now.id c.args.seat.now.me),
)
