use Rattle.std.proofs.Common.{arith}
use Rattle.run_history.proofs.Cutting.{notes}
use Rattle.run_history.proofs.steps.note_as.Goals as goal

pub split_seat-requires : goal.split_seat-requires
split_seat-requires c = (
  c.requires.table.0,
  omega (arith, c.requires.table.1),
  notes c.args.table.now.shared.key c.args.seat.now.id c.args.seat.now.me.0,
)
