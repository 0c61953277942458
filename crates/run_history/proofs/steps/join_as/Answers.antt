use Rattle.std.proofs.Common.{arith}
use Rattle.run_history.proofs.Joining.{joins}
use Rattle.run_history.proofs.steps.join_as.Goals as goal

pub join_seat-requires : goal.join_seat-requires
join_seat-requires c = (
  c.requires.table.0,
  c.requires.other.0,
  c.requires.other.1,
  omega (arith, c.requires.table.1),
  joins c.args.table.now.shared.key c.args.seat.now.id c.args.seat.now.me.0 c.args.other.id c.args.other.me.0,
)
