use Rattle.std.proofs.Common.{◌≡◌, arith, refl}
use Rattle.run_history.specs.Steps.{nothing_known}
use Rattle.run_history.proofs.Cutting.{comes}
use Rattle.run_history.proofs.steps.come_as.Goals as goal

pub load_new_seat-seat-requires : goal.load_new_seat-seat-requires
load_new_seat-seat-requires c = (
  omega (arith, c.requires),
  comes c.args.table.now.shared.key c.args.table.now.shared.table_id.slots (λ found view. view ≡ nothing_known) (λ found. refl),
)
