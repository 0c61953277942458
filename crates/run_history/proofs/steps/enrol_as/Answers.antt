use Rattle.std.proofs.Common.{◌∙◌, arith}
use Rattle.run_history.proofs.Enrolling.{enrols}
use Rattle.run_history.proofs.Cutting.{hands}
use Rattle.run_history.proofs.steps.enrol_as.Goals as goal

pub fetch_add-requires : goal.fetch_add-requires
fetch_add-requires c = (
  c.requires.table.0,
  omega (arith, c.requires.table.1),
  enrols c.args.table.now.shared.key c.args.table.now.shared.table_id.slots c.args.seat.now.id c.args.seat.now.me
      c.requires.opener.0 c.requires.opener.1 c.requires.room,
)

pub split_seat-requires : goal.split_seat-requires
split_seat-requires c = (
  c.fetch_add.ensures.0 ∙ c.requires.table.0,
  omega (arith, c.requires.table.1),
  hands c.args.table.now.shared.key c.fetch_add.new.seat.id c.fetch_add.new.seat.me.0,
)
