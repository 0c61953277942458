use Rattle.std.proofs.Common.{refl}
use Rattle.weight_ledger.proofs.Places.{part_picked, lessened_picked}
use Rattle.weight_ledger.proofs.cell.Cell.cut_places.Goals as goal

pub cut-requires-clause-part : goal.cut-requires-clause-part
cut-requires-clause-part g c = rw (c.requires.part.0, c.requires.part.1) (part_picked c.args.tally.now c.args.self.now.shared c.args.places.now)

pub returns-clause-left : goal.returns-clause-left
returns-clause-left g c =
    let t = c.args.tally.now in
    rw (c.cut.ensures.left, c.requires.part.0, c.requires.part.1, lessened_picked c.args.places.now t.amounts, lessened_picked c.args.places.now t.owns) refl
