use Rattle.std.proofs.Common.{refl, length}
use Rattle.weight_ledger.proofs.Places.{part_alone, lessened_alone, lessened_by_none}
use Rattle.weight_ledger.proofs.cell.Cell.cut_amount.Goals as goal

pub cut-requires-clause-part : goal.cut-requires-clause-part
cut-requires-clause-part g c =
    rw (c.requires.part.0, c.requires.part.1) (part_alone c.args.tally.now c.args.self.now.shared c.args.place c.args.amount c.requires.place c.requires.amount)

pub returns-clause-left : goal.returns-clause-left
returns-clause-left g c =
    let t = c.args.tally.now in
    rw (c.cut.ensures.left, c.requires.part.0, c.requires.part.1, lessened_alone t.amounts (length t.amounts) c.args.place c.args.amount refl, lessened_by_none t.owns) refl

pub returns-clause-gone : goal.returns-clause-gone
returns-clause-gone g c = rw (c.cut.ensures.gone, c.requires.part.0, c.requires.part.1) refl
