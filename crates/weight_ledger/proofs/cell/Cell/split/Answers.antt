use Rattle.std.proofs.Common.{length, get_or-set_other}
use Rattle.weight_ledger.proofs.Places.{alone_here, alone_else, written}
use Rattle.weight_ledger.proofs.cell.Cell.split.Goals as goal

pub returns-clause-moved : goal.returns-clause-moved
returns-clause-moved g c =
    let t = c.args.tally.now in
    rw (c.cut_amount.ensures.left, c.cut_amount.ensures.gone)
    (alone_here t.amounts c.args.place c.args.amount c.requires.amount, written t.amounts c.args.place c.args.amount c.requires.amount)

pub returns-clause-others : goal.returns-clause-others
returns-clause-others g c = λ p ne.
    let t = c.args.tally.now in
    rw (c.cut_amount.ensures.left, c.cut_amount.ensures.gone)
    (alone_else (length t.amounts) c.args.place p c.args.amount ne, get_or-set_other t.amounts c.args.place p _ 0 ne)
