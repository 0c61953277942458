use Rattle.weight_ledger.proofs.Places.{all_moved, others_left}
use Rattle.weight_ledger.proofs.cell.Cell.split_own.Goals as goal

pub returns-clause-moved : goal.returns-clause-moved
returns-clause-moved g c = rw (c.cut_places.ensures.left, c.cut_places.ensures.gone) (all_moved c.args.tally.now c.args.places.now)

pub returns-clause-others : goal.returns-clause-others
returns-clause-others g c = λ p h. rw (c.cut_places.ensures.left, c.cut_places.ensures.gone) (others_left c.args.tally.now c.args.places.now p h)
