use Rattle.ground_tests.proofs.Triples.{three_sorted}
use Rattle.ground_tests.proofs.orders.batch.Goals as goal

pub returns-clause-sorted : goal.returns-clause-sorted
returns-clause-sorted g c =
    let one = c.write.ensures in
    let two = c.write-2.ensures in
    let three = c.write-3.ensures in
    three_sorted c.write.result c.write-2.result c.write-3.result c.args.first c.args.last one.0 one.1 two.0 two.1 three.0 c.requires
