use Rattle.std.proofs.lemmas.List.{length-take-le}
use Rattle.run_record.proofs.lists.sums_at.Goals as goal

pub returns-clause-few : goal.returns-clause-few
returns-clause-few c =
    let within = c.in_ok-count.ensures.within in
    rw (c.new.ensures, length-take-le c.in_ok-count.count c.fill.new.items within) (rw c.fill.auto.items at within)

pub returns-clause-sums : goal.returns-clause-sums
returns-clause-sums c = rw c.new.ensures c.in_ok-count.ensures.read
