use Rattle.run_record.specs.Lists.{parts_of}
use Rattle.run_record.proofs.PartLemmas.{some_parts, more_than_three}
use Rattle.run_record.proofs.lists.three_parts.Goals as goal

pub returns-in-Some : goal.returns-in-Some
returns-in-Some c =
    let one = rw c.in_ok-rest.was at c.next_part.ensures in
    let two = rw c.in_ok-rest-2.was at c.next_part-2.ensures in
    let three = rw c.in-Some.is at c.next_part-3.ensures in
    more_than_three (parts_of c.args.token.now) (parts_of c.in_ok-rest.field-0.now) (parts_of c.in_ok-rest-2.field-0.now) (parts_of c.in-Some.field-0.now) _ _ _
    one two three (some_parts c.in-Some.field-0.now)
