use Rattle.std.proofs.Common.{arith}
use Rattle.std.proofs.lemmas.List.{take_rest}
use Rattle.run_record.proofs.PartLemmas.{first_part, only_part}
use Rattle.run_record.proofs.lists.next_part.Goals as goal

pub returns-then-place-token : goal.returns-then-place-token
returns-then-place-token c =
    let found = c.place_of-place.ensures in
    rw take_rest (first_part c.args.token.now c.place_of-place.result c.if-place-token.true found.before (found.found c.if-place-token.true))

pub returns-else-place-token : goal.returns-else-place-token
returns-else-place-token c =
    only_part c.args.token.now (λ j within. c.place_of-place.ensures.before j (omega (arith, within, c.if-place-token.false)))
