use Rattle.std.proofs.Common.{arith, ◌+◌}
use Rattle.std.proofs.lemmas.List.{take_rest, take_all, drop_all}
use Rattle.run_record.proofs.SplitLemmas.{first_piece}
use Rattle.run_record.proofs.splitting.split_first.Goals as goal

pub returns-then-place-bytes-clause-pieces : goal.returns-then-place-bytes-clause-pieces
returns-then-place-bytes-clause-pieces c some =
    let found = c.place_of-place.ensures in
    rw take_rest (first_piece c.args.separator c.args.bytes.now c.place_of-place.result some found.within found.before found.found)

pub returns-else-place-bytes-clause-pieces : goal.returns-else-place-bytes-clause-pieces
returns-else-place-bytes-clause-pieces c some =
    let found = c.place_of-place.ensures in
    let all = take_all c.place_of-place.result c.args.bytes.now c.if-place-bytes.false in
    let none = drop_all (c.place_of-place.result + 1) c.args.bytes.now (omega arith) in
    rw (all, none) at (first_piece c.args.separator c.args.bytes.now c.place_of-place.result some found.within found.before found.found)
