use Rattle.std.proofs.Common.{rules, arith}
use Rattle.std.proofs.lemmas.List.{take_rest}
use Rattle.run_record.proofs.TokensInFront.{digit_next, digit_last}
use Rattle.run_record.proofs.fronts.digit_in_front.Goals as goal

pub returns-in-32-clause-next : goal.returns-in-32-clause-next
returns-in-32-clause-next c =
    rw take_rest (digit_next c.args.bytes.now c.args.most c.from-in-32.result (omega arith) (search rules) (search rules) c.from-in-32.ensures (search rules))

pub returns-in-len1-clause-next : goal.returns-in-len1-clause-next
returns-in-len1-clause-next c =
    digit_last c.args.bytes.now c.args.most c.from-in-len1.result (omega arith) (search rules) c.from-in-len1.ensures (search rules)
