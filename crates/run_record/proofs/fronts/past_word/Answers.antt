use Rattle.std.proofs.Common.{rules, arith}
use Rattle.std.proofs.lemmas.List.{take_rest, take_more_same}
use Rattle.run_record.proofs.TokensInFront.{past_word_is}
use Rattle.run_record.proofs.fronts.past_word.Goals as goal

pub loop-place-preserved : goal.loop-place-preserved
loop-place-preserved c =
    take_more_same c.args.rest.now c.args.word.now c.loop-place.place 0 (omega arith) (omega arith) c.loop-place.invariant (search rules)

pub returns-clause-past : goal.returns-clause-past
returns-clause-past c =
    rw take_rest (past_word_is c.args.rest.now c.args.word.now c.loop-place.place (omega arith) (omega arith) c.loop-place.invariant (search rules))
