use Rattle.std.proofs.Common.{[], ◌∷◌, refl, arith}
use Rattle.run_record.specs.Fields.{token_at, op_at}
use Rattle.run_record.proofs.TokensInFront.{word_is_next}
use Rattle.run_record.proofs.fields.op_at.Goals as goal

pub returns-in-Some-clause-op : goal.returns-in-Some-clause-op
unfolding op_at token_at
returns-in-Some-clause-op c =
    rw (word_is_next c.args.rest.now (112 ∷ 117 ∷ 116 ∷ []) c.in-Some.after.now c.in-Some.ensures.past (omega arith) (refl, (refl, (refl, tt)))) c.put_at.ensures.op

pub returns-in-Some-past_word-clause-op : goal.returns-in-Some-past_word-clause-op
unfolding op_at token_at
returns-in-Some-past_word-clause-op c =
    rw (word_is_next c.args.rest.now (97 ∷ 100 ∷ 100 ∷ []) c.in-Some-past_word.after.now c.in-Some-past_word.ensures.past (omega arith) (refl, (refl, (refl, tt)))) c.add_at.ensures.op

pub returns-in-Some-past_word-2-clause-op : goal.returns-in-Some-past_word-2-clause-op
unfolding op_at token_at
returns-in-Some-past_word-2-clause-op c =
    rw (word_is_next c.args.rest.now (115 ∷ 104 ∷ 105 ∷ 102 ∷ 116 ∷ []) c.in-Some-past_word-2.after.now c.in-Some-past_word-2.ensures.past (omega arith) (refl, (refl, (refl, (refl, (refl, tt)))))) c.shift_at.ensures.op
