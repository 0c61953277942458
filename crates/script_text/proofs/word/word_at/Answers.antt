use Rattle.std.proofs.Common.{[], ◌∷◌, refl, arith}
use Rattle.run_record.proofs.TokensInFront.{word_is_next}
use Rattle.script_text.proofs.word.word_at.Goals as goal

pub returns-in-Some-clause-word : goal.returns-in-Some-clause-word
returns-in-Some-clause-word c = record {
  token = 119 ∷ 114 ∷ 105 ∷ 116 ∷ 101 ∷ [];
  is = word_is_next c.args.rest.now (119 ∷ 114 ∷ 105 ∷ 116 ∷ 101 ∷ []) c.in-Some.after.now c.in-Some.ensures.past (omega arith) (refl, (refl, (refl, (refl, (refl, tt)))));
  says = refl;
}

pub returns-in-Some-past_word-clause-word : goal.returns-in-Some-past_word-clause-word
returns-in-Some-past_word-clause-word c = record {
  token = 114 ∷ 101 ∷ 97 ∷ 100 ∷ [];
  is = word_is_next c.args.rest.now (114 ∷ 101 ∷ 97 ∷ 100 ∷ []) c.in-Some-past_word.after.now c.in-Some-past_word.ensures.past (omega arith) (refl, (refl, (refl, (refl, tt))));
  says = refl;
}

pub returns-in-Some-past_word-2-clause-word : goal.returns-in-Some-past_word-2-clause-word
returns-in-Some-past_word-2-clause-word c = record {
  token = 115 ∷ 101 ∷ 110 ∷ 100 ∷ [];
  is = word_is_next c.args.rest.now (115 ∷ 101 ∷ 110 ∷ 100 ∷ []) c.in-Some-past_word-2.after.now c.in-Some-past_word-2.ensures.past (omega arith) (refl, (refl, (refl, (refl, tt))));
  says = refl;
}

pub returns-in-Some-past_word-3-clause-word : goal.returns-in-Some-past_word-3-clause-word
returns-in-Some-past_word-3-clause-word c = record {
  token = 116 ∷ 97 ∷ 107 ∷ 101 ∷ [];
  is = word_is_next c.args.rest.now (116 ∷ 97 ∷ 107 ∷ 101 ∷ []) c.in-Some-past_word-3.after.now c.in-Some-past_word-3.ensures.past (omega arith) (refl, (refl, (refl, (refl, tt))));
  says = refl;
}
