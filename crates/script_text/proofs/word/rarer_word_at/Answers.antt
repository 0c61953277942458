use Rattle.std.proofs.Common.{[], ◌∷◌, refl, arith}
use Rattle.run_record.proofs.TokensInFront.{word_is_next}
use Rattle.script_text.proofs.word.rarer_word_at.Goals as goal

pub returns-in-Some-clause-word : goal.returns-in-Some-clause-word
returns-in-Some-clause-word c = record {
  token = 115 ∷ 121 ∷ 110 ∷ 99 ∷ [];
  is = word_is_next c.args.rest.now (115 ∷ 121 ∷ 110 ∷ 99 ∷ []) c.in-Some.after.now c.in-Some.ensures.past (omega arith) (refl, (refl, (refl, (refl, tt))));
  says = refl;
}

pub returns-in-Some-past_word-clause-word : goal.returns-in-Some-past_word-clause-word
returns-in-Some-past_word-clause-word c = record {
  token = 97 ∷ 116 ∷ [];
  is = word_is_next c.args.rest.now (97 ∷ 116 ∷ []) c.in-Some-past_word.after.now c.in-Some-past_word.ensures.past (omega arith) (refl, (refl, tt));
  says = refl;
}

pub returns-in-Some-past_word-2-clause-word : goal.returns-in-Some-past_word-2-clause-word
returns-in-Some-past_word-2-clause-word c = record {
  token = 115 ∷ 104 ∷ 111 ∷ 119 ∷ [];
  is = word_is_next c.args.rest.now (115 ∷ 104 ∷ 111 ∷ 119 ∷ []) c.in-Some-past_word-2.after.now c.in-Some-past_word-2.ensures.past (omega arith) (refl, (refl, (refl, (refl, tt))));
  says = refl;
}

pub returns-in-Some-past_word-3-clause-word : goal.returns-in-Some-past_word-3-clause-word
returns-in-Some-past_word-3-clause-word c = record {
  token = 104 ∷ 101 ∷ 108 ∷ 100 ∷ [];
  is = word_is_next c.args.rest.now (104 ∷ 101 ∷ 108 ∷ 100 ∷ []) c.in-Some-past_word-3.after.now c.in-Some-past_word-3.ensures.past (omega arith) (refl, (refl, (refl, (refl, tt))));
  says = refl;
}

pub returns-in-Some-past_word-4-clause-word : goal.returns-in-Some-past_word-4-clause-word
returns-in-Some-past_word-4-clause-word c = record {
  token = 108 ∷ 101 ∷ 110 ∷ 100 ∷ [];
  is = word_is_next c.args.rest.now (108 ∷ 101 ∷ 110 ∷ 100 ∷ []) c.in-Some-past_word-4.after.now c.in-Some-past_word-4.ensures.past (omega arith) (refl, (refl, (refl, (refl, tt))));
  says = refl;
}

pub returns-in-Some-past_word-5-clause-word : goal.returns-in-Some-past_word-5-clause-word
returns-in-Some-past_word-5-clause-word c = record {
  token = 114 ∷ 101 ∷ 108 ∷ 101 ∷ 97 ∷ 115 ∷ 101 ∷ [];
  is = word_is_next c.args.rest.now (114 ∷ 101 ∷ 108 ∷ 101 ∷ 97 ∷ 115 ∷ 101 ∷ []) c.in-Some-past_word-5.after.now c.in-Some-past_word-5.ensures.past (omega arith) (refl, (refl, (refl, (refl, (refl, (refl, (refl, tt)))))));
  says = refl;
}

pub returns-in-Some-past_word-6-clause-word : goal.returns-in-Some-past_word-6-clause-word
returns-in-Some-past_word-6-clause-word c = record {
  token = 98 ∷ 97 ∷ 99 ∷ 107 ∷ [];
  is = word_is_next c.args.rest.now (98 ∷ 97 ∷ 99 ∷ 107 ∷ []) c.in-Some-past_word-6.after.now c.in-Some-past_word-6.ensures.past (omega arith) (refl, (refl, (refl, (refl, tt))));
  says = refl;
}

pub returns-in-Some-past_word-7-clause-word : goal.returns-in-Some-past_word-7-clause-word
returns-in-Some-past_word-7-clause-word c = record {
  token = 114 ∷ 101 ∷ 115 ∷ 116 ∷ 97 ∷ 114 ∷ 116 ∷ [];
  is = word_is_next c.args.rest.now (114 ∷ 101 ∷ 115 ∷ 116 ∷ 97 ∷ 114 ∷ 116 ∷ []) c.in-Some-past_word-7.after.now c.in-Some-past_word-7.ensures.past (omega arith) (refl, (refl, (refl, (refl, (refl, (refl, (refl, tt)))))));
  says = refl;
}

pub returns-in-Some-past_word-8-clause-word : goal.returns-in-Some-past_word-8-clause-word
returns-in-Some-past_word-8-clause-word c = record {
  token = 114 ∷ 101 ∷ 115 ∷ 101 ∷ 114 ∷ 118 ∷ 101 ∷ [];
  is = word_is_next c.args.rest.now (114 ∷ 101 ∷ 115 ∷ 101 ∷ 114 ∷ 118 ∷ 101 ∷ []) c.in-Some-past_word-8.after.now c.in-Some-past_word-8.ensures.past (omega arith) (refl, (refl, (refl, (refl, (refl, (refl, (refl, tt)))))));
  says = refl;
}

pub returns-in-Some-past_word-9-clause-word : goal.returns-in-Some-past_word-9-clause-word
returns-in-Some-past_word-9-clause-word c = record {
  token = 114 ∷ 101 ∷ 102 ∷ [];
  is = word_is_next c.args.rest.now (114 ∷ 101 ∷ 102 ∷ []) c.in-Some-past_word-9.after.now c.in-Some-past_word-9.ensures.past (omega arith) (refl, (refl, (refl, tt)));
  says = refl;
}
