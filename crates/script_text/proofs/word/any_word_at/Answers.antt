use Rattle.std.proofs.Common.{sym}
use Rattle.run_record.proofs.TokensInFront.{token_at-ok}
use Rattle.script_text.proofs.word.any_word_at.Goals as goal

pub returns-clause-word : goal.returns-clause-word
returns-clause-word c = record {
  token = c.in_ok-token.token.now;
  is = token_at-ok _ _ c.in_ok-token.ensures;
  says = sym c.word_of.ensures;
}
