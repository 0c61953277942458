use Rattle.std.proofs.Common.{◌∙◌}
use Rattle.tact_top.proofs.CommandWords.{table_is}
use Rattle.tact_top.proofs.words.named.Goals as goal

pub returns : goal.returns
returns c = c.found.ensures ∙ table_is c.args.word.now
