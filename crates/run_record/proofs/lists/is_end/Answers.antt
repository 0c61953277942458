use Rattle.std.proofs.Common.{arith, refl, sym}
use Rattle.run_record.proofs.FrontLemmas.{first_begins_item}
use Rattle.run_record.proofs.SplitLemmas.{tokens_none}
use Rattle.run_record.proofs.lists.is_end.Goals as goal

pub returns-in-len1-up : goal.returns-in-len1-up
returns-in-len1-up c = sym (first_begins_item c.args.end c.args.rest.now c.in-len1-up.len_at_least c.if-first-ne32.true c.if-first-ne61.true)

pub returns-in-empty : goal.returns-in-empty
returns-in-empty c = rw (tokens_none c.args.rest.now (omega (arith, c.in-empty.len_below))) refl
