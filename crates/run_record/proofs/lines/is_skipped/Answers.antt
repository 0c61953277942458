use Rattle.std.proofs.Common.{rules, tests, sym, arith}
use Rattle.run_record.proofs.SplitLemmas.{is_skipped-first}
use Rattle.run_record.proofs.lines.is_skipped.Goals as goal

pub returns-in-len1-up : goal.returns-in-len1-up
returns-in-len1-up c = sym (is_skipped-first c.args.raw.now (omega (arith, c.in-len1-up.len_at_least)) (search (rules, tests)))
