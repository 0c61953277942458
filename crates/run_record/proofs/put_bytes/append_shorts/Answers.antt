use Rattle.std.proofs.Common.{rules}
use Rattle.run_model.proofs.TextLemmas.{begins_grown, always_err}
use Rattle.run_record.proofs.put_bytes.append_shorts.Goals as goal

pub returns-in_err-append_short-clause-err : goal.returns-in_err-append_short-clause-err
returns-in_err-append_short-clause-err c = search (rules, begins_grown, always_err)
