use Rattle.std.proofs.Common.{rules}
use Rattle.run_model.proofs.TextLemmas.{begins_grown, always_err}
use Rattle.run_record.proofs.printing.put_each.Goals as goal

pub returns-in_err-put_number-clause-err : goal.returns-in_err-put_number-clause-err
returns-in_err-put_number-clause-err c = search (rules, begins_grown, always_err)
