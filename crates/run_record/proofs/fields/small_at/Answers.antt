use Rattle.run_record.proofs.FrontLemmas.{number_at-next}
use Rattle.run_record.proofs.fields.small_at.Goals as goal

pub returns-in-Some-clause-number : goal.returns-in-Some-clause-number
returns-in-Some-clause-number c = number_at-next c.args.rest.now c.in-Some.after.now c.args.most c.in-Some.number c.in-Some.ensures.next
