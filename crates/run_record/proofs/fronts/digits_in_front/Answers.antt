use Rattle.std.proofs.lemmas.List.{take_rest}
use Rattle.run_record.proofs.FrontLemmas.{read_begins}
use Rattle.run_record.proofs.fronts.digits_in_front.Goals as goal

pub returns-clause-begins : goal.returns-clause-begins
returns-clause-begins c =
    rw take_rest (read_begins c.args.bytes.now c.args.most c.in_ok-value.value c.in_ok-value.count c.in_ok-value.ensures c.if-value-most.false)
