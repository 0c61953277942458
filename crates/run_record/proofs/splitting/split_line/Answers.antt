use Rattle.std.proofs.lemmas.List.{take_rest}
use Rattle.run_record.proofs.SplitLemmas.{first_line, only_line}
use Rattle.run_record.proofs.splitting.split_line.Goals as goal

pub returns-in-Some-clause-pieces : goal.returns-in-Some-clause-pieces
returns-in-Some-clause-pieces c some =
    rw take_rest (first_line c.args.text.now c.in-Some.place some c.in-Some.ensures.0 c.in-Some.ensures.1)

pub returns-in-None-clause-pieces : goal.returns-in-None-clause-pieces
returns-in-None-clause-pieces c some = only_line c.args.text.now some c.in-None.ensures
