use Rattle.link_faults.proofs.Runs.{counted, puts-after}
use Rattle.link_faults.proofs.laws.counts_add_up.Goals as goal

pub returns-clause-add_up : goal.returns-clause-add_up
returns-clause-add_up g c = λ plan events. (counted plan events).add_up

pub returns-clause-few : goal.returns-clause-few
returns-clause-few g c = λ plan events. (counted plan events).few

pub returns-clause-puts : goal.returns-clause-puts
returns-clause-puts g c = puts-after
