use Rattle.tact_base.specs.WriteOrder.{in_order}
use Rattle.tact_base.proofs.CommitLemmas.{All-committed_to, All-tentative_past, committed_to-tentative_past, committed_to-in_order, committed_to_prefix_in_order}
use Rattle.tact_base.proofs.OrderLemmas.{IsSorted-in_order}
use Rattle.tact_base.proofs.laws.committed_is_a_front.Goals as goal

pub returns-clause-upto : goal.returns-clause-upto
returns-clause-upto c = All-committed_to

pub returns-clause-past : goal.returns-clause-past
returns-clause-past c = All-tentative_past

pub returns-clause-front : goal.returns-clause-front
returns-clause-front c = λ point writes. committed_to-tentative_past point (in_order writes) (IsSorted-in_order writes)

pub returns-clause-grows : goal.returns-clause-grows
returns-clause-grows c = committed_to_prefix_in_order

pub returns-clause-alone : goal.returns-clause-alone
returns-clause-alone c = committed_to-in_order
