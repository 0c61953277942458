use Rattle.run_history.proofs.Standing.{drawn_once, ticks_below, parts_stand, one_part, history_stands}
use Rattle.run_history.proofs.laws.rule_of_history.Goals as goal

pub returns-clause-ticks : goal.returns-clause-ticks
returns-clause-ticks c = drawn_once

pub returns-clause-no_other : goal.returns-clause-no_other
returns-clause-no_other c = ticks_below

pub returns-clause-parts : goal.returns-clause-parts
returns-clause-parts c = parts_stand

pub returns-clause-replicas : goal.returns-clause-replicas
returns-clause-replicas c = one_part

pub returns-clause-history : goal.returns-clause-history
returns-clause-history c setup words views kept = (kept.history, history_stands setup words views kept)
