use Rattle.lock_tests.proofs.two_nodes.visit.Goals as goal

pub call-requires-clause-in_range : goal.call-requires-clause-in_range
call-requires-clause-in_range g c = c.plain_write.ensures.in_range _

pub call-requires-2-clause-in_range : goal.call-requires-2-clause-in_range
call-requires-2-clause-in_range g c = c.plain_read.ensures.in_range _
