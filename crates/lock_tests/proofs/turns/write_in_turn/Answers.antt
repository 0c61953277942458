use Rattle.lock_tests.proofs.turns.write_in_turn.Goals as goal

pub call-answer-requires-clause-in_range : goal.call-answer-requires-clause-in_range
call-answer-requires-clause-in_range g c = c.plain_write.ensures.in_range _
