use Rattle.rollback_apply.proofs.layers.Layers.reserve.Goals as goal

pub returns-in_err-take_memory-clause-kept : goal.returns-in_err-take_memory-clause-kept
returns-in_err-take_memory-clause-kept c count has = c.take_memory-2.ensures.kept count (c.take_memory.ensures.kept count has)

pub returns-clause-kept : goal.returns-clause-kept
returns-clause-kept c count has = c.take_memory-2.ensures.kept count (c.take_memory.ensures.kept count has)
