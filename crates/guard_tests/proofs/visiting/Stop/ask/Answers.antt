use Rattle.guard_tests.proofs.visiting.Stop.ask.Goals as goal

pub visit-requires-clause-in_range : goal.visit-requires-clause-in_range
visit-requires-clause-in_range g c = c.request.ensures.in_range c.args.self.now.replica.core.setup
