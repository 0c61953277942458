use Rattle.node_tests.proofs.lone_client.LoneClient.write.Goals as goal

pub ask-requires-clause-in_range : goal.ask-requires-clause-in_range
ask-requires-clause-in_range g c = c.plain_write.ensures.in_range _
