use Rattle.std.proofs.Common.{sym, subst}
use Rattle.run_history.specs.Closing.{AreAllThere}
use Rattle.node_tests.proofs.Closing.{two_there}
use Rattle.node_tests.proofs.opened.closed.Goals as goal

pub close-requires-clause-whole : goal.close-requires-clause-whole
close-requires-clause-whole g c =
    subst (AreAllThere c.args.desk.setup.replicas) (sym c.in-Ok.ensures.items) (two_there c.args.desk.setup.replicas c.args.first c.args.second c.requires.replicas c.requires.first.1 c.requires.second.1)
