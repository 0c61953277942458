use Rattle.std.proofs.Common.{subst}
use Rattle.run_model.specs.Histories.{part_of}
use Rattle.replica_core.specs.Stands.{Stands}
use Rattle.replica_network.specs.Networks.{NetworkState}
use Rattle.replica_network.proofs.network.Network.at.Goals as goal

pub returns-clause-stands : goal.returns-clause-stands
returns-clause-stands c =
    subst (λ (s : NetworkState). Stands (part_of s.entries c.args.replica) c.at.result.now.core) c.self.view_is
    (c.self.invariant.stands.parts c.args.replica c.at.result.now.core c.at.ensures)
