use Rattle.std.proofs.Common.{arith}
use Rattle.tact_base.proofs.SetupLemmas.{HasCounts-from_IsSetup}
use Rattle.run_work.proofs.site.Sites.count.Goals as goal

pub overflow_cast-result : goal.overflow_cast-result
overflow_cast-result g c =
    let sites = c.self.invariant.1 in
    let counts = HasCounts-from_IsSetup c.self.inside.desk.now.setup sites.sound in
    omega (arith, c.len.ensures, sites.nodes_are, counts.replicas_high)

pub returns-clause-few : goal.returns-clause-few
returns-clause-few g c =
    let sites = c.self.invariant.1 in
    let counts = HasCounts-from_IsSetup c.self.inside.desk.now.setup sites.sound in
    omega (arith, c.len.ensures, sites.nodes_are, counts.replicas_high)
