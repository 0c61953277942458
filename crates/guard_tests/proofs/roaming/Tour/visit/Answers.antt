use Rattle.std.proofs.Common.{◌<◌, arith}
use Rattle.guard_tests.proofs.roaming.Tour.visit.Goals as goal

pub step-requires-clause-may : goal.step-requires-clause-may
step-requires-clause-may g c =
    let tour = c.args.self.now in
    let pass : 0 < tour.roam.passes = omega arith in
    let replica : c.args.replica < tour.roam.setup.replicas = omega arith in
    (pass, replica, c.request.ensures.in_range tour.roam.setup, c.request.ensures.kind)
