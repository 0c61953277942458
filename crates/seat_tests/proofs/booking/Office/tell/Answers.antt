use Rattle.std.proofs.Common.{ap, arith}
use Rattle.tact_base.specs.Setup.{Setup}
use Rattle.seat_app.proofs.SameSetup.{network_of-setup}
use Rattle.seat_tests.proofs.booking.Office.tell.Goals as goal

pub step-requires-clause-may : goal.step-requires-clause-may
step-requires-clause-may g c =
    let replicas = ap (λ (s : Setup). s.replicas) (network_of-setup c.args.self.now.booking) in
    (omega (arith, replicas), omega (arith, replicas), λ same. absurd (omega (arith, same)))
