use Rattle.std.proofs.Common.{arith}
use Rattle.run_model.proofs.OriginWrites.{iff_trans}
use Rattle.replica_core.proofs.Taken.{Fits-part, FitsAt-part}
use Rattle.replica_core.proofs.replica.Replica.fits.Goals as goal

pub returns-then-is_addressed-clause-of_part : goal.returns-then-is_addressed-clause-of_part
returns-then-is_addressed-clause-of_part c part stands =
    let core = c.args.self.now.core in
    let message = c.args.message.now in
    iff_trans c.fits_kept.ensures (
      λ fits. Fits-part part core stands (omega (arith, fits.in_range.to, fits.addressed)) message fits,
      λ fits. FitsAt-part part core stands (omega (arith, fits.in_range.to, fits.addressed)) message fits,
    )
