use Rattle.std.proofs.Common.{refl}
use Rattle.run_model.proofs.entry.MessageClone.clone.Goals as goal

pub returns : goal.returns
returns c =
    record { cases = rw (c.in_ok-copied.ensures, c.in_ok-copied-2.ensures, c.in_ok-copied-3.ensures, c.in_ok-clone.ensures.cases, c.in_ok-copied-4.ensures, c.in_ok-copied-5.ensures) refl }
