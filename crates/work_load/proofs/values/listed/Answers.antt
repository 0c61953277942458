use Rattle.work_load.proofs.ValueLemmas.{listed-items}
use Rattle.work_load.proofs.values.listed.Goals as goal

pub returns-in-Some : goal.returns-in-Some
returns-in-Some c = rw c.as_slice.ensures.value (listed-items _ _ c.in-Some.ensures)
