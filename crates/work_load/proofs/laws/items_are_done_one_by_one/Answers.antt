use Rattle.std.proofs.Common.{refl}
use Rattle.work_load.proofs.AttemptLemmas.{attempts-push, Begun-from_Attempts}
use Rattle.work_load.proofs.laws.items_are_done_one_by_one.Goals as goal

pub returns-clause-none : goal.returns-clause-none
returns-clause-none c = λ tries. refl

pub returns-clause-more : goal.returns-clause-more
returns-clause-more c = attempts-push

pub returns-clause-begun : goal.returns-clause-begun
returns-clause-begun c = Begun-from_Attempts
