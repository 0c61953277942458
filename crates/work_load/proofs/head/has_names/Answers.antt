use Rattle.std.proofs.Common.{ap, ◌∙◌}
use Rattle.work_load.specs.Workloads.{has_names}
use Rattle.work_load.proofs.Texts.{has_names-members}
use Rattle.work_load.proofs.head.has_names.Goals as goal

pub returns-in-Some : goal.returns-in-Some
returns-in-Some c = c.are_names.ensures ∙ has_names-members c.in-Some.members.now.entries ∙ ap has_names c.in-Some.ensures
