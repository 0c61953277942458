use Rattle.std.proofs.Common.{◌≡◌, map, eqb}
use Rattle.std.specs.Prelude.{find}
use Rattle.std.specs.List.{range_with_len}
use Rattle.work_load.specs.Links.{plan_by}
use Rattle.work_load.proofs.links.plans_of.Given as goal

abbrev pub invariant-loop-to : goal.invariant-loop-to
invariant-loop-to l = l.plans ≡ map (λ to. plan_by (find (λ link. eqb link.to to) l.links)) (range_with_len 0 l.to)
