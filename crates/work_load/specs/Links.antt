-- The links of a workload: what each inbox loses, doubles and turns.
use Rattle.std.specs.Prelude.{ℕ, ◌-◌, ◌==◌, find, List, [], ◌∷◌, map, Ok, Err, Option, Some, None, if◌then◌else◌}
use Rattle.std.specs.List.{list_any, range_with_len}
use Rattle.link_faults.specs.Plans.{no_faults}
use Rattle.link_faults.specs.declared.plan.LinkPlan.{LinkPlan}
use Rattle.run_model.specs.declared.status.LoadKind.TheVariants.{Shape, Twice}
use Rattle.serde_json.specs.Data.{Data}
use Rattle.work_load.specs.Values.{Reading, ◌>>=◌, both, natural, listed}
use Rattle.work_load.specs.declared.links.Link.{Link}
use Rattle.work_load.specs.declared.links.TheConstants.{EVERY_MAX}

-- `[TO, LOSE, DOUBLE, TURN]`
abbrev pub link_by : ℕ → List Data → Reading Link
link_by replicas (to ∷ lose ∷ double ∷ turn ∷ []) = do
  numbers ← both (both (natural 0 (replicas - 1) to) (natural 0 EVERY_MAX lose)) (both (natural 0 EVERY_MAX double) (natural 0 EVERY_MAX turn))
  Ok (record { to = numbers.0.0; plan = record { lose = numbers.0.1; double = numbers.1.0; turn = numbers.1.1 } })
link_by replicas other = Err Shape

unfoldable pub link : ℕ → Data → Reading Link
link replicas value = do
  fields ← listed value
  link_by replicas fields

-- a link after those before it, which lead to other inboxes
unfoldable pub link_after : ℕ → List Link → Data → Reading Link
link_after replicas before value = do
  next ← link replicas value
  if list_any (λ link. link.to == next.to) before then Err Twice else Ok next

-- The plan of an inbox. Where no link says it, nothing is lost, doubled or turned.
abbrev pub plan_by : Option Link → LinkPlan
plan_by (Some link) = link.plan
plan_by None = no_faults

abbrev pub plans_of : ℕ → List Link → List LinkPlan
plans_of replicas links = map (λ to. plan_by (find (λ link. link.to == to) links)) (range_with_len 0 replicas)
