-- The plan by which a link loses, doubles and turns what is put into an inbox (this project's own rule).
use Rattle.std.specs.Prelude.{ℕ, ◌+◌, ◌%◌, Bool, ◌==◌, not, ◌&&◌, nat_le, if◌then◌else◌}
use Rattle.link_faults.specs.declared.plan.TheConstants.{INBOX_MAX}
use Rattle.link_faults.specs.declared.plan.LinkPlan.{LinkPlan}
use Rattle.link_faults.specs.declared.plan.Fate.{Fate}
use Rattle.link_faults.specs.declared.plan.Fate.TheVariants.{Lost, LostFull, Doubled, Queued}

-- whether a field of the plan names the put of this number: it divides the number; 0 names none
abbrev pub names : ℕ → ℕ → Bool
names every number = not (every == 0) && number % every == 0

-- the plan that names no put
abbrev pub no_faults : LinkPlan
no_faults = record { lose = 0; double = 0; turn = 0 }

-- the fate of a put, by its number and how many items wait
abbrev pub fate_of : LinkPlan → ℕ → ℕ → Fate
fate_of plan number waiting =
    if names plan.lose number then Lost
    else if nat_le INBOX_MAX waiting then LostFull
    else if names plan.double number && nat_le (waiting + 2) INBOX_MAX then Doubled
    else Queued

-- how many items a fate adds to those that wait
abbrev pub items_added : Fate → ℕ
items_added Lost = 0
items_added LostFull = 0
items_added Doubled = 2
items_added Queued = 1
