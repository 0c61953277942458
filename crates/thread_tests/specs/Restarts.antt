-- Clerks that draw restarts, the first at the moment 0, the next at 1, and so on.
use Rattle.std.specs.Prelude.{◌≡◌, ℕ, ◌<◌, List, map, length, slice_index_or}
use Rattle.std.specs.List.{range_with_len}
use Rattle.run_model.specs.declared.entry.Act.TheVariants as act
use Rattle.run_model.specs.declared.entry.Entry.{Entry}
use Rattle.run_history.specs.Seats.{ClerkView, DeskView}
use Rattle.run_history.specs.Ticks.{entries_of}

abbrev pub restart : ℕ → ℕ → Entry
restart replica moment = record { replica = replica; moment = moment; act = act.Restart }

-- a clerk of a desk that drew so many restarts and nothing else
pub record HasRestarts (desk : DeskView) (count : ℕ) (clerk : ClerkView) : Type 0 where
  pub table : clerk.table ≡ desk.table
  pub replica : clerk.replica < desk.setup.replicas
  pub drawn : entries_of clerk.pairs ≡ map (restart clerk.replica) (range_with_len 0 count)

-- the clerk of each replica in its place, and no other
pub record AreInPlace (desk : DeskView) (clerks : List ClerkView) : Type 0 where
  pub size : length clerks ≡ desk.setup.replicas
  pub each : (i : ℕ) (d : ClerkView) → i < length clerks
      → ((slice_index_or clerks i d).table ≡ desk.table) × ((slice_index_or clerks i d).replica ≡ i)
