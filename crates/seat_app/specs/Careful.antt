-- Careful histories: each replica accepts only as many places more, or fewer, as leaves room whatever its peers may have
-- accepted unseen (this project's own rule).
use Rattle.std.specs.Prelude.{ℕ, ℤ, pos, ◌+ℤ◌, ◌-ℤ◌, ◌<ℤ◌, ◌≤ℤ◌, List, All, map}
use Rattle.std.specs.Option.{option_to_list}
use Rattle.tact_base.specs.Setup.{Setup}
use Rattle.tact_base.specs.Sums.{weights_on}
use Rattle.run_model.specs.Histories.{EachAfter, IsPrefix, part_of}
use Rattle.run_model.specs.Order.{value}
use Rattle.run_model.specs.OwnWrites.{accepted_by}
use Rattle.run_model.specs.Reference.{reference}
use Rattle.run_model.specs.declared.entry.Entry.{Entry}
use Rattle.seat_app.specs.Seats.{SeatsState, out_of}

-- the nweights that an entry has on a conit, where it accepts a write
abbrev pub nweights_by : ℕ → Entry → List ℤ
nweights_by conit entry =
    map (λ weight. weight.nweight) (weights_on (option_to_list (accepted_by entry.replica entry.moment entry.act)) conit)

-- An nweight leaves room after a part of a replica: one above 0 keeps within the capacity, with all that is out; one below
-- it takes no more than was sold, without all that is out.
pub record LeavesRoom (setup : Setup) (seats : SeatsState) (replica : ℕ) (part : List Entry) (nweight : ℤ) : Type 0 where
  pub above : pos 0 <ℤ nweight
      → (value setup replica part seats.conit +ℤ pos (out_of setup replica part seats.conit) +ℤ nweight) ≤ℤ pos seats.capacity
  pub below : nweight <ℤ pos 0
      → pos 0 ≤ℤ (value setup replica part seats.conit -ℤ pos (out_of setup replica part seats.conit) +ℤ nweight)

-- an entry after the part of its replica
abbrev pub IsCarefulEntry : Setup → SeatsState → List Entry → Entry → Type 0
IsCarefulEntry setup seats part entry = All (LeavesRoom setup seats entry.replica part) (nweights_by seats.conit entry)

-- careful: each entry is
abbrev pub IsCareful : Setup → SeatsState → List Entry → Type 0
IsCareful setup seats history = EachAfter (λ before entry. IsCarefulEntry setup seats (part_of before entry.replica) entry) history

-- of all accepted writes no more places are sold than there are, and no fewer than none
pub record IsWithinCapacity (setup : Setup) (seats : SeatsState) (history : List Entry) : Type 0 where
  pub least : pos 0 ≤ℤ reference setup history seats.conit
  pub most : reference setup history seats.conit ≤ℤ pos seats.capacity

-- at every point
abbrev pub IsNeverOversold : Setup → SeatsState → List Entry → Type 0
IsNeverOversold setup seats history = (prefix : List Entry) → IsPrefix prefix history → IsWithinCapacity setup seats prefix
