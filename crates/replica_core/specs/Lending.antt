-- What a replica lends of its bound and gives back of its share, and why it doesn't.
use Rattle.std.specs.Prelude.{◌≡◌, true, false, ℕ, ◌+◌, ◌<◌, ◌≤◌, List, slice_set}
use Rattle.tact_base.specs.Setup.{place_of}
use Rattle.run_model.specs.Loans.{home, free}
use Rattle.run_model.specs.declared.entry.Entry.{Entry}
use Rattle.split_budget.specs.Budgets.{lent_to, returned_to, home as home_told, free as free_told}
use Rattle.replica_core.specs.States.{Core, is_full}
use Rattle.replica_core.specs.Stands.{Stands}
use Rattle.replica_core.specs.declared.fault.LoanFault.{LoanFault}
use Rattle.replica_core.specs.declared.fault.LoanFault.TheVariants as fault

-- a number is what its budgets tell to be at home on a conit, and what is at home after each part that it stands for
abbrev pub IsHome : Core → ℕ → ℕ → Type 0
IsHome core conit number =
    (number ≡ home_told core.budgets conit) × ((part : List Entry) → Stands part core → number ≡ home core.setup core.replica part conit)

-- so for what is free of its share of an owner's bound
abbrev pub IsFree : Core → ℕ → ℕ → ℕ → Type 0
IsFree core owner conit number =
    (number ≡ free_told core.budgets owner conit) × ((part : List Entry) → Stands part core → number ≡ free core.setup core.replica part owner conit)

-- full, with both numbers
abbrev pub IsFull : Core → ℕ → ℕ → Type 0
IsFull core count clock = (is_full core ≡ true) × (count ≡ core.counts.count) × (clock ≡ core.writes.clock)

-- what a refusal to lend an amount on a conit says: full, or what is at home, which is less
abbrev pub IsLendFault : Core → ℕ → ℕ → LoanFault → Type 0
IsLendFault core conit amount (fault.Full count clock) = IsFull core count clock
IsLendFault core conit amount (fault.Home at home) = (is_full core ≡ false) × (at ≡ conit) × (home < amount) × IsHome core conit home
IsLendFault core conit amount (fault.Free at free) = ⊥

-- what a refusal to give an amount back to an owner says: full, or what is free, which is less
abbrev pub IsReturnFault : Core → ℕ → ℕ → ℕ → LoanFault → Type 0
IsReturnFault core owner conit amount (fault.Full count clock) = IsFull core count clock
IsReturnFault core owner conit amount (fault.Home at home) = ⊥
IsReturnFault core owner conit amount (fault.Free at free) = (is_full core ≡ false) × (at ≡ conit) × (free < amount) × IsFree core owner conit free

-- it may lend the amount: it isn't full, and so much is at home, as its budgets tell and after each part that it stands
-- for
abbrev pub MayLend : Core → ℕ → ℕ → Type 0
MayLend core conit amount =
    (is_full core ≡ false) × (amount ≤ home_told core.budgets conit) × ((part : List Entry) → Stands part core → amount ≤ home core.setup core.replica part conit)

-- it may give the amount back: it isn't full, and so much is free
abbrev pub MayReturn : Core → ℕ → ℕ → ℕ → Type 0
MayReturn core owner conit amount =
    (is_full core ≡ false) × (amount ≤ free_told core.budgets owner conit) × ((part : List Entry) → Stands part core → amount ≤ free core.setup core.replica part owner conit)

-- with so much more lent to a holder on a conit
abbrev pub with_lent : Core → ℕ → ℕ → ℕ → Core
with_lent core holder conit amount = record core {
  budgets = record core.budgets { lent = slice_set core.budgets.lent (place_of core.budgets.setup holder conit) (lent_to core.budgets holder conit + amount) };
}

-- with so much more given back to an owner on a conit
abbrev pub with_returned : Core → ℕ → ℕ → ℕ → Core
with_returned core owner conit amount = record core {
  budgets = record core.budgets { returned = slice_set core.budgets.returned (place_of core.budgets.setup owner conit) (returned_to core.budgets owner conit + amount) };
}
