use Rattle.std.proofs.Common.{◌+◌, ◌*◌, ◌≤◌, length, arith}
use Rattle.std.proofs.lemmas.Nat.{mul-le}
use Rattle.tact_base.proofs.SetupLemmas.{HasCounts-from_IsSetup, place_in, row_in, places_are_few}
use Rattle.split_budget.specs.Budgets.{setup_of}
use Rattle.split_budget.proofs.opening.loan.Goals as goal
use Rattle.split_budget.proofs.opening.loan.Goals.{After-row_known-1}

-- the row's end is within the loans
within : (c : After-row_known-1)
    → c.place_of-row.result * c.args.config.now.replicas + c.args.config.now.replicas ≤ length c.args.config.now.loans
within c =
    let s = setup_of c.args.config.now in
    rw c.place_of-row.ensures (row_in s (HasCounts-from_IsSetup s c.requires.sound.setup) _ (place_in s c.args.owner c.args.conit c.requires.owner c.requires.conit))

-- and there are few of them
few : (c : After-row_known-1) → length c.args.config.now.loans ≤ 1024
few c =
    let s = setup_of c.args.config.now in
    let counts = HasCounts-from_IsSetup s c.requires.sound.setup in
    rw counts.loans (mul-le (s.replicas * s.conits) s.replicas 128 8 (places_are_few s counts) counts.replicas_high)

pub overflow_mul-result : goal.overflow_mul-result
overflow_mul-result c = omega (arith, within c, few c)

pub overflow_add-result : goal.overflow_add-result
overflow_add-result c = omega (arith, within c, few c)

pub offset_bounds-items-row : goal.offset_bounds-items-row
offset_bounds-items-row c = omega (arith, within c, few c)

pub bounds-items-row : goal.bounds-items-row
bounds-items-row c = rw c.items.ensures (omega (arith, within (goal.at.bounds-items-row c).After-row_known-1))
