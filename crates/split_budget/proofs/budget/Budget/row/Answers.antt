use Rattle.split_budget.proofs.Places.{row_at}
use Rattle.split_budget.specs.Budgets.{setup_of}
use Rattle.split_budget.proofs.budget.Budget.row.Goals as goal

-- src/budget.rt:31:5
pub returns : goal.returns
returns c = row_at (setup_of c.args.self.now) c.args.numbers.now c.args.replica c.place_of-first.result c.requires.sized c.requires.replica c.place_of-first.ensures
