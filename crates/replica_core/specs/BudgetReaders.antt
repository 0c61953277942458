-- What the budgets of a replica give, of a part that it stands for.
use Rattle.std.specs.Prelude.{◌≡◌, ℕ, ◌<◌, List}
use Rattle.tact_base.specs.Setup.{Setup}
use Rattle.run_model.specs.Loans as model
use Rattle.run_model.specs.Missing as missing
use Rattle.run_model.specs.declared.entry.Entry.{Entry}
use Rattle.split_budget.specs.Budgets.{BudgetState, reserved_on, share, out, home, free, missing_plus, missing_minus}
use Rattle.replica_core.specs.Stands.{AreByPeer}

-- On each conit it is what the definitions say of the part: of each peer its share, what it may miss of either sign, what
-- is out at it, and what of the share is free; what is reserved, and what is at home.
pub record GivesPart (setup : Setup) (replica : ℕ) (part : List Entry) (budgets : BudgetState) : Type 0 where
  pub share : AreByPeer setup replica (share budgets) (model.share setup replica part)
  pub plus : AreByPeer setup replica (missing_plus budgets) (missing.missing_plus replica part)
  pub minus : AreByPeer setup replica (missing_minus budgets) (missing.missing_minus replica part)
  pub out : AreByPeer setup replica (out budgets) (model.out setup replica part)
  pub free : AreByPeer setup replica (free budgets) (model.free setup replica part)
  pub reserved : (conit : ℕ) → conit < setup.conits → reserved_on budgets conit ≡ missing.reserved part conit
  pub home : (conit : ℕ) → conit < setup.conits → home budgets conit ≡ model.home setup replica part conit
