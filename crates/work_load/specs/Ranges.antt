-- What is within the limits of a workload: its items, clients and bounds.
use Rattle.std.specs.Prelude.{◌≡◌, ◌≢◌, ℕ, ◌<◌, ◌≤◌, false, unsigned_abs, List, All, get_or, length, sum}
use Rattle.std.specs.List.{list_any}
use Rattle.tact_base.specs.declared.conit_list.Weight.{Weight}
use Rattle.tact_base.specs.declared.limits.TheConstants.{ALPHA_MAX, AMOUNT_MAX, CLIENTS, KEY_MAX, WEIGHT_MAX}
use Rattle.run_model.specs.Bytes.{AreWeightsOf, AreNeedsOf}
use Rattle.run_model.specs.Ranges.{IsOpInRange}
use Rattle.work_load.specs.Clients.{is_of}
use Rattle.work_load.specs.declared.bounds.Bound.{Bound}
use Rattle.work_load.specs.declared.plan.Client.{Client}
use Rattle.work_load.specs.declared.plan.Item.{Item}
use Rattle.work_load.specs.declared.plan.Item.TheVariants as item
use Rattle.work_load.specs.declared.plan.TheConstants.{ITEMS_MAX}

-- a weight, where there are so many conits
abbrev pub IsWeightOf : ℕ → Weight → Type 0
IsWeightOf conits weight = (weight.conit < conits) × (unsigned_abs weight.nweight ≤ WEIGHT_MAX) × (weight.oweight ≤ WEIGHT_MAX)

-- an amount on a conit, and one that goes to or from another replica
abbrev pub IsAmountOf : ℕ → ℕ → ℕ → Type 0
IsAmountOf conits conit amount = (conit < conits) × (amount ≤ AMOUNT_MAX)

abbrev pub IsLoanOf : ℕ → ℕ → ℕ → ℕ → ℕ → ℕ → Type 0
IsLoanOf replicas conits replica other conit amount = (other < replicas) × (other ≢ replica) × IsAmountOf conits conit amount

-- an item of a client of a replica
abbrev pub IsItemOf : ℕ → ℕ → ℕ → Item → Type 0
IsItemOf replicas conits replica (item.Write weights op) = AreWeightsOf conits weights × IsOpInRange op
IsItemOf replicas conits replica (item.Held weight op) = IsWeightOf conits weight × IsOpInRange op
IsItemOf replicas conits replica (item.Reserve conit amount) = IsAmountOf conits conit amount
IsItemOf replicas conits replica (item.Release conit) = conit < conits
IsItemOf replicas conits replica (item.Read key needs) = (key ≤ KEY_MAX) × AreNeedsOf conits needs
IsItemOf replicas conits replica (item.Lend holder conit amount) = IsLoanOf replicas conits replica holder conit amount
IsItemOf replicas conits replica (item.Back owner conit amount) = IsLoanOf replicas conits replica owner conit amount
IsItemOf replicas conits replica item.Restart = Unit {0}

-- a client, after others
pub record IsClientAfter (replicas conits : ℕ) (before : List Client) (client : Client) : Type 0 where
  pub replica : client.replica < replicas
  pub number : client.client < CLIENTS
  pub other : list_any (is_of client.replica client.client) before ≡ false
  pub few : length client.items ≤ ITEMS_MAX
  pub items : All (IsItemOf replicas conits client.replica) client.items

-- the alpha of an owner on a conit and its loans there, by holder
pub record IsBoundOf (replicas : ℕ) (bound : Bound) : Type 0 where
  pub holders : length bound.loans ≡ replicas
  pub alpha : bound.alpha ≤ ALPHA_MAX
  pub own : get_or bound.loans bound.owner 0 ≡ 0
  pub total : sum bound.loans ≤ bound.alpha
