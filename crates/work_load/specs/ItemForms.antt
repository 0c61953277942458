-- The items of a client: what it asks of its replica, one after the other.
use Rattle.std.specs.Prelude.{ℕ, bytes_eq, ◌-◌, ◌==◌, List, [], ◌∷◌, codes, Ok, Err, if◌then◌else◌}
use Rattle.tact_base.specs.declared.limits.TheConstants.{AMOUNT_MAX, KEY_MAX}
use Rattle.run_model.specs.declared.status.LoadKind.TheVariants.{Shape, Same}
use Rattle.serde_json.specs.Data.{Data}
use Rattle.work_load.specs.Values.{Reading, ◌>>=◌, both, natural}
use Rattle.work_load.specs.Forms.{named, op, weight, weights, needs}
use Rattle.work_load.specs.declared.plan.Item.{Item}
use Rattle.work_load.specs.declared.plan.Item.TheVariants as item

-- `["write", OP, [WEIGHTS]]`, `["held", OP, WEIGHT]`
abbrev pub write : ℕ → List Data → Reading Item
write conits (op_value ∷ weights_value ∷ []) = do
  parts ← both (op op_value) (weights conits weights_value)
  Ok (item.Write parts.1 parts.0)
write conits other = Err Shape

abbrev pub held : ℕ → List Data → Reading Item
held conits (op_value ∷ weight_value ∷ []) = do
  parts ← both (op op_value) (weight conits weight_value)
  Ok (item.Held parts.1 parts.0)
held conits other = Err Shape

-- `["reserve", CONIT, AMOUNT]`, `["release", CONIT]`
abbrev pub reserve : ℕ → List Data → Reading Item
reserve conits (conit ∷ amount ∷ []) = do
  numbers ← both (natural 0 (conits - 1) conit) (natural 0 AMOUNT_MAX amount)
  Ok (item.Reserve numbers.0 numbers.1)
reserve conits other = Err Shape

abbrev pub release : ℕ → List Data → Reading Item
release conits (conit ∷ []) = do
  number ← natural 0 (conits - 1) conit
  Ok (item.Release number)
release conits other = Err Shape

-- `["read", KEY, [NEEDS]]`
abbrev pub read : ℕ → List Data → Reading Item
read conits (key ∷ needs_value ∷ []) = do
  parts ← both (natural 0 KEY_MAX key) (needs conits needs_value)
  Ok (item.Read parts.0 parts.1)
read conits other = Err Shape

-- another replica, a conit and an amount
abbrev pub loan : ℕ → ℕ → ℕ → List Data → Reading (ℕ × (ℕ × ℕ))
loan replicas conits replica (other ∷ conit ∷ amount ∷ []) = do
  numbers ← both (natural 0 (replicas - 1) other) (both (natural 0 (conits - 1) conit) (natural 0 AMOUNT_MAX amount))
  if numbers.0 == replica then Err Same else Ok numbers
loan replicas conits replica fields = Err Shape

-- `["lend", HOLDER, CONIT, AMOUNT]`, `["back", OWNER, CONIT, AMOUNT]`
unfoldable pub lend : ℕ → ℕ → ℕ → List Data → Reading Item
lend replicas conits replica fields = do
  numbers ← loan replicas conits replica fields
  Ok (item.Lend numbers.0 numbers.1.0 numbers.1.1)

unfoldable pub back : ℕ → ℕ → ℕ → List Data → Reading Item
back replicas conits replica fields = do
  numbers ← loan replicas conits replica fields
  Ok (item.Back numbers.0 numbers.1.0 numbers.1.1)

-- `["restart"]`
abbrev pub restart : List Data → Reading Item
restart [] = Ok item.Restart
restart other = Err Shape

-- an item of a client of this replica
abbrev pub item_named : ℕ → ℕ → ℕ → List ℕ → List Data → Reading Item
item_named replicas conits replica name fields =
    if bytes_eq name (codes "write") then write conits fields
    else if bytes_eq name (codes "held") then held conits fields
    else if bytes_eq name (codes "reserve") then reserve conits fields
    else if bytes_eq name (codes "release") then release conits fields
    else if bytes_eq name (codes "read") then read conits fields
    else if bytes_eq name (codes "lend") then lend replicas conits replica fields
    else if bytes_eq name (codes "back") then back replicas conits replica fields
    else if bytes_eq name (codes "restart") then restart fields
    else Err Shape

unfoldable pub item_of : ℕ → ℕ → ℕ → Data → Reading Item
item_of replicas conits replica value = do
  parts ← named value
  item_named replicas conits replica parts.0 parts.1
