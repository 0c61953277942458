-- The operations, weights and needs of a workload.
use Rattle.std.specs.Prelude.{ℕ, bytes_eq, ◌-◌, is_some, List, [], ◌∷◌, codes, length, nat_lt, true, Ok, Err, Option, Some, None, if◌then◌else◌}
use Rattle.tact_base.specs.ConitList.{first_unordered}
use Rattle.tact_base.specs.declared.conit_list.Need.{Need}
use Rattle.tact_base.specs.declared.conit_list.Weight.{Weight}
use Rattle.tact_base.specs.declared.limits.TheConstants.{AMOUNT_MAX, KEY_MAX, LIST_MAX, MOMENT_MAX, VALUE_MAX, WEIGHT_MAX}
use Rattle.tact_base.specs.declared.write.Op.{Op}
use Rattle.tact_base.specs.declared.write.Op.TheVariants.{Put, Add, Shift}
use Rattle.run_model.specs.declared.status.LoadKind.TheVariants.{Shape, Unordered}
use Rattle.serde_json.specs.Data.{Data}
use Rattle.serde_json.specs.Find.{as_str}
use Rattle.work_load.specs.Values.{Reading, ◌>>=◌, both, all_of, natural, signed, listed}

-- the name that a list begins with, and what follows it
abbrev pub named_by : Option (List ℕ) → List Data → Reading (List ℕ × List Data)
named_by (Some name) fields = Ok (name, fields)
named_by None fields = Err Shape

abbrev pub named_from : List Data → Reading (List ℕ × List Data)
named_from [] = Err Shape
named_from (name ∷ fields) = named_by (as_str name) fields

unfoldable pub named : Data → Reading (List ℕ × List Data)
named value = do
  parts ← listed value
  named_from parts

-- `["put", KEY, VALUE]`, `["add", KEY, DELTA]`, `["shift", FROM, TO, AMOUNT]`
abbrev pub put : List Data → Reading Op
put (key ∷ value ∷ []) = do
  numbers ← both (natural 0 KEY_MAX key) (signed VALUE_MAX value)
  Ok (Put numbers.0 numbers.1)
put other = Err Shape

abbrev pub add : List Data → Reading Op
add (key ∷ delta ∷ []) = do
  numbers ← both (natural 0 KEY_MAX key) (signed VALUE_MAX delta)
  Ok (Add numbers.0 numbers.1)
add other = Err Shape

abbrev pub shift : List Data → Reading Op
shift (from ∷ to ∷ amount ∷ []) = do
  numbers ← both (natural 0 KEY_MAX from) (both (natural 0 KEY_MAX to) (natural 0 VALUE_MAX amount))
  Ok (Shift numbers.0 numbers.1.0 numbers.1.1)
shift other = Err Shape

abbrev pub op_named : List ℕ → List Data → Reading Op
op_named name fields =
    if bytes_eq name (codes "put") then put fields
    else if bytes_eq name (codes "add") then add fields
    else if bytes_eq name (codes "shift") then shift fields
    else Err Shape

unfoldable pub op : Data → Reading Op
op value = do
  parts ← named value
  op_named parts.0 parts.1

-- `[CONIT, NWEIGHT, OWEIGHT]`
abbrev pub weight_by : ℕ → List Data → Reading Weight
weight_by conits (conit ∷ nweight ∷ oweight ∷ []) = do
  numbers ← both (natural 0 (conits - 1) conit) (both (signed WEIGHT_MAX nweight) (natural 0 WEIGHT_MAX oweight))
  Ok (record { conit = numbers.0; nweight = numbers.1.0; oweight = numbers.1.1 })
weight_by conits other = Err Shape

unfoldable pub weight : ℕ → Data → Reading Weight
weight conits value = do
  fields ← listed value
  weight_by conits fields

-- `[CONIT, NUM, ORDER, STALE]`
abbrev pub need_by : ℕ → List Data → Reading Need
need_by conits (conit ∷ num ∷ order ∷ stale ∷ []) = do
  numbers ← both (both (natural 0 (conits - 1) conit) (natural 0 AMOUNT_MAX num)) (both (natural 0 AMOUNT_MAX order) (natural 0 MOMENT_MAX stale))
  Ok (record { conit = numbers.0.0; num = numbers.0.1; order = numbers.1.0; stale = numbers.1.1 })
need_by conits other = Err Shape

unfoldable pub need : ℕ → Data → Reading Need
need conits value = do
  fields ← listed value
  need_by conits fields

-- at most four, with rising conits
abbrev pub rising : {A : Type 0} → (A → ℕ) → List A → Reading (List A)
rising conit items = if is_some (first_unordered conit (λ _. true) items) then Err Unordered else Ok items

unfoldable pub rows : {A : Type 0} → (A → ℕ) → (Data → Reading A) → Data → Reading (List A)
rows conit read value = do
  values ← listed value
  items ← if nat_lt LIST_MAX (length values) then Err Shape else all_of read values
  rising conit items

abbrev pub weights : ℕ → Data → Reading (List Weight)
weights conits value = rows (λ weight. weight.conit) (weight conits) value

abbrev pub needs : ℕ → Data → Reading (List Need)
needs conits value = rows (λ need. need.conit) (need conits) value
