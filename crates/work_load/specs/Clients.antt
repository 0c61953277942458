-- The clients of a workload.
use Rattle.std.specs.Prelude.{ℕ, ◌-◌, ◌==◌, ◌&&◌, Bool, nat_lt, List, [], ◌∷◌, length, Ok, Err, if◌then◌else◌}
use Rattle.std.specs.List.{list_any}
use Rattle.tact_base.specs.declared.limits.TheConstants.{CLIENTS}
use Rattle.run_model.specs.declared.status.LoadKind.TheVariants.{Shape, Twice}
use Rattle.serde_json.specs.Data.{Data}
use Rattle.work_load.specs.Values.{Reading, ◌>>=◌, both, natural, listed}
use Rattle.work_load.specs.Entries.{unplaced, entries}
use Rattle.work_load.specs.ItemForms.{item_of}
use Rattle.work_load.specs.declared.plan.Client.{Client}
use Rattle.work_load.specs.declared.plan.Item.{Item}
use Rattle.work_load.specs.declared.plan.TheConstants.{ITEMS_MAX}

-- how many items there are in a list of at most 1,000
unfoldable pub item_count : Data → Reading ℕ
item_count value = do
  values ← listed value
  if nat_lt ITEMS_MAX (length values) then Err Shape else Ok (length values)

-- the items of a client, each read by itself
unfoldable pub items_of : ℕ → ℕ → ℕ → Data → Reading (List Item)
items_of replicas conits replica value = do
  values ← listed value
  unplaced (entries 0 (λ before. item_of replicas conits replica) values)

-- whether a client is that of a replica under a number
abbrev pub is_of : ℕ → ℕ → Client → Bool
is_of replica number client = client.replica == replica && client.client == number

-- `[REPLICA, CLIENT, [ITEMS]]` after the clients before it, which are others
abbrev pub client_by : ℕ → ℕ → List Client → List Data → Reading Client
client_by replicas conits before (replica ∷ client ∷ items ∷ []) = do
  head ← both (both (natural 0 (replicas - 1) replica) (natural 0 (CLIENTS - 1) client)) (item_count items)
  if list_any (is_of head.0.0 head.0.1) before then Err Twice else do
    list ← items_of replicas conits head.0.0 items
    Ok (record { replica = head.0.0; client = head.0.1; items = list })
client_by replicas conits before other = Err Shape

unfoldable pub client_after : ℕ → ℕ → List Client → Data → Reading Client
client_after replicas conits before value = do
  fields ← listed value
  client_by replicas conits before fields
