-- What a workload is: one JSON object, or its first fault and the place of that.
use Rattle.std.specs.Prelude.{◌≡◌, ◌<◌, ◌≤◌, ℕ, ◌==◌, bytes_eq, Bool, false, not, List, [], ◌∷◌, codes, length, Ok, Err, Option, Some, None, if◌then◌else◌}
use Rattle.std.specs.List.{list_all, list_any}
use Rattle.std.specs.Str.{is_utf8}
use Rattle.link_faults.specs.declared.plan.LinkPlan.{LinkPlan}
use Rattle.tact_base.specs.Setup.{Setup, IsSetup}
use Rattle.tact_base.specs.declared.limits.TheConstants.{REPLICAS_MIN, REPLICAS_MAX, CONITS_MAX}
use Rattle.run_model.specs.declared.status.LoadKind.TheVariants.{NotJson, Shape}
use Rattle.serde_json.specs.Data.{Data, Members, no_members, member}
use Rattle.serde_json.specs.Find.{as_object, get}
use Rattle.serde_json.specs.Read.{read}
use Rattle.work_load.specs.Values.{Reading, ◌>>=◌, natural, listed}
use Rattle.work_load.specs.Entries.{Placed, EachAfter, at, unplaced, entries}
use Rattle.work_load.specs.Bounds.{bound_after, setup_of}
use Rattle.work_load.specs.Links.{link_after, plans_of}
use Rattle.work_load.specs.Clients.{client_after}
use Rattle.work_load.specs.Ranges.{IsClientAfter}
use Rattle.work_load.specs.declared.plan.Client.{Client}
use Rattle.work_load.specs.declared.plan.TheConstants.{SETTLE_MAX}

-- what a run is made for, what each inbox does with what is put, how many rounds settle it, and what its clients ask for
pub record Workload : Type 0 where
  pub setup : Setup
  pub links : List LinkPlan
  pub settle : ℕ
  pub clients : List Client

-- what every workload keeps to
pub record IsWorkload (workload : Workload) : Type 0 where
  pub setup : IsSetup workload.setup
  pub links : length workload.links ≡ workload.setup.replicas
  pub settle : workload.settle ≤ SETTLE_MAX
  pub some : 0 < length workload.clients
  -- no two are of one replica under one number, and their items are in range
  pub clients : EachAfter (IsClientAfter workload.setup.replicas workload.setup.conits) [] workload.clients

-- the names that an object may have
abbrev pub is_name : List ℕ → Bool
is_name name =
    list_any (bytes_eq name) (codes "replicas" ∷ codes "conits" ∷ codes "bounds" ∷ codes "links" ∷ codes "settle" ∷ codes "clients" ∷ [])

abbrev pub names_of : Members → List (List ℕ)
names_of no_members = []
names_of (member name value rest) = name ∷ names_of rest

-- whether a value is an object that has no other names
abbrev pub has_names : Option Members → Bool
has_names (Some members) = list_all is_name (names_of members)
has_names None = false

-- a count, which must be there
abbrev pub count : ℕ → ℕ → Option Data → Reading ℕ
count least most (Some value) = natural least most value
count least most None = Err Shape

-- the entries of a list that may be missing
abbrev pub entries_or_none : {A : Type 0} → (List A → Data → Reading A) → Option Data → Reading (List A)
entries_or_none read (Some value) = do
  values ← listed value
  unplaced (entries 0 read values)
entries_or_none read None = Ok []

-- a count of rounds, which may be missing
abbrev pub rounds : Option Data → Reading ℕ
rounds (Some value) = natural 0 SETTLE_MAX value
rounds None = Ok 0

-- all but the clients: each name's value is judged whole before the next
pub record Head : Type 0 where
  pub setup : Setup
  pub links : List LinkPlan
  pub settle : ℕ

unfoldable pub head_after : ℕ → ℕ → Data → Reading Head
head_after replicas conits value = do
  bounds ← entries_or_none (bound_after replicas conits) (get (codes "bounds") value)
  links ← entries_or_none (link_after replicas) (get (codes "links") value)
  settle ← rounds (get (codes "settle") value)
  Ok (record { setup = setup_of replicas conits bounds; links = plans_of replicas links; settle = settle })

unfoldable pub head_of : Data → Reading Head
head_of value =
    if not (has_names (as_object value)) then Err Shape else do
      replicas ← count REPLICAS_MIN REPLICAS_MAX (get (codes "replicas") value)
      conits ← count 1 CONITS_MAX (get (codes "conits") value)
      head_after replicas conits value

-- the values of at least one client
unfoldable pub client_values : Option Data → Reading (List Data)
client_values (Some value) = do
  values ← listed value
  if length values == 0 then Err Shape else Ok values
client_values None = Err Shape

-- The place of a fault is 0 outside the clients, and in a client 1 and its position.
unfoldable pub workload_of : Data → Placed Workload
workload_of value = do
  head ← at 0 (head_of value)
  values ← at 0 (client_values (get (codes "clients") value))
  clients ← entries 1 (client_after head.setup.replicas head.setup.conits) values
  Ok (record { setup = head.setup; links = head.links; settle = head.settle; clients = clients })

-- the value of a text, where it is JSON
abbrev pub json_of : List ℕ → Option Data
json_of text = if is_utf8 text then read text else None

abbrev pub workload_by : Option Data → Placed Workload
workload_by (Some value) = workload_of value
workload_by None = Err (0, NotJson)

unfoldable pub workload_in : List ℕ → Placed Workload
workload_in text = workload_by (json_of text)
