-- The bounds of a workload, and the setup that they make.
use Rattle.std.specs.Prelude.{ℕ, ◌-◌, ◌*◌, ◌/◌, ◌%◌, ◌==◌, ◌&&◌, Bool, find, nat_lt, sum, List, [], ◌∷◌, length, map, slice_index, Ok, Err, Option, Some, None, if◌then◌else◌}
use Rattle.std.specs.List.{flat_map, list_any, range_with_len}
use Rattle.tact_base.specs.Setup.{Setup, setup}
use Rattle.tact_base.specs.declared.limits.TheConstants.{ALPHA_MAX}
use Rattle.run_model.specs.declared.status.LoadKind.TheVariants.{Shape, Range, Twice, LoansOver}
use Rattle.serde_json.specs.Data.{Data}
use Rattle.work_load.specs.Values.{Reading, ◌>>=◌, both, all_of, natural, listed}
use Rattle.work_load.specs.declared.bounds.Bound.{Bound}

-- a loan for each holder
unfoldable pub loans : ℕ → Data → Reading (List ℕ)
loans replicas value = do
  values ← listed value
  if length values == replicas then all_of (natural 0 ALPHA_MAX) values else Err Shape

-- `[OWNER, CONIT, ALPHA, [LOANS]]`, where the owner lends nothing to itself
abbrev pub lends_itself : Bound → Reading Bound
lends_itself bound = if nat_lt 0 (slice_index bound.loans bound.owner) then Err Range else Ok bound

abbrev pub bound_by : ℕ → ℕ → List Data → Reading Bound
bound_by replicas conits (owner ∷ conit ∷ alpha ∷ row ∷ []) = do
  numbers ← both (both (natural 0 (replicas - 1) owner) (natural 0 (conits - 1) conit)) (both (natural 0 ALPHA_MAX alpha) (loans replicas row))
  lends_itself (record { owner = numbers.0.0; conit = numbers.0.1; alpha = numbers.1.0; loans = numbers.1.1 })
bound_by replicas conits other = Err Shape

unfoldable pub bound : ℕ → ℕ → Data → Reading Bound
bound replicas conits value = do
  fields ← listed value
  bound_by replicas conits fields

-- whether a bound is that of an owner on a conit
abbrev pub binds : ℕ → ℕ → Bound → Bool
binds owner conit bound = bound.owner == owner && bound.conit == conit

-- a bound after those before it, which don't bind its owner on its conit; its loans don't pass its alpha
unfoldable pub bound_after : ℕ → ℕ → List Bound → Data → Reading Bound
bound_after replicas conits before value = do
  next ← bound replicas conits value
  if list_any (binds next.owner next.conit) before then Err Twice
      else if nat_lt next.alpha (sum next.loans) then Err LoansOver
      else Ok next

-- The alpha of an owner on a conit and its loans there, by holder. Where no bound says it, alpha is 1,000,000 and each
-- other replica is lent 100,000.
abbrev pub alpha_by : Option Bound → ℕ
alpha_by (Some bound) = bound.alpha
alpha_by None = 1000000

abbrev pub loans_by : ℕ → ℕ → Option Bound → List ℕ
loans_by replicas owner (Some bound) = bound.loans
loans_by replicas owner None = map (λ holder. if holder == owner then 0 else 100000) (range_with_len 0 replicas)

abbrev pub bound_of : List Bound → ℕ → ℕ → Option Bound
bound_of bounds owner conit = find (binds owner conit) bounds

-- the setup that bounds make, by owner and then conit
abbrev pub alphas_of : ℕ → ℕ → List Bound → List ℕ
alphas_of replicas conits bounds = map (λ place. alpha_by (bound_of bounds (place / conits) (place % conits))) (range_with_len 0 (replicas * conits))

abbrev pub loans_of : ℕ → ℕ → List Bound → List ℕ
loans_of replicas conits bounds =
    flat_map (λ place. loans_by replicas (place / conits) (bound_of bounds (place / conits) (place % conits))) (range_with_len 0 (replicas * conits))

abbrev pub setup_of : ℕ → ℕ → List Bound → Setup
setup_of replicas conits bounds = setup replicas conits (alphas_of replicas conits bounds) (loans_of replicas conits bounds)
