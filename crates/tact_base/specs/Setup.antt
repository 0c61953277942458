-- The setup of a run: how many replicas and conits there are, what each owner allows on each conit, and what it lends
-- to each holder at the opening.
use Rattle.std.specs.Prelude.{◌≡◌, ℕ, ◌+◌, ◌*◌, ◌/◌, ◌%◌, Bool, not, ◌&&◌, ◌==◌, nat_le, nat_lt, if◌then◌else◌, List, length, map, filter, sum, slice_index, slice_get, slice_range, Option, Some, None}
use Rattle.std.specs.List.{range_with_len, filter_map}
use Rattle.tact_base.specs.declared.limits.TheConstants.{REPLICAS_MIN, REPLICAS_MAX, CONITS_MAX, ALPHA_MAX}
use Rattle.tact_base.specs.declared.setup.ConfigFault.{ConfigFault}
use Rattle.tact_base.specs.declared.setup.ConfigFault.TheVariants.{BadCount, AlphaOver, OwnLoan, LoansOver, NoMemory}

-- The counts; by owner and then conit, the owner's alpha there; by owner, conit and holder, the part of it that is lent
-- at the opening.
pub record Setup : Type 0 where
  pub replicas : ℕ
  pub conits : ℕ
  pub alphas : List ℕ
  pub loans : List ℕ

-- the setup of these counts, alphas and loans
abbrev pub setup : ℕ → ℕ → List ℕ → List ℕ → Setup
setup replicas conits alphas loans = record { replicas = replicas; conits = conits; alphas = alphas; loans = loans }

-- its replicas, and its conits
abbrev pub replicas_of : Setup → List ℕ
replicas_of setup = range_with_len 0 setup.replicas

abbrev pub conits_of : Setup → List ℕ
conits_of setup = range_with_len 0 setup.conits

-- the replicas other than one
abbrev pub peers_of : Setup → ℕ → List ℕ
peers_of setup replica = filter (λ peer. not (peer == replica)) (replicas_of setup)

-- where an owner's numbers on a conit stand among those by owner and then conit
abbrev pub place_of : Setup → ℕ → ℕ → ℕ
place_of s owner conit = owner * s.conits + conit

-- the alpha of an owner on a conit
abbrev pub alpha_of : Setup → ℕ → ℕ → ℕ
alpha_of s owner conit = slice_index s.alphas (place_of s owner conit)

-- the loans of an owner on a conit, by holder
abbrev pub loans_of : Setup → ℕ → ℕ → List ℕ
loans_of s owner conit =
    let start = place_of s owner conit * s.replicas in
    slice_range s.loans start (start + s.replicas)

-- the opening loan of an owner on a conit to a holder
abbrev pub loan_of : Setup → ℕ → ℕ → ℕ → ℕ
loan_of s owner conit holder = slice_index (loans_of s owner conit) holder

-- each owner with each conit, by owner and then conit
abbrev pub owners_and_conits : Setup → List (ℕ × ℕ)
owners_and_conits s =
    map (λ place. (place / s.conits, place % s.conits)) (range_with_len 0 (s.replicas * s.conits))

-- the counts are within their limits, and there is an alpha for each owner and conit and a loan for each owner, conit
-- and holder
abbrev pub are_counts_good : Setup → Bool
are_counts_good s =
    nat_le REPLICAS_MIN s.replicas && nat_le s.replicas REPLICAS_MAX
    && nat_le 1 s.conits && nat_le s.conits CONITS_MAX
    && (length s.alphas == s.replicas * s.conits)
    && (length s.loans == s.replicas * s.conits * s.replicas)

-- the fault of an owner's alpha on a conit and its loans there by holder
abbrev pub row_fault : ℕ → ℕ → ℕ → List ℕ → Option ConfigFault
row_fault owner conit alpha loans =
    if nat_lt ALPHA_MAX alpha then Some (AlphaOver owner conit)
    else if nat_lt 0 (slice_index loans owner) then Some (OwnLoan owner conit)
    else if nat_lt alpha (sum loans) then Some (LoansOver owner conit)
    else None

-- the fault of the first owner and conit at fault
abbrev pub first_row_fault : Setup → Option ConfigFault
first_row_fault s =
    slice_get (filter_map (λ (owner, conit). row_fault owner conit (alpha_of s owner conit) (loans_of s owner conit)) (owners_and_conits s)) 0

-- the fault of a setup of these counts, alphas and loans
unfoldable pub config_fault : ℕ → ℕ → List ℕ → List ℕ → Option ConfigFault
config_fault replicas conits alphas loans =
    let s = setup replicas conits alphas loans in
    if are_counts_good s then first_row_fault s else Some BadCount

-- a setup without a fault
abbrev pub IsSetup : Setup → Type 0
IsSetup s = config_fault s.replicas s.conits s.alphas s.loans ≡ None

-- what a refusal says of the fault: want of memory comes only where there is none
abbrev pub IsRefusalOf : Option ConfigFault → ConfigFault → Type 0
IsRefusalOf fault NoMemory = fault ≡ None
IsRefusalOf fault refusal = fault ≡ Some refusal
