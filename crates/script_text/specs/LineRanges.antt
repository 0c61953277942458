-- What a line of a script may name: replicas, conits and clients that there are, and numbers within their limits.
use Rattle.std.specs.Prelude.{◌≡◌, ◌≢◌, ℕ, ◌<◌, ◌≤◌, List, [], All, length}
use Rattle.tact_base.specs.declared.limits.TheConstants.{CLIENTS, ALPHA_MAX, AMOUNT_MAX, MOMENT_MAX, HISTORY_MAX}
use Rattle.tact_base.specs.Setup.{Setup, setup}
use Rattle.run_model.specs.Ranges.{IsRequestInRange}
use Rattle.run_model.specs.declared.call.Request.{Request}
use Rattle.run_model.specs.declared.call.Request.TheVariants as request
use Rattle.run_model.specs.declared.script_line.Line.{Line}
use Rattle.run_model.specs.declared.script_line.Line.TheVariants as line

-- a call of a client at a replica
pub record IsCallInRange (setup : Setup) (replica client : ℕ) (asked : Request) : Type 0 where
  pub replica_in : replica < setup.replicas
  pub client_in : client < CLIENTS
  pub request_in : IsRequestInRange setup asked

-- two replicas, not the same
pub record AreTwoInRange (setup : Setup) (first second : ℕ) : Type 0 where
  pub first_in : first < setup.replicas
  pub second_in : second < setup.replicas
  pub others : second ≢ first

-- a conit, and an amount on it
pub record IsAmountInRange (setup : Setup) (conit amount : ℕ) : Type 0 where
  pub conit_in : conit < setup.conits
  pub amount_in : amount ≤ AMOUNT_MAX

-- the firsts of a sending, one for each replica
pub record AreFirstsInRange (setup : Setup) (firsts : List ℕ) : Type 0 where
  pub size : length firsts ≡ setup.replicas
  pub each : All (λ first. first ≤ HISTORY_MAX) firsts

-- the numbers of a `bound` line
pub record IsBoundInRange (setup : Setup) (owner conit alpha loan : ℕ) : Type 0 where
  pub owner_in : owner < setup.replicas
  pub conit_in : conit < setup.conits
  pub alpha_in : alpha ≤ ALPHA_MAX
  pub loan_in : loan ≤ AMOUNT_MAX

-- a setup of these counts, whose alphas and loans don't matter
abbrev pub bare : ℕ → ℕ → Setup
bare replicas conits = setup replicas conits [] []

-- a line after the first
abbrev pub IsLineInRange : Setup → Line → Type 0
IsLineInRange setup (line.Start replicas conits alpha loan) = ⊥
IsLineInRange setup (line.Bound owner conit alpha loan) = IsBoundInRange setup owner conit alpha loan
IsLineInRange setup (line.At moment) = moment ≤ MOMENT_MAX
IsLineInRange setup (line.Write replica client op weights) = IsCallInRange setup replica client (request.Write weights op)
IsLineInRange setup (line.Held replica client op weight) = IsCallInRange setup replica client (request.Held weight op)
IsLineInRange setup (line.Reserve replica client conit amount) = IsCallInRange setup replica client (request.Reserve conit amount)
IsLineInRange setup (line.Release replica client conit amount) = IsCallInRange setup replica client (request.Release conit amount)
IsLineInRange setup (line.Read replica client key needs) = IsCallInRange setup replica client (request.Read key needs)
IsLineInRange setup (line.Send from to firsts) = AreTwoInRange setup from to × AreFirstsInRange setup firsts
IsLineInRange setup (line.Take replica from number) = AreTwoInRange setup replica from
IsLineInRange setup (line.Sync first second) = AreTwoInRange setup first second
IsLineInRange setup (line.Lend owner holder conit amount) = AreTwoInRange setup owner holder × IsAmountInRange setup conit amount
IsLineInRange setup (line.Back holder owner conit amount) = AreTwoInRange setup holder owner × IsAmountInRange setup conit amount
IsLineInRange setup (line.Restart replica) = replica < setup.replicas
IsLineInRange setup (line.Show replica) = replica < setup.replicas
IsLineInRange setup (line.Ref conit) = conit < setup.conits
