-- What writers ask of the entries that they are given.
use Rattle.std.proofs.Common.{◌≡◌, ℕ, ◌<◌, ◌≤◌, All, refl, arith}
use Rattle.std.proofs.lemmas.List.Elements.{All-weaker}
use Rattle.tact_base.specs.declared.conit_list.Need.{Need}
use Rattle.tact_base.specs.declared.conit_list.Weight.{Weight}
use Rattle.tact_base.specs.declared.limits.TheConstants.{CONITS_MAX}
use Rattle.tact_base.specs.Setup.{Setup, IsSetup}
use Rattle.tact_base.proofs.SetupLemmas.{HasCounts-from_IsSetup}
use Rattle.run_model.specs.CallBytes.{HasConitsBelow}
use Rattle.run_model.specs.Ranges.{IsWeightInRange, IsNeedInRange, IsRequestInRange}
use Rattle.run_model.specs.declared.call.Reply.{Reply}
use Rattle.run_model.specs.declared.call.Request.{Request}
use Rattle.run_model.specs.declared.call.Request.TheVariants as request
use Rattle.run_model.specs.declared.entry.Act.{Act}
use Rattle.run_model.specs.declared.entry.Act.TheVariants as act
use Rattle.restart_journal.specs.Pieces.{IsCall}

module _ (setup : Setup) (good : IsSetup setup) where
  few_conits : setup.conits ≤ CONITS_MAX
  few_conits = (HasCounts-from_IsSetup setup good).conits_high

  pub a_conit : (conit : ℕ) → conit < setup.conits → conit < 256
  a_conit conit below = omega (arith, below, few_conits)

  pub a_replica : (replica : ℕ) → replica < setup.replicas → replica < 256
  a_replica replica below = omega (arith, below, (HasCounts-from_IsSetup setup good).replicas_high)

  pub conits_below : (asked : Request) → IsRequestInRange setup asked → HasConitsBelow CONITS_MAX asked
  conits_below (request.Write weights op) within =
      All-weaker (IsWeightInRange setup) (λ (weight : Weight). weight.conit < CONITS_MAX) (λ weight fits. omega (arith, fits.conit, few_conits)) weights within.0.each
  conits_below (request.Held weight op) within = omega (arith, within.0.conit, few_conits)
  conits_below (request.Reserve conit amount) within = omega (arith, within.0, few_conits)
  conits_below (request.Release conit amount) within = omega (arith, within.0, few_conits)
  conits_below (request.Read key needs) within =
      All-weaker (IsNeedInRange setup) (λ (need : Need). need.conit < CONITS_MAX) (λ need fits. omega (arith, fits.conit, few_conits)) needs within.1.each

-- an act that is the call of no client
pub no_call : (done : Act)
    → ((client number : ℕ) (asked : Request) (given : Reply) → ¬ (done ≡ act.Call client number asked given))
    → ¬ IsCall done
no_call (act.Call client number asked given) none is = none client number asked given refl
no_call (act.Send message) none is = is
no_call (act.Take message) none is = is
no_call (act.Lend to conit amount) none is = is
no_call (act.Back owner conit amount) none is = is
no_call act.Restart none is = is
