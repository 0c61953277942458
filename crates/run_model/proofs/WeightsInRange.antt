-- What the type of weights keeps, and what is left to test of them.
use Rattle.std.proofs.Common.{◌<◌, true, List, get_or, All, refl, ◌↔◌}
use Rattle.std.specs.Prelude.{unsigned_abs}
use Rattle.std.proofs.lemmas.List.Elements.{All-weaker}
use Rattle.tact_base.specs.declared.conit_list.Weight.{Weight}
use Rattle.tact_base.proofs.ConitListLemmas.{IsWeights, IsConitList-limits, weight_in_limits}
use Rattle.tact_base.proofs.ConitListLimits.{IsConitList-other_limits}
use Rattle.tact_base.specs.Setup.{Setup}
use Rattle.run_model.specs.Ranges.{IsWeightInRange, AreWeightsInRange}
use Rattle.run_model.proofs.WeightBytes.{limits_of, limits_hold}

-- weights are in range where their conits are below the count
pub AreWeightsInRange-kept : (setup : Setup) (weights : List Weight)
    → IsWeights weights
    → All (λ (weight : Weight). weight.conit < setup.conits) weights ↔ AreWeightsInRange setup weights
AreWeightsInRange-kept setup weights kept = (
  λ below. record {
    each = λ k d inside.
        let weight = IsConitList-limits (λ (weight : Weight). weight.conit) weight_in_limits weights kept k d inside in
        let sizes = limits_hold _ _ weight in
        record { conit = below k d inside; nweight = sizes.0; oweight = sizes.1 };
    listed = IsConitList-other_limits (λ (weight : Weight). weight.conit) weight_in_limits (λ _. true) weights kept (λ k d inside. refl);
  },
  λ all. All-weaker (IsWeightInRange setup) (λ (weight : Weight). weight.conit < setup.conits) (λ weight fits. fits.conit) weights all.each,
)

-- and such weights are as their type keeps them
pub IsWeights-in_range : (setup : Setup) (weights : List Weight) → AreWeightsInRange setup weights → IsWeights weights
IsWeights-in_range setup weights are =
    IsConitList-other_limits (λ (weight : Weight). weight.conit) (λ _. true) weight_in_limits weights are.listed
    (λ k d inside.
    let weight = are.each k d inside in
    limits_of (unsigned_abs (get_or weights k d).nweight) (get_or weights k d).oweight weight.nweight weight.oweight)
