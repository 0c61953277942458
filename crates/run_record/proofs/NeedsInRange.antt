-- What the type of needs keeps, and what is left to test of them.
use Rattle.std.proofs.Common.{◌<◌, true, List, get_or, refl}
use Rattle.std.proofs.lemmas.List.Elements.{All-weaker}
use Rattle.tact_base.specs.declared.conit_list.Need.{Need}
use Rattle.tact_base.proofs.ConitListLemmas.{IsConitList-limits}
use Rattle.tact_base.proofs.ConitListLimits.{IsConitList-other_limits}
use Rattle.tact_base.specs.Setup.{Setup}
use Rattle.run_model.specs.Bytes.{AreNeedsOf}
use Rattle.run_model.specs.Ranges.{IsNeedInRange, AreNeedsInRange}
use Rattle.run_model.proofs.WeightBytes.{need_in_limits, need_limits_of, need_limits_hold}

-- needs are in range where their conits are below the count
pub AreNeedsInRange-kept : (setup : Setup) (needs : List Need)
    → AreNeedsOf setup.conits needs
    → AreNeedsInRange setup needs
AreNeedsInRange-kept setup needs kept = record {
  each = λ k d inside.
      let need = IsConitList-limits (λ (need : Need). need.conit) need_in_limits needs kept.0 k d inside in
      let sizes = need_limits_hold _ _ _ need in
      record { conit = kept.1 k d inside; num = sizes.0; order = sizes.1; stale = sizes.2 };
  listed = IsConitList-other_limits (λ (need : Need). need.conit) need_in_limits (λ _. true) needs kept.0 (λ k d inside. refl);
}

-- and needs in range are as their type keeps them
pub AreNeedsOf-in_range : (setup : Setup) (needs : List Need)
    → AreNeedsInRange setup needs
    → AreNeedsOf setup.conits needs
AreNeedsOf-in_range setup needs are = (
  IsConitList-other_limits (λ (need : Need). need.conit) (λ _. true) need_in_limits needs are.listed
      (λ k d inside.
      let need = are.each k d inside in
      need_limits_of (get_or needs k d).num (get_or needs k d).order (get_or needs k d).stale need.num need.order need.stale),
  All-weaker (IsNeedInRange setup) (λ (need : Need). need.conit < setup.conits) (λ need fits. fits.conit) needs are.each,
)
