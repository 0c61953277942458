-- What an item in range asks for is in range of a setup.
use Rattle.std.proofs.Common.{true, List, get_or, refl}
use Rattle.tact_base.proofs.ConitListLemmas.{IsConitList-limits}
use Rattle.tact_base.proofs.ConitListLimits.{IsConitList-other_limits}
use Rattle.tact_base.specs.Setup.{Setup}
use Rattle.tact_base.specs.declared.conit_list.Need.{Need}
use Rattle.run_model.specs.Bytes.{AreNeedsOf}
use Rattle.run_model.specs.Ranges.{AreNeedsInRange}
use Rattle.run_model.proofs.WeightBytes.{need_in_limits, need_limits_hold}

-- the needs of a read
pub AreNeedsInRange-of : (setup : Setup) (needs : List Need) → AreNeedsOf setup.conits needs → AreNeedsInRange setup needs
AreNeedsInRange-of setup needs of = record {
  each = λ k d inside.
      let need = get_or needs k d in
      let limits = IsConitList-limits (λ (need : Need). need.conit) need_in_limits needs of.0 k d inside in
      let sizes = need_limits_hold need.num need.order need.stale limits in
      record { conit = of.1 k d inside; num = sizes.0; order = sizes.1; stale = sizes.2 };
  listed = IsConitList-other_limits (λ (need : Need). need.conit) need_in_limits (λ _. true) needs of.0 (λ k d inside. refl);
}
