use Rattle.std.proofs.Common.{◌≡◌, ◌<◌, length, take, unwrap_or, ap, ◌∙◌, arith, to_z, of_z, w64}
use Rattle.std.proofs.lemmas.Int.{to_z-of_z}
use Rattle.tact_base.specs.Images.{image_from}
use Rattle.rollback_apply.specs.Current.{holds}
use Rattle.rollback_apply.specs.Layers.{ops_in}
use Rattle.rollback_apply.proofs.LateLemmas.{told-more}
use Rattle.rollback_apply.proofs.lagging.value_by.Goals as goal

pub loop-at-preserved : goal.loop-at-preserved
loop-at-preserved c =
    let l = c.loop-at in
    let base = holds c.args.current.now in
    let late = c.args.late.now in
    let value = c.unwrap_or-value.result in
    let within : l.at < length late = omega (arith, c.loop-at-test.true) in
    let same : to_z w64 (of_z w64 value) ≡ value = grind (arith, to_z-of_z, c.unwrap_or-value.type_inv) in
    same
    ∙ c.unwrap_or-value.ensures
    ∙ ap (unwrap_or c.among.result) l.invariant
    ∙ ap (λ told. unwrap_or told (image_from base (ops_in (take l.at late)) c.args.key)) c.among.ensures
    ∙ told-more base late c.args.after.now l.at c.args.key _ _ within c.requires.told
