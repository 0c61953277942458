use Rattle.std.proofs.Common.{◌≡◌, ◌+◌, ◌-◌, List, take, drop, ap, ◌∙◌, arith, to_z, of_z, w64}
use Rattle.std.proofs.lemmas.Int.{to_z-of_z}
use Rattle.tact_base.specs.Images.{image_from, image_of}
use Rattle.rollback_apply.specs.Current.{holds}
use Rattle.rollback_apply.specs.Layers.{ops_in}
use Rattle.rollback_apply.specs.declared.layers.Layer.{Layer}
use Rattle.rollback_apply.proofs.ImageLemmas.{held-behind}
use Rattle.rollback_apply.proofs.layers.Layers.value_in.Goals as goal

pub returns : goal.returns
returns c =
    let old = c.args.self.now in
    let layers = old.tentative.items in
    let base = image_of (ops_in old.settled.items) in
    let applied = c.args.applied in
    let count = c.args.count in
    let value = c.value_late.result in
    let same : to_z w64 (of_z w64 value) ≡ value = grind (arith, to_z-of_z, c.value_late.type_inv) in
    let both : applied + (count - applied) ≡ count = omega (arith, c.requires.applied) in
    same
    ∙ c.value_late.ensures
    ∙ ap (λ (items : List Layer). image_from (holds old.current) (ops_in (take (count - applied) (drop applied items))) c.args.key) c.deref.ensures.value
    ∙ held-behind base old.current layers applied (count - applied) c.args.key c.requires.applies.applied
    ∙ ap (λ many. image_from base (ops_in (take many layers)) c.args.key) both
