use Rattle.std.proofs.Common.{◌≡◌, ◌+◌, ◌-◌, ◌<◌, List, length, take, drop, ap, ap₂, ◌∙◌, arith}
use Rattle.std.proofs.lemmas.List.{get_or_default}
use Rattle.tact_base.specs.Images.{Image, image_from, image_of}
use Rattle.tact_base.specs.declared.write.Op.{Op}
use Rattle.rollback_apply.specs.Current.{holds}
use Rattle.rollback_apply.specs.Keys.{key_values}
use Rattle.rollback_apply.specs.Layers.{ops_in}
use Rattle.rollback_apply.specs.declared.layers.Layer.{Layer}
use Rattle.rollback_apply.proofs.ImageLemmas.{held_of, held-at, held-behind, op_in, same_image}
use Rattle.rollback_apply.proofs.layers.Layers.held_before.Goals as goal

pub returns-then-at-applied : goal.returns-then-at-applied
returns-then-at-applied c d =
    let old = c.args.self.now in
    let layers = old.tentative.items in
    let at = c.args.at in
    let within : at < length layers = omega (arith, c.requires.within) in
    ap held_of (c.index.ensures ∙ get_or_default layers at c.index.result.now d within)
    ∙ held-at (image_of (ops_in old.settled.items)) old.current layers at c.args.applied d c.if-at-applied.true within c.requires.applies.applied

pub returns : goal.returns
returns c d =
    let old = c.args.self.now in
    let layers = old.tentative.items in
    let base = image_of (ops_in old.settled.items) in
    let applied = c.args.applied in
    let at = c.args.at in
    let within : at < length layers = omega (arith, c.requires.within) in
    let both : applied + (at - applied) ≡ at = omega (arith, c.if-at-applied.false) in
    let late = image_from (holds old.current) (ops_in (take (at - applied) (drop applied layers))) in
    let before = image_from base (ops_in (take at layers)) in
    let same : late ≡ before =
    same_image late before (λ key.
    held-behind base old.current layers applied (at - applied) key c.requires.applies.applied
    ∙ ap (λ many. image_from base (ops_in (take many layers)) key) both) in
    c.values_late.ensures
    ∙ ap (λ (items : List Layer). key_values (image_from (holds old.current) (ops_in (take (at - applied) (drop applied items)))) c.index.result.now.op) c.deref.ensures.value
    ∙ ap₂ (λ (image : Image) (op : Op). key_values image op) same (ap op_in (c.index.ensures ∙ get_or_default layers at c.index.result.now d within))
