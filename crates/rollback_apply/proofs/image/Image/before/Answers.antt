use Rattle.std.proofs.Common.{◌≡◌, ◌-◌, List, Some, get_or, length, slice_get, refl, sym, ap, ap₂, ◌∙◌, arith}
use Rattle.std.proofs.lemmas.Bool.{ltb-true}
use Rattle.std.proofs.lemmas.List.{take-map}
use Rattle.std.proofs.lemmas.Option.{slice_get_read, slice_get-map}
use Rattle.std.specs.Option.{option_map}
use Rattle.tact_base.specs.Images.{image_from}
use Rattle.tact_base.specs.declared.write.Op.{Op}
use Rattle.rollback_apply.specs.Image.{ImageState, base_of}
use Rattle.rollback_apply.specs.Keys.{key_values}
use Rattle.rollback_apply.specs.Layers.{ops_in}
use Rattle.rollback_apply.proofs.ImageLemmas.{op_in, value_before-tentative}
use Rattle.rollback_apply.proofs.image.Image.before.Goals as goal

pub returns : goal.returns
returns c =
    let image = c.self.inside in
    let at = c.args.place - image.committed in
    let layers = image.layers.tentative.items in
    let layer = c.in_ok-layer.field-0.now in
    let read : layer ≡ get_or layers at layer = rw (← c.deref.ensures.value) c.in_ok-layer.ensures.lookup.1 in
    let kept : slice_get layers at ≡ Some layer = rw (← c.deref.ensures.value)
    (slice_get_read c.deref.result.now (length c.deref.result.now) at layer refl
    (ltb-true at (length c.deref.result.now) (sym c.in_ok-layer.ensures.lookup.0)) c.in_ok-layer.ensures.lookup.1) in
    let state : ImageState = record {
      committed = image.committed;
      settled = ops_in image.layers.settled.items;
      ops = ops_in layers;
      room = image.room;
    } in
    let there : slice_get state.ops at ≡ Some layer.op =
    slice_get-map op_in layers at ∙ ap (λ found. option_map op_in found) kept in
    let held =
    c.held_before.ensures layer
    ∙ ap₂ (λ (ops : List Op) (op : Op). key_values (image_from (base_of state) ops) op) (sym (take-map op_in at layers)) (ap op_in (sym read)) in
    rw (← c.self.view_is)
    (c.among.ensures
    ∙ value_before-tentative state c.args.place c.args.key layer.op c.held_before.result (omega arith) there held)
