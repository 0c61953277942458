use Rattle.std.proofs.Common.{◌≡◌, ◌-◌, ◌+◌, ◌≤◌, List, length, take, drop, ap, sym, ◌∙◌, arith}
use Rattle.std.proofs.lemmas.List.{length-append, length-drop, length-map, length-take, map-append, take-map, drop-map}
use Rattle.std.proofs.lemmas.List.Sums.{fold-append}
use Rattle.tact_base.specs.Images.{Image, after_op, empty_image, image_from, image_of}
use Rattle.tact_base.specs.declared.write.Op.{Op}
use Rattle.rollback_apply.specs.Image.{ImageState, base_of}
use Rattle.rollback_apply.specs.Layers.{ops_in}
use Rattle.rollback_apply.specs.declared.layers.Layer.{Layer}
use Rattle.rollback_apply.proofs.ImageLemmas.{op_in}
use Rattle.rollback_apply.proofs.image.Image.commit.Goals as goal

pub invariant_of-self : goal.invariant_of-self
invariant_of-self c =
    let old = c.self.inside.layers in
    let new = c.apply_to-applied.new.self in
    let was = c.self.invariant in
    let done = c.apply_to-applied.ensures in
    let settled = c.settle.ensures in
    let going = c.args.count - c.self.inside.committed in
    let within : going ≤ length new.tentative.items =
    omega (arith, c.requires.within, done.count, length-map old.tentative.items op_in, ap (λ (image : ImageState). length image.ops) c.self.view_is, ap (λ (image : ImageState). image.committed) c.self.view_is) in
    let left : length c.settle.new.self.tentative.items + going ≡ length new.tentative.items =
    omega (arith, ap length settled.tentative, length-drop going new.tentative.items, within) in
    record {
      applies = settled.applies c.apply_to-applied.result done.above done.applies;
      within = omega (arith, left, done.within, done.above);
      few = omega (arith, left, done.above, done.kept, was.few, done.count);
      counted =
          omega (
            arith,
            ap length settled.settled,
            length-append new.settled.items (take going new.tentative.items),
            length-take going new.tentative.items,
            was.counted,
            ap (λ settled. length settled.items) done.settled,
            within,
          );
      memory = settled.memory c.apply_to-applied.result c.self.inside.room done.above (done.memory c.self.inside.room was.memory);
    }

pub returns-clause-base : goal.returns-clause-base
returns-clause-base c key =
    let old = c.self.inside.layers in
    let new = c.apply_to-applied.new.self in
    let going = c.args.count - c.self.inside.committed in
    ap (λ (settled : List Layer). image_of (ops_in settled) key) c.settle.ensures.settled
    ∙ ap (λ (ops : List Op). image_of ops key) (map-append op_in new.settled.items (take going new.tentative.items))
    ∙ ap (λ (image : Image). image key) (fold-append after_op empty_image (ops_in new.settled.items) (ops_in (take going new.tentative.items)))
    ∙ ap (λ (ops : List Op). image_from (image_of (ops_in new.settled.items)) ops key) (sym (take-map op_in going new.tentative.items))
    ∙ ap (λ settled. image_from (image_of (ops_in settled.items)) (take going (ops_in new.tentative.items)) key) c.apply_to-applied.ensures.settled
    ∙ ap (λ (ops : List Op). image_from (image_of (ops_in old.settled.items)) (take going ops) key) c.apply_to-applied.ensures.ops
    ∙ ap (λ (state : ImageState). image_from (base_of state) (take (c.args.count - state.committed) state.ops) key) c.self.view_is

pub returns-clause-ops : goal.returns-clause-ops
returns-clause-ops c =
    let going = c.args.count - c.self.inside.committed in
    ap ops_in c.settle.ensures.tentative
    ∙ sym (drop-map op_in going c.apply_to-applied.new.self.tentative.items)
    ∙ ap (drop going) c.apply_to-applied.ensures.ops
    ∙ ap (λ (state : ImageState). drop (c.args.count - state.committed) state.ops) c.self.view_is
