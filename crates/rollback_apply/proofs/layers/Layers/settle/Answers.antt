use Rattle.std.proofs.Common.{◌≡◌, ℕ, ◌+◌, ◌-◌, ◌++◌, List, length, take, drop, ap, ap₂, sym, ◌∙◌, arith}
use Rattle.std.proofs.lemmas.List.{drop-drop, drop-take, length-drop, take-append-drop, map-append}
use Rattle.std.proofs.lemmas.List.Elements.{All-drop}
use Rattle.std.proofs.lemmas.List.Sums.{fold-append}
use Rattle.tact_base.specs.Images.{after_op, empty_image, image_of}
use Rattle.rollback_apply.specs.Layers.{ops_in, HasPlaces, IsApplied}
use Rattle.rollback_apply.specs.declared.layers.Layer.{Layer}
use Rattle.rollback_apply.proofs.ImageLemmas.{op_in, applied-settle, take-within}
use Rattle.rollback_apply.proofs.layers.Layers.settle.Goals as goal

pub returns-clause-applies : goal.returns-clause-applies
returns-clause-applies c applied above applies =
    let old = c.args.self.now in
    let layers = old.tentative.items in
    let before = old.settled.items in
    let count = c.args.count in
    let front = take count layers in
    let rest = take (applied - count) (drop count layers) in
    let both : count + (applied - count) ≡ applied = omega (arith, above) in
    let rest_is : drop count (take applied layers) ≡ rest =
    ap (λ (many : ℕ). drop count (take many layers)) (sym both) ∙ drop-take count (applied - count) layers in
    let is : take applied layers ≡ front ++ rest =
    sym (take-append-drop count (take applied layers))
    ∙ ap₂ (λ (first last : List Layer). first ++ last) (take-within count applied layers above) rest_is in
    let all : IsApplied (image_of (ops_in before)) old.current (front ++ rest) = rw is at applies.applied in
    let settled = applied-settle (image_of (ops_in before)) (image_of (ops_in (before ++ front))) old.current front rest all
    (ap image_of (map-append op_in before front) ∙ fold-append after_op empty_image (ops_in before) (ops_in front)) in
    record {
      applied = rw (c.drop_front.ensures.items, c.extend.ensures, c.deref.ensures.value) settled;
      placed =
          rw (c.drop_front.ensures.items, ← rest_is)
          (All-drop (λ (layer : Layer). HasPlaces old.current layer.places layer.op) count (take applied layers) applies.placed);
    }

pub returns-clause-memory : goal.returns-clause-memory
returns-clause-memory c applied more above has =
    let old = c.args.self.now in
    let layers = old.tentative.items in
    let count = c.args.count in
    let both : count + (applied - count) ≡ applied = omega (arith, above) in
    let same : drop (applied - count) (drop count layers) ≡ drop applied layers =
    drop-drop (applied - count) count layers ∙ ap (λ (many : ℕ). drop many layers) both in
    record {
      listed = omega (arith, has.listed, ap length c.drop_front.ensures.items, length-drop count layers, c.drop_front.ensures.capacity);
      keys = rw (c.drop_front.ensures.items, same) has.keys;
    }
