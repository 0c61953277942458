use Rattle.std.proofs.Common.{◌≡◌, ◌+◌, ◌<◌, [], ◌∷◌, length, length-set, set, take, drop, ap, sym, ◌∙◌, arith}
use Rattle.std.proofs.lemmas.List.{drop-map, take_more_set}
use Rattle.std.proofs.lemmas.List.Elements.{All-append}
use Rattle.std.proofs.Math.Seq.{map-set_same}
use Rattle.tact_base.proofs.ListLemmas.{All-one}
use Rattle.tact_base.specs.Images.{image_of}
use Rattle.rollback_apply.specs.Current.{KeepPlaces}
use Rattle.rollback_apply.specs.Layers.{ops_in, all_wanted, HasPlaces}
use Rattle.rollback_apply.specs.declared.layers.Layer.{Layer}
use Rattle.rollback_apply.proofs.ImageLemmas.{op_in, applied-at, applied-more, are_placed-stay, all_wanted-stays, wanted-from, same-places}
use Rattle.rollback_apply.proofs.layers.Layers.apply.Goals as goal

pub returns-clause-applies : goal.returns-clause-applies
returns-clause-applies c =
    let old = c.args.self.now in
    let layers = old.tentative.items in
    let at = c.args.at in
    let op = c.index.result.now.op in
    let places = c.look_up-places.result in
    let layer : Layer = record { op = op; places = places; held = c.held_at-held.result } in
    let base = image_of (ops_in old.settled.items) in
    let looked = c.look_up-places.new.current in
    let now = c.set_places.new.current in
    let more = c.look_up-places.ensures.extends in
    let has = c.look_up-places.ensures.places in
    let stay = same-places looked now c.set_places.ensures.places in
    let within : at < length layers = omega (arith, c.requires.within) in
    record {
      applied =
          applied-at base looked now layers at layer c.values_after.result within
          (applied-more base old.current looked (take at layers) more c.requires.applies.applied)
          (c.held_at-held.ensures op has) c.values_after.ensures (c.set_places.ensures.values op has);
      placed =
          rw (take_more_set layers at layer within)
          (are_placed-stay looked now _ stay
          (All-append (λ (layer : Layer). HasPlaces looked layer.places layer.op) (take at layers) (layer ∷ [])
          (are_placed-stay old.current looked (take at layers) more.places c.requires.applies.placed)
          (All-one (λ (layer : Layer). HasPlaces looked layer.places layer.op) layer has)));
    }

pub returns-clause-ops : goal.returns-clause-ops
returns-clause-ops c =
    map-set_same op_in c.args.self.now.tentative.items c.args.at _ c.index.result.now (ap op_in c.index.ensures)

pub returns-clause-memory : goal.returns-clause-memory
returns-clause-memory c more has =
    let old = c.args.self.now in
    let layers = old.tentative.items in
    let at = c.args.at in
    let read = c.index.result.now in
    let layer : Layer = record { op = read.op; places = c.look_up-places.result; held = c.held_at-held.result } in
    let now = c.set_places.new.current in
    let stay : KeepPlaces old.current now =
    λ key place there. same-places c.look_up-places.new.current now c.set_places.ensures.places key place
    (c.look_up-places.ensures.extends.places key place there) in
    let within : at < length layers = omega (arith, c.requires.within) in
    let new = set layers at layer in
    let same : ops_in (drop (at + 1) new) ≡ ops_in (drop (at + 1) layers) =
    sym (drop-map op_in (at + 1) new) ∙ ap (drop (at + 1)) (map-set_same op_in layers at layer read (ap op_in c.index.ensures))
    ∙ drop-map op_in (at + 1) layers in
    record {
      listed = omega (arith, has.listed, length-set layers at layer);
      keys =
          omega (
            arith,
            has.keys,
            wanted-from old.current layers at read read within c.index.ensures,
            c.look_up-places.ensures.spare,
            c.set_places.ensures.spare,
            all_wanted-stays old.current now (ops_in (drop (at + 1) layers)) stay,
            ap (all_wanted now) same,
          );
    }
