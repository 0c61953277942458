use Rattle.std.proofs.Common.{◌+◌, ◌<◌, length, drop, arith}
use Rattle.tact_base.specs.Images.{image_of}
use Rattle.rollback_apply.specs.Layers.{ops_in}
use Rattle.rollback_apply.proofs.ImageLemmas.{places-of, placed-fewer, placed-wants, undone-at, are_placed-stay, has_places-stay, all_wanted-stays, wanted-from, same-places}
use Rattle.rollback_apply.proofs.layers.Layers.undo.Goals as goal

pub returns-clause-applies : goal.returns-clause-applies
returns-clause-applies c =
    let old = c.args.self.now in
    let layers = old.tentative.items in
    let layer = c.index.result.now in
    let at = c.args.at in
    let within : at < length layers = omega (arith, c.requires.within) in
    let places =
    places-of old.current layers (at + 1) at layer layer (omega arith) within c.index.ensures c.requires.applies.placed in
    record {
      applied =
          undone-at (image_of (ops_in old.settled.items)) old.current c.set_places.new.current layers at layer layer within
          c.index.ensures c.requires.applies.applied (c.set_places.ensures.values layer.op places);
      placed =
          placed-fewer c.set_places.new.current layers at (at + 1) (omega arith)
          (are_placed-stay old.current c.set_places.new.current _
          (same-places old.current c.set_places.new.current c.set_places.ensures.places) c.requires.applies.placed);
    }

pub returns-clause-memory : goal.returns-clause-memory
returns-clause-memory c more has =
    let old = c.args.self.now in
    let now = c.set_places.new.current in
    let layers = old.tentative.items in
    let layer = c.index.result.now in
    let at = c.args.at in
    let within : at < length layers = omega (arith, c.requires.within) in
    let stay = same-places old.current now c.set_places.ensures.places in
    let places =
    places-of old.current layers (at + 1) at layer layer (omega arith) within c.index.ensures c.requires.applies.placed in
    record {
      listed = has.listed;
      keys =
          omega (
            arith,
            has.keys,
            wanted-from now layers at layer layer within c.index.ensures,
            placed-wants now layer.places layer.op (has_places-stay old.current now layer.places layer.op stay places),
            all_wanted-stays old.current now (ops_in (drop (at + 1) layers)) stay,
            c.set_places.ensures.spare,
          );
    }
