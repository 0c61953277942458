use Rattle.std.proofs.Common.{◌≡◌, ◌+◌, ◌≤◌, List, insert, length, take, drop, ap, sym, ◌∙◌, arith}
use Rattle.std.proofs.lemmas.List.{drop-map, take-map}
use Rattle.std.proofs.lemmas.List.Edits.{length-insert}
use Rattle.rollback_apply.specs.Layers.{ops_in, wanted, all_wanted}
use Rattle.rollback_apply.specs.declared.layers.Layer.{Layer}
use Rattle.rollback_apply.proofs.ImageLemmas.{op_in, few_wanted-one, map-insert, take-insert-le, wanted-behind, wanted-insert}
use Rattle.rollback_apply.proofs.layers.Layers.insert.Goals as goal

pub returns-clause-applies : goal.returns-clause-applies
returns-clause-applies c count before applies =
    let layers = c.args.self.now.tentative.items in
    let within : c.args.at ≤ length layers = omega (arith, c.requires.within) in
    let same = ap (take count) c.insert_layer.ensures.items ∙ take-insert-le layers count c.args.at c.waiting.result before within in
    record {
      applied = rw same applies.applied;
      placed = rw same applies.placed;
    }

pub returns-clause-ops : goal.returns-clause-ops
returns-clause-ops c =
    let layers = c.args.self.now.tentative.items in
    ap ops_in c.insert_layer.ensures.items
    ∙ map-insert op_in layers c.args.at c.waiting.result
    ∙ ap (insert (ops_in layers) c.args.at) c.waiting.ensures

pub returns-clause-memory : goal.returns-clause-memory
returns-clause-memory c applied more before has =
    let old = c.args.self.now in
    let layers = old.tentative.items in
    let at = c.args.at in
    let layer = c.waiting.result in
    let new = insert layers at layer in
    let within : at ≤ length layers = omega (arith, c.requires.within) in
    let front : take applied (ops_in new) ≡ take applied (ops_in layers) =
    take-map op_in applied new ∙ ap ops_in (take-insert-le layers applied at layer before within) ∙ sym (take-map op_in applied layers) in
    let all : all_wanted old.current (ops_in new) ≡ all_wanted old.current (ops_in layers) + wanted old.current layer.op =
    ap (all_wanted old.current) (map-insert op_in layers at layer) ∙ wanted-insert old.current (ops_in layers) at layer.op in
    record {
      listed = omega (arith, has.listed, c.insert_layer.ensures.capacity, ap length c.insert_layer.ensures.items, length-insert layers at layer within);
      keys =
          omega (
            arith,
            has.keys,
            ap (λ (layers : List Layer). all_wanted old.current (ops_in (drop applied layers))) c.insert_layer.ensures.items,
            ap (all_wanted old.current) (drop-map op_in applied new),
            ap (all_wanted old.current) (drop-map op_in applied layers),
            wanted-behind old.current (ops_in layers) (ops_in new) applied (wanted old.current layer.op) front all,
            few_wanted-one old.current layer.op,
          );
    }
