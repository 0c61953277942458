use Rattle.std.proofs.Common.{drop, length, ap, arith}
use Rattle.std.proofs.lemmas.List.{length-drop, length-map}
use Rattle.rollback_apply.specs.Layers.{ops_in}
use Rattle.rollback_apply.proofs.ImageLemmas.{few_wanted, memory-stays, op_in}
use Rattle.rollback_apply.proofs.layers.Layers.take_memory.Goals as goal

pub returns-in_err-reserve-clause-kept : goal.returns-in_err-reserve-clause-kept
returns-in_err-reserve-clause-kept c count has =
    memory-stays c.args.self.now _ c.args.applied count c.reserve_layers.ensures.items c.reserve_layers.ensures.kept
    c.reserve.ensures.extends c.reserve.ensures.kept has

pub returns-clause-kept : goal.returns-clause-kept
returns-clause-kept c count has =
    memory-stays c.args.self.now _ c.args.applied count c.reserve_layers.ensures.items c.reserve_layers.ensures.kept
    c.reserve.ensures.extends c.reserve.ensures.kept has

pub returns-clause-ok : goal.returns-clause-ok
returns-clause-ok c =
    let layers = c.reserve_layers.new.layers.items in
    let late = drop c.args.applied layers in
    record {
      listed = omega (arith, c.in_ok-reserve_layers.ensures.ok, ap length c.reserve_layers.ensures.items);
      keys =
          omega (
            arith,
            c.in_ok-reserve.ensures.ok,
            c.in_ok-keys.ensures.ok,
            c.saturating_add.ensures,
            c.len.ensures,
            c.requires,
            few_wanted c.reserve.new.self (ops_in late),
            length-map late op_in,
            length-drop c.args.applied layers,
            ap length c.reserve_layers.ensures.items,
          );
    }
