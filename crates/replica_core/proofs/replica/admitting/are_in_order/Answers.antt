use Rattle.std.proofs.Common.{pos, [], arith}
use Rattle.std.proofs.lemmas.Map.Keys.{sorted_from_all_adjacent}
use Rattle.tact_base.proofs.CompareLemmas.{write_total}
use Rattle.tact_base.specs.declared.write.Op.TheVariants.{Put}
use Rattle.tact_base.specs.declared.write.Write.{Write}
use Rattle.replica_core.proofs.replica.admitting.are_in_order.Goals as goal

pub returns : goal.returns
returns c sorted =
    let write : Write = record { origin = 0; index = 0; stamp = 0; moment = 0; weights = []; op = Put 0 (pos 0) } in
    sorted_from_all_adjacent write_total c.args.writes.now write (λ k within. c.loop-place.invariant k write (omega (arith, within, c.loop-place-test.false)))
