use Rattle.std.proofs.Common.{arith}
use Rattle.std.specs.Int.{w64}
use Rattle.std.proofs.lemmas.Int.{to_z_pos}
use Rattle.std.proofs.lemmas.List.{take_rest}
use Rattle.run_record.proofs.FrontLemmas.{signed_begins}
use Rattle.run_record.proofs.fronts.positive_in_front.Goals as goal

pub returns : goal.returns
returns c =
    rw take_rest (signed_begins c.args.bytes.now c.args.size c.in_ok-value.value c.in_ok-value.count _ c.in_ok-value.ensures c.if-value-size.false
    (to_z_pos w64 c.in_ok-value.value (omega (arith, c.requires, c.if-value-size.false))))
