use Rattle.std.proofs.Common.{◌≡◌, ◌≤◌, ◌^◌, ◌-◌, arith, sym, to_z, of_z}
use Rattle.std.specs.Int.{w64}
use Rattle.std.specs.Prelude.{unsigned_abs}
use Rattle.std.proofs.lemmas.Int.{to_z-of_z}
use Rattle.run_record.proofs.FieldLemmas.{whole_signed-most}
use Rattle.run_record.proofs.FrontLemmas.{wide_is_next}
use Rattle.run_record.proofs.fronts.wide_in_front.Goals as goal

pub returns-clause-within : goal.returns-clause-within
returns-clause-within c =
    let z = c.in_ok-number.number in
    let most : unsigned_abs z ≤ 2 ^ 63 - 1 = whole_signed-most c.in_ok-number.ensures.part _ z (sym c.in_ok-number.ensures.says) in
    let same : to_z w64 (of_z w64 z) ≡ z = grind (arith, to_z-of_z, most) in
    rw same (omega (arith, most))

pub returns-clause-next : goal.returns-clause-next
returns-clause-next c =
    let z = c.in_ok-number.number in
    let most : unsigned_abs z ≤ 2 ^ 63 - 1 = whole_signed-most c.in_ok-number.ensures.part _ z (sym c.in_ok-number.ensures.says) in
    let same : to_z w64 (of_z w64 z) ≡ z = grind (arith, to_z-of_z, most) in
    rw same (wide_is_next c.args.bytes.now c.in_ok-number.after.now c.in_ok-rest.rest.now _ z (omega arith) c.in_ok-number.ensures c.in_ok-rest.ensures)
