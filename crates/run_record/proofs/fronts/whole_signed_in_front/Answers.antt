use Rattle.std.proofs.Common.{◌≡◌, ◌≤◌, arith, sym, to_z, of_z}
use Rattle.std.specs.Int.{w64}
use Rattle.std.specs.Prelude.{unsigned_abs}
use Rattle.std.proofs.lemmas.Int.{to_z-of_z}
use Rattle.run_record.proofs.FieldLemmas.{whole_signed-most}
use Rattle.run_record.proofs.TokensInFront.{signed_is_next}
use Rattle.run_record.proofs.fronts.whole_signed_in_front.Goals as goal

pub returns-clause-within : goal.returns-clause-within
returns-clause-within c =
    let z = c.in_ok-value.value in
    let most : unsigned_abs z ≤ c.args.size = whole_signed-most c.in_ok-value.ensures.part c.args.size z (sym c.in_ok-value.ensures.says) in
    let same : to_z w64 (of_z w64 z) ≡ z = grind (arith, to_z-of_z, most, c.requires) in
    rw same most

pub returns-clause-next : goal.returns-clause-next
returns-clause-next c =
    let z = c.in_ok-value.value in
    let most : unsigned_abs z ≤ c.args.size = whole_signed-most c.in_ok-value.ensures.part c.args.size z (sym c.in_ok-value.ensures.says) in
    let same : to_z w64 (of_z w64 z) ≡ z = grind (arith, to_z-of_z, most, c.requires) in
    rw same (signed_is_next c.args.bytes.now c.in_ok-value.after.now c.in_ok-rest.rest.now c.args.size z c.in_ok-value.ensures c.in_ok-rest.ensures)
