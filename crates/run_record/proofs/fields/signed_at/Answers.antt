use Rattle.std.proofs.Common.{◌≡◌, ◌≤◌, arith, to_z, of_z}
use Rattle.std.specs.Int.{w64}
use Rattle.std.specs.Prelude.{unsigned_abs}
use Rattle.std.proofs.lemmas.Int.{to_z-of_z}
use Rattle.run_record.proofs.TokensInFront.{signed_at-next}
use Rattle.run_record.proofs.fields.signed_at.Goals as goal

pub returns-in-Some-clause-number : goal.returns-in-Some-clause-number
returns-in-Some-clause-number c =
    let z = c.in-Some.number in
    let most : unsigned_abs z ≤ c.args.size = c.in-Some.ensures.within in
    let same : to_z w64 (of_z w64 z) ≡ z = grind (arith, to_z-of_z, most, c.requires) in
    rw same (signed_at-next c.args.rest.now c.in-Some.after.now c.args.size z c.in-Some.ensures.next)
