use Rattle.std.proofs.Common.{◌≡◌, arith, to_z, of_z}
use Rattle.std.specs.Int.{w64}
use Rattle.std.proofs.lemmas.Int.{to_z-of_z}
use Rattle.run_record.proofs.FrontLemmas.{any_signed_at-next}
use Rattle.run_record.proofs.call_tokens.any_signed_at.Goals as goal

pub returns-in-Some : goal.returns-in-Some
returns-in-Some c =
    let z = c.in-Some.number in
    let within = c.in-Some.ensures.within in
    let same : to_z w64 (of_z w64 z) ≡ z = grind (arith, to_z-of_z, within) in
    rw same (any_signed_at-next c.args.rest.now c.in-Some.after.now z c.in-Some.ensures.next)
