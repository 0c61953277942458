use Rattle.std.proofs.Common.{◌≤◌, arith}
use Rattle.std.specs.Prelude.{unsigned_abs}
use Rattle.std.proofs.lemmas.Int.{to_z-of_z}
use Rattle.run_record.proofs.FieldLemmas.{whole_signed-most}
use Rattle.run_record.proofs.fields.signed_of.Goals as goal

pub returns-in-Ok-clause-within : goal.returns-in-Ok-clause-within
returns-in-Ok-clause-within c =
    let most : unsigned_abs c.in-Ok.number ≤ c.args.size = whole_signed-most c.args.token.now c.args.size c.in-Ok.number c.in-Ok.ensures in
    grind (arith, to_z-of_z, most)
