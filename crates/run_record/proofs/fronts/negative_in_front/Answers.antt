use Rattle.std.proofs.Common.{◌≡◌, ◌≤◌, arith, ap, to_z, of_z, ◌∙◌}
use Rattle.std.specs.Int.{w64}
use Rattle.std.specs.Prelude.{unsigned_abs}
use Rattle.std.proofs.lemmas.Int.{to_z-of_z}
use Rattle.std.proofs.lemmas.List.{take_rest}
use Rattle.run_record.proofs.FrontLemmas.{minus_abs, minus_begins}
use Rattle.run_record.proofs.fronts.negative_in_front.Goals as goal

pub returns : goal.returns
returns c =
    let z = c.negated.result in
    let most : unsigned_abs z ≤ c.args.size = omega (arith, ap unsigned_abs c.negated.ensures ∙ minus_abs c.in_ok-value.value, c.if-value-size.false) in
    let same : to_z w64 (of_z w64 z) ≡ z = grind (arith, to_z-of_z, most, c.requires) in
    rw take_rest (minus_begins c.args.digits.now c.args.size c.in_ok-value.value c.in_ok-value.count _ c.in_ok-value.ensures c.if-value-size.false (same ∙ c.negated.ensures))
