use Rattle.std.proofs.Common.{◌≡◌, ◌-◌, ◌-ℤ◌, ℤ, unsigned_abs, FitsSigned, rules, ap₂, ◌∙◌}
use Rattle.std.specs.Int.{w64}
use Rattle.std.specs.Option.{option_map_or}
use Rattle.std.proofs.lemmas.Int.{to_z-of_z}
use Rattle.run_model.specs.Histories.{part_of}
use Rattle.run_model.specs.Reference.{num_error, order_error, age}
use Rattle.reference_book.proofs.Ages.{moments_rise, age-is}
use Rattle.reference_book.proofs.book.Book.errors.Goals as goal

pub returns : goal.returns
returns c = λ history run is stands.
    let core = c.args.view.now.core in
    let part = part_of history core.replica in
    let oldest = c.oldest_unseen-oldest.result in
    let book_fits : FitsSigned w64 c.value.result = search rules in
    let view_fits : FitsSigned w64 c.value-2.result = search rules in
    let num : c.abs_diff.result ≡ num_error core.setup history core.replica c.args.conit =
    c.abs_diff.ensures
    ∙ ap₂ (λ (true_value seen : ℤ). unsigned_abs (true_value -ℤ seen)) (to_z-of_z w64 c.value.result book_fits ∙ c.value.ensures.of_history core.setup history is)
    (to_z-of_z w64 c.value-2.result view_fits ∙ c.value-2.ensures.of_part part stands) in
    let order : c.tentative_weight.result ≡ order_error core.setup history core.replica c.args.conit = c.tentative_weight.ensures.of_part part stands in
    let told : c.map_or.result ≡ option_map_or (λ earliest. c.args.moment - earliest) oldest 0 = search rules in
    let years : c.map_or.result ≡ age core.setup history core.replica c.args.moment =
    told ∙ age-is history c.args.self.now core run is stands c.args.moment oldest (c.oldest_unseen-oldest.ensures (moments_rise history c.args.self.now core run is stands)) in
    cc
