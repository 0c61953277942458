use Rattle.std.proofs.Common.{◌≡◌, length, ap, ◌∙◌, sym}
use Rattle.std.proofs.lemmas.Bool.{eqb-true, eq-eqb}
use Rattle.std.proofs.lemmas.List.{nil_from_length}
use Rattle.run_model.specs.Taking.{told_writes}
use Rattle.run_model.proofs.OriginWrites.{from_one}
use Rattle.run_model.proofs.ranges.told.is_told_to_others.Goals as goal

pub returns-else-origin-message : goal.returns-else-origin-message
returns-else-origin-message c =
    let told = told_writes c.args.message.now c.args.origin in
    let size : c.count_of.result ≡ length told = c.count_of.ensures ∙ ap (λ writes. length (from_one c.args.origin writes)) c.items.ensures in (
      λ t same. nil_from_length told (sym size ∙ eqb-true c.count_of.result 0 t),
      λ none. eq-eqb c.count_of.result 0 (size ∙ ap length (none c.if-origin-message.false)),
    )
