use Rattle.std.proofs.Common.{ℕ, List, [], ◌∷◌, ◌++◌, refl, ap, ◌∙◌}
use Rattle.std.proofs.lemmas.List.{map-append}
use Rattle.tact_base.proofs.RangeLists.{mapped_more}
use Rattle.tact_base.specs.Roomy.{Roomy}
use Rattle.primary_commit.specs.declared.items.Item.{Item}
use Rattle.primary_commit.proofs.LogLemmas.{items_of_all}
use Rattle.primary_commit.proofs.logs.Logs.new.Goals as goal

pub loop-origin-preserved : goal.loop-origin-preserved
loop-origin-preserved c =
    let before : List (Roomy Item) = c.loop-origin.logs.items in
    mapped_more (λ (origin : ℕ). []) c.loop-origin._origin [] (items_of_all before) (items_of_all c.push.new.self.items) [] c.loop-origin.invariant
    (ap items_of_all c.in_ok-push.ensures.items ∙ map-append (λ (log : Roomy Item). log.items) before (c.new.result ∷ [])
    ∙ ap (λ (items : List Item). items_of_all before ++ items ∷ []) c.new.ensures) refl
