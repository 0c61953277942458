use Rattle.std.proofs.Common.{◌≡◌, List, length, take, ap, sym, ◌∙◌, arith}
use Rattle.std.proofs.lemmas.List.{length-take}
use Rattle.rollback_apply.specs.declared.layers.Layer.{Layer}
use Rattle.rollback_apply.proofs.ImageLemmas.{take-within}
use Rattle.rollback_apply.proofs.layers.Layers.replace_from.Goals as goal

pub returns-clause-applies : goal.returns-clause-applies
returns-clause-applies c count before applies =
    let layers = c.args.self.now.tentative.items in
    let from = c.args.from in
    let kept = take from layers in
    let new = c.push_all.new.layers.items in
    let many : length kept ≡ from = omega (arith, length-take from layers, c.requires.within) in
    let front : take from new ≡ kept =
    ap (λ many. take many new) (sym many) ∙ ap (λ (first : List Layer). take (length first) new) (sym c.truncate.ensures.items) ∙ c.push_all.ensures.front ∙ c.truncate.ensures.items in
    let same : take count new ≡ take count layers =
    sym (take-within count from new before) ∙ ap (take count) front ∙ take-within count from layers before in
    record {
      applied = rw same applies.applied;
      placed = rw same applies.placed;
    }
