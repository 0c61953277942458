use Rattle.std.proofs.Common.{◌≡◌, ℕ, ◌<◌, List, [], ◌∷◌, ◌++◌, All, flat_map, length, sym, ap, ◌∙◌, subst, arith}
use Rattle.std.proofs.lemmas.List.{append-nil, append_assoc, flat_map_more, nil_from_length}
use Rattle.tact_base.specs.Roomy.{Roomy}
use Rattle.run_model.specs.declared.entry.Entry.{Entry}
use Rattle.run_history.specs.Ticks.{IsMerge}
use Rattle.run_work.specs.Placing.{all_placed}
use Rattle.run_work.proofs.PlacingLemmas.{ticks_in_part, length-all_placed, all_placed-IsMerge, all_placed-append}
use Rattle.run_work.proofs.merge.in_order.Goals as goal

pub place_part-requires : goal.place_part-requires
place_part-requires c =
    let history : List Entry = c.args.history.now in
    let before : List (Roomy (ℕ × Entry)) = c.loop-part.yielded in
    let part = c.in-Some.part in
    let after : List (Roomy (ℕ × Entry)) = c.next.new.self.rest.items in
    let whole : before ++ part ∷ after ≡ c.args.parts.items = ap (λ items. before ++ items) (sym c.in-Some.ensures.steps.0) ∙ c.loop-part.invariant.0 in
    let items = λ (part : Roomy (ℕ × Entry)). part.items in
    let size : length c.loop-part.made.items ≡ length history =
    ap length c.loop-part.invariant.1 ∙ length-all_placed c.in_ok-made.made.items (flat_map items before) ∙ c.in_ok-made.ensures ∙ c.entries.ensures in
    subst (λ count. All (λ (pair : ℕ × Entry). pair.0 < count) part.items) (sym size)
    (ticks_in_part history before after part (subst (λ parts. IsMerge (flat_map items parts) history) (sym whole) c.requires))

pub loop-part-preserved : goal.loop-part-preserved
loop-part-preserved c =
    let before : List (Roomy (ℕ × Entry)) = c.loop-part.yielded in
    let part = c.in-Some.part in
    let items = λ (part : Roomy (ℕ × Entry)). part.items in
    let first : List Entry = c.in_ok-made.made.items in (
      append_assoc before (part ∷ []) c.next.new.self.rest.items ∙ ap (λ items. before ++ items) (sym c.in-Some.ensures.steps.0) ∙ c.loop-part.invariant.0,
      c.place_part.ensures ∙ ap (λ made. all_placed made part.items) c.loop-part.invariant.1 ∙ sym (all_placed-append first (flat_map items before) part.items)
          ∙ ap (all_placed first) (flat_map_more items [] before part),
    )

pub returns : goal.returns
returns c =
    let history : List Entry = c.args.history.now in
    let all : List (Roomy (ℕ × Entry)) = c.loop-part.yielded in
    let items = λ (part : Roomy (ℕ × Entry)). part.items in
    let none : c.loop-part.part-iterator.rest.items ≡ [] = nil_from_length c.loop-part.part-iterator.rest.items (omega (arith, c.in-None.ensures.steps.0)) in
    let whole : c.args.parts.items ≡ all = sym c.loop-part.invariant.0 ∙ ap (λ rest. all ++ rest) none ∙ append-nil all in
    c.loop-part.invariant.1 ∙ all_placed-IsMerge c.in_ok-made.made.items history (flat_map items all)
    (subst (λ parts. IsMerge (flat_map items parts) history) whole c.requires) (c.in_ok-made.ensures ∙ c.entries.ensures)
