use Rattle.std.proofs.Common.{◌≡◌, ℕ, ◌≤◌, List, [], get_or, map, refl, ap, ◌∙◌, arith}
use Rattle.std.proofs.lemmas.List.Elements.{All-nil}
use Rattle.conit_sums.specs.declared.Summed.{Summed}
use Rattle.conit_sums.specs.declared.Summed.TheVariants.{Plus, Minus, Order}
use Rattle.conit_sums.specs.ConitSums.{AreSumsOf, write_sum}
use Rattle.tact_base.specs.declared.conit_list.Weight.{Weight}
use Rattle.tact_base.specs.declared.limits.TheConstants.{WEIGHT_MAX}
use Rattle.conit_weights.specs.declared.running.OnConit.{OnConit}
use Rattle.conit_weights.specs.Running.{part_of, seen_of}
use Rattle.conit_weights.proofs.PartLemmas.{none_of}
use Rattle.conit_weights.proofs.running.Running.new.Goals as goal

each_none : (c : goal.In_ok-vec) (summed : Summed) (conit : ℕ) → get_or (map (part_of summed) c.in_ok-vec.field-0.items) conit 0 ≡ 0
each_none c summed conit =
    ap (λ (l : List OnConit). get_or (map (part_of summed) l) conit 0) (c.in_ok-vec.ensures.items_if_clones_equal (λ y same. same)) ∙ none_of summed c.args.conits conit

pub invariant_of-result : goal.invariant_of-result
invariant_of-result c = λ summed. record { few = omega arith; small = λ conit. omega (arith, each_none c summed conit) }

pub returns-clause-none : goal.returns-clause-none
returns-clause-none c =
    let none : (summed : Summed) → AreSumsOf (seen_of summed c.in_ok-vec.field-0.items 0) [] =
    λ summed. record {
      held = refl;
      sums = λ conit. each_none c summed conit;
      small = All-nil (λ (weights : List Weight). (conit : ℕ) → write_sum summed weights conit ≤ WEIGHT_MAX);
    } in
    record { plus = none Plus; minus = none Minus; order = none Order }
