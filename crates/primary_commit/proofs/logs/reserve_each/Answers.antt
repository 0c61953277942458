use Rattle.std.proofs.Common.{◌<◌, ◌≤◌, List, All, length, sym, ◌∙◌, subst, arith}
use Rattle.std.proofs.lemmas.List.{take_more_set, take_all}
use Rattle.std.proofs.lemmas.List.Elements.{All-push, All-set}
use Rattle.tact_base.specs.Roomy.{Roomy}
use Rattle.primary_commit.specs.declared.items.Item.{Item}
use Rattle.primary_commit.proofs.LogLemmas.{all_at, items_same, same_count}
use Rattle.primary_commit.proofs.logs.reserve_each.Goals as goal

pub loop-place-preserved : goal.loop-place-preserved
loop-place-preserved c =
    let logs : List (Roomy Item) = c.loop-place.logs.items in
    let old : Roomy Item = c.index_mut-log.result.now in
    let new : Roomy Item = c.reserve.new.self in
    let read = c.index_mut-log.ensures.value in
    let within : c.loop-place.place < length logs = omega (arith, c.loop-place-test.true, c.len-place-end.ensures, same_count logs c.args.logs.now.items c.loop-place.invariant.items) in
    record {
      items = items_same logs c.loop-place.place old new read c.reserve.ensures.items ∙ c.loop-place.invariant.items;
      kept = λ room all.
          All-set (λ (log : Roomy Item). room ≤ log.room) logs c.loop-place.place new
          (omega (arith, c.reserve.ensures.kept, all_at room logs c.loop-place.place old (c.loop-place.invariant.kept room all) within read))
          (c.loop-place.invariant.kept room all);
      room =
          subst (All (λ (log : Roomy Item). c.args.k ≤ log.room)) (sym (take_more_set logs c.loop-place.place new within))
          (All-push (λ (log : Roomy Item). c.args.k ≤ log.room) _ new c.loop-place.invariant.room c.in_ok-reserve.ensures.ok);
    }

pub returns-clause-room : goal.returns-clause-room
returns-clause-room c =
    let logs : List (Roomy Item) = c.loop-place.logs.items in
    let whole : length logs ≤ c.loop-place.place = omega (arith, c.loop-place-test.false, c.len-place-end.ensures, same_count logs c.args.logs.now.items c.loop-place.invariant.items) in
    subst (All (λ (log : Roomy Item). c.args.k ≤ log.room)) (take_all c.loop-place.place logs whole) c.loop-place.invariant.room
