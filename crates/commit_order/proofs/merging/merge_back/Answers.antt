use Rattle.std.proofs.Common.{◌≡◌, ℕ, ◌+◌, ◌-◌, ◌++◌, List, take, drop, sym, ap, ◌∙◌, subst, arith}
use Rattle.std.proofs.lemmas.List.{length-set, take-set-le, take-take}
use Rattle.tact_base.specs.declared.write.Write.{Write}
use Rattle.commit_order.specs.Batches.{with_writes}
use Rattle.commit_order.proofs.MergeLemmas.{sorted-take, write_moves}
use Rattle.commit_order.proofs.merging.merge_back.Goals as goal

-- what is left of both, merged, stands before what is in its place
abbrev IsMergedAt : List Write → List Write → List Write → ℕ → ℕ → Type 0
IsMergedAt writes items whole left more = with_writes (take more writes) (take left items) ++ drop (left + more) items ≡ whole

pub place_before-place-requires-clause-sorted : goal.place_before-place-requires-clause-sorted
place_before-place-requires-clause-sorted c = rw c.loop-more.invariant.stay (sorted-take c.loop-more.left (take c.args.held c.args.items.now) c.requires.held)

pub loop-more-preserved : goal.loop-more-preserved
loop-more-preserved c =
    let kept = c.loop-more.invariant in
    let items = c.loop-more.items in
    let moved = c.move_up.new.items in
    let writes = c.args.writes.now in
    let held = take c.args.held c.args.items.now in
    let whole = with_writes writes held in
    let left = c.loop-more.left in
    let place = c.place_before-place.result in
    let more = c.loop-more.more - 1 in
    let write = c.index-writes-more.result in
    let found = c.place_before-place.ensures in
    let one_more : more + 1 ≡ c.loop-more.more = omega (arith, c.loop-more-test.true) in
    let before : IsMergedAt writes items whole left (more + 1) = subst (λ n. IsMergedAt writes items whole left n) (sym one_more) kept.merged in
    record {
      left = omega (arith, found.within, kept.left);
      more = omega (arith, kept.more);
      places = length-set moved (place + more) write ∙ (c.move_up.ensures.length ∙ kept.places);
      stay =
          take-set-le place moved (place + more) write (omega arith)
          ∙ (sym (take-take place (place + (more + 1)) moved (omega arith)) ∙ (ap (take place) c.move_up.ensures.front ∙ (take-take place (place + (more + 1)) items (omega arith)
          ∙ (sym (take-take place left items found.within) ∙ (ap (take place) kept.stay ∙ take-take place left held found.within)))));
      merged =
          write_moves writes items whole write c.requires.sorted left more place moved (omega (arith, kept.more, one_more)) found.within (omega (arith, kept.places, kept.left, kept.more, one_more))
          c.index-writes-more.is c.move_up.ensures.length c.move_up.ensures.front c.move_up.ensures.moved found.behind found.ahead before;
    }
