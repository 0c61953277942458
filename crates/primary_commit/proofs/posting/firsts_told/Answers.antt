use Rattle.std.proofs.Common.{ℕ, List, [], ◌∙◌, ap, get_or, length, min}
use Rattle.tact_base.proofs.RangeLists.{mapped_more}
use Rattle.primary_commit.specs.declared.items.Item.{Item}
use Rattle.primary_commit.proofs.posting.firsts_told.Goals as goal

pub loop-origin-preserved : goal.loop-origin-preserved
loop-origin-preserved c =
    let first = λ (origin : ℕ). min (length (get_or c.args.logs.now.logs origin [])) (get_or c.args.given.now origin 0) in
    mapped_more first c.loop-origin.origin [] c.loop-origin.firsts c.push.new.self c.min.result c.loop-origin.invariant c.in_ok-push.ensures.ok
    (c.min.ensures ∙ ap (λ (log : List Item). min (length log) (get_or c.args.given.now c.loop-origin.origin 0)) c.log.ensures)
