use Rattle.std.proofs.Common.{rules, ◌≡◌, ℕ, [], slice_index, ◌∙◌}
use Rattle.tact_base.proofs.RangeLists.{mapped_more}
use Rattle.tact_base.specs.Counts.{first_index}
use Rattle.anti_entropy.specs.Counts.{firsts_of}
use Rattle.anti_entropy.proofs.CountsLemmas.{firsts_of-first_for}
use Rattle.anti_entropy.proofs.firsts.Goals as goal

pub loop-origin-preserved : goal.loop-origin-preserved
loop-origin-preserved c =
    let first : ℕ → ℕ = λ origin. first_index c.args.to origin (slice_index c.args.haves.now origin) (slice_index c.items-known.result.now origin) 0 in
    let here : c.first_index.result ≡ first c.loop-origin.origin = search rules in
    mapped_more first c.loop-origin.origin [] c.loop-origin.firsts _ c.first_index.result c.loop-origin.invariant c.in_ok-push.ensures.ok here

pub returns-clause-of_message : goal.returns-clause-of_message
returns-clause-of_message c =
    λ setup replica part are.
    let firsts : c.loop-origin.firsts ≡ firsts_of c.args.haves.now c.args.known.now c.args.to = search rules in
    firsts ∙ firsts_of-first_for setup replica part c.args.to c.args.haves.now c.args.known.now are
