use Rattle.std.proofs.Common.{◌≡◌, ℕ, List, [], map, ap, ◌∙◌, arith}
use Rattle.std.specs.Prelude.{replicate}
use Rattle.run_model.specs.declared.entry.Message.{Message}
use Rattle.run_check.specs.Keeping.{whole_of}
use Rattle.run_check.proofs.Keeping.{none_whole}
use Rattle.run_check.proofs.outboxes.Outboxes.new.Goals as goal

pub returns : goal.returns
returns c =
    let written = c.loop-replica.written.items in
    let count : c.loop-replica._replica ≡ c.args.replicas = omega arith in
    ap (map (map (whole_of written))) c.loop-replica.invariant
    ∙ none_whole written c.loop-replica._replica
    ∙ ap (λ (n : ℕ). replicate {A = List Message} n []) count
