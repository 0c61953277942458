use Rattle.std.proofs.Common.{◌≡◌, drop}
use Rattle.run_model.specs.Replies.{first_some}
use Rattle.replica_core.specs.Reading.{need_refusal}
use Rattle.replica_core.proofs.replica.Replica.first_refusal.Given as goal

-- the first refusal is that of the needs that are left
abbrev pub invariant-loop-need : goal.invariant-loop-need
invariant-loop-need l =
    first_some (need_refusal l.self.core l.moment) l.needs ≡ first_some (need_refusal l.self.core l.moment) (drop l.need-index l.needs)
