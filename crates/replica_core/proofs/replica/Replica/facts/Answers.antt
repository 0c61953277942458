use Rattle.std.proofs.Common.{◌≡◌, ◌-◌, ℕ, List, Option, ap, ap₂, ◌∙◌}
use Rattle.tact_base.specs.Covers.{slowest, first_late}
use Rattle.tact_base.specs.Sums.{order_sum}
use Rattle.tact_base.specs.WriteOrder.{tentative_past}
use Rattle.tact_base.specs.declared.write.Cover.{Cover}
use Rattle.tact_base.specs.declared.write.Late.{Late}
use Rattle.access_gate.specs.declared.gate.Facts.{Facts}
use Rattle.replica_core.specs.States.{ReplicaState}
use Rattle.replica_core.proofs.replica.Replica.facts.Goals as goal

pub returns-clause-facts : goal.returns-clause-facts
returns-clause-facts c =
    let conit = c.args.need.now.conit in
    let wanted = c.args.moment - c.args.need.now.stale in
    let build : List ℕ → ℕ → ℕ → Option Late → Facts = λ outs weight slow late. record { outs = outs; tentative = weight; slowest = slow; late = late } in
    let weight : c.tentative_weight.result ≡ order_sum (tentative_past c.args.self.now.core.writes.point c.args.self.now.core.writes.seen) conit =
    c.tentative_weight.ensures ∙ ap (λ (s : ReplicaState). order_sum (tentative_past s.core.writes.point s.core.writes.seen) conit) c.self.view_is in
    let slow : c.least_stamp.result.0 ≡ slowest c.args.self.now.core.writes.covers =
    ap (λ (pair : ℕ × ℕ). pair.0) c.least_stamp.ensures ∙ ap (λ (s : ReplicaState). slowest s.core.writes.covers) c.self.view_is in
    let late : c.first_late.result ≡ first_late c.args.self.now.core.writes.covers c.args.self.now.core.replica wanted =
    c.first_late.ensures
    ∙ ap₂ (λ (covers : List Cover) (at : ℕ). first_late covers c.self.inside.replica at) c.covers.ensures.covers c.saturating_sub.ensures
    ∙ ap (λ (s : ReplicaState). first_late s.core.writes.covers s.core.replica wanted) c.self.view_is in
    ap₂ (λ (outs : List ℕ) (n : ℕ). build outs n c.least_stamp.result.0 c.first_late.result) c.outs.ensures.outs weight
    ∙ ap₂ (build _ _) slow late
