use Rattle.std.proofs.Common.{sym, ◌∙◌}
use Rattle.tact_base.specs.declared.conit_list.Need.{Need}
use Rattle.replica_core.specs.Reading.{need_refusal}
use Rattle.replica_core.proofs.FirstRefusals.{first_next, first_later}
use Rattle.replica_core.proofs.replica.Replica.first_refusal.Goals as goal

pub returns-then-is_some : goal.returns-then-is_some
returns-then-is_some c =
    let none : Need = record { conit = 0; num = 0; order = 0; stale = 0 } in
    sym (c.loop-need.invariant
    ∙ first_next (need_refusal c.args.self.now.core c.args.moment) c.args.needs.now c.loop-need.need-index none c.loop-need-test.true c.need_refusal-refusal.result
    c.need_refusal-refusal.ensures
    (sym c.is_some.ensures ∙ c.if-is_some.true))

pub loop-need-preserved : goal.loop-need-preserved
loop-need-preserved c =
    let none : Need = record { conit = 0; num = 0; order = 0; stale = 0 } in
    c.loop-need.invariant
    ∙ first_later (need_refusal c.args.self.now.core c.args.moment) c.args.needs.now c.loop-need.need-index none c.loop-need-test.true c.need_refusal-refusal.result
    c.need_refusal-refusal.ensures
    (sym c.is_some.ensures ∙ c.if-is_some.false)
