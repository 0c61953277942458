use Rattle.std.proofs.Common.{List, [], ◌∷◌, ap, ◌∙◌}
use Rattle.std.specs.Option.{option_map}
use Rattle.tact_base.specs.Admission.{hindrance}
use Rattle.tact_base.specs.declared.conit_list.Need.{Need}
use Rattle.access_gate.specs.Verdicts.{admission}
use Rattle.access_gate.specs.declared.gate.Facts.{Facts}
use Rattle.run_model.specs.Replies.{waiting_by}
use Rattle.replica_core.specs.Reading.{waiting_as}
use Rattle.replica_core.proofs.Reading.{waiting_as-one}
use Rattle.replica_core.proofs.replica.Replica.need_refusal.Goals as goal

pub returns : goal.returns
returns c =
    let need = c.args.need.now in
    let moment = c.args.moment in
    c.waiting_as.ensures ∙ ap waiting_as (c.admit.ensures ∙ ap (λ (needs : List Need). admission moment needs (c.facts.result ∷ [])) c.only.ensures)
    ∙ waiting_as-one moment need c.facts.result
    ∙ ap (λ (facts : Facts). option_map (waiting_by need moment) (hindrance need facts.outs facts.tentative facts.slowest facts.late)) c.facts.ensures.facts
