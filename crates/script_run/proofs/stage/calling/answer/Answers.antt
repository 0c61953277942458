use Rattle.std.proofs.Common.{◌≡◌, ℕ, refl, sym, ◌∙◌, subst}
use Rattle.run_model.specs.declared.call.Reply.{Reply}
use Rattle.run_model.specs.declared.call.Request.{Request}
use Rattle.run_model.specs.declared.entry.Act.TheVariants as act
use Rattle.run_model.specs.declared.entry.Entry.{Entry}
use Rattle.script_run.specs.Stages.{IsAnsweredBy}
use Rattle.script_run.proofs.stage.calling.answer.Goals as goal

-- one call is of one client, number and request
same_client : {client client' number number' : ℕ} {request request' : Request} {reply reply' : Reply}
    → act.Call client number request reply ≡ act.Call client' number' request' reply'
    → client ≡ client'
same_client same = cc

same_number : {client client' number number' : ℕ} {request request' : Request} {reply reply' : Reply}
    → act.Call client number request reply ≡ act.Call client' number' request' reply'
    → number ≡ number'
same_number same = cc

same_request : {client client' number number' : ℕ} {request request' : Request} {reply reply' : Reply}
    → act.Call client number request reply ≡ act.Call client' number' request' reply'
    → request ≡ request'
same_request same = cc

pub returns-in-Ok-clause-answered : goal.returns-in-Ok-clause-answered
returns-in-Ok-clause-answered c = λ client number request before asks.
    let old = c.args.set.now in
    let new = c.call.new.self in
    let asked = c.args.entry.now in
    let call = c.in-Call in
    let answered : Entry = record asked { act = act.Call call.client call.number call.request c.in-Ok.given } in
    let same = sym call.is ∙ asks in
    let is : IsAnsweredBy old new asked answered c.args.handed call.client call.number call.request = record {
      reply = c.in-Ok.given;
      entry = refl;
      goes_on = c.in-Ok.ensures.goes_on;
      due = c.in-Ok.ensures.due;
    } in
    subst (λ (x : ℕ). IsAnsweredBy old new asked answered c.args.handed x number request) (same_client same)
    (subst (λ (x : ℕ). IsAnsweredBy old new asked answered c.args.handed call.client x request) (same_number same)
    (subst (λ (x : Request). IsAnsweredBy old new asked answered c.args.handed call.client call.number x) (same_request same) is))
