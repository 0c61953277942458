use Rattle.std.proofs.Common.{◌≡◌, List, refl, sym, ap₂, ◌∙◌}
use Rattle.run_model.specs.Histories.{calls_in}
use Rattle.run_model.specs.declared.call.Reply.{Reply}
use Rattle.run_model.specs.declared.entry.Act.TheVariants as act
use Rattle.run_model.specs.declared.entry.Entry.{Entry}
use Rattle.run_record.specs.declared.short.ShortAct.TheVariants as short
use Rattle.run_record.proofs.RequestRange.{request_in_range}
use Rattle.restart_journal.specs.declared.parts.Told.TheVariants as told
use Rattle.restart_journal.proofs.Following.{made_and_put}
use Rattle.restart_journal.proofs.recovered.Recovered.call.Goals as goal

pub call-requires-clause-in_range : goal.call-requires-clause-in_range
call-requires-clause-in_range c = request_in_range c.args.self.now.replica.core.setup c.args.request c.requires.act.2

pub returns-clause-ok : goal.returns-clause-ok
returns-clause-ok c =
    let calls : calls_in c.args.self.now.stored c.args.client ≡ c.args.number =
    sym (c.if-number-calls.false ∙ c.calls.ensures ∙ c.requires.in_step.counts.calls c.args.client c.requires.act.0) in
    let reply : c.in_ok-due.due ≡ c.args.reply = sym (c.are_same_replies.ensures.0 c.if-not-are_same_replies.false) in
    let acts = λ (part : List Entry). act.Call c.args.client (calls_in part c.args.client) c.args.request c.in_ok-due.due in
    made_and_put c.args.self.now (record c.args.self.now { replica = c.call.new.self }) c.store.new.self c.requires.in_step c.args.replica c.args.moment c.requires.replica c.requires.in_time
    (act.Call c.args.client c.args.number c.args.request c.args.reply) acts
    (ap₂ (λ n (r : Reply). act.Call c.args.client n c.args.request r) calls reply)
    c.in_ok-due.ensures.goes_on c.in_ok-due.ensures.same refl c.store.ensures.same
    (told.Step (short.Call c.args.client c.args.number c.args.request c.args.reply)) refl c.store.result c.store.ensures.ok
