use Rattle.std.proofs.Common.{◌≡◌, ℕ, [], ◌∷◌, ◌++◌, refl, sym, ap, ap₂, ◌∙◌, subst}
use Rattle.run_model.specs.Histories.{part_of, calls_in}
use Rattle.run_model.specs.OwnWrites.{accepted_by}
use Rattle.run_model.specs.Replies.{reply_of}
use Rattle.run_model.specs.ScriptRuns.{Played}
use Rattle.run_model.specs.declared.call.Reply.{Reply}
use Rattle.run_model.specs.declared.entry.Act.TheVariants as act
use Rattle.run_model.specs.declared.entry.Entry.{Entry}
use Rattle.reference_book.specs.Books.{IsBookOf}
use Rattle.reference_book.proofs.Histories.{IsNextIn-due}
use Rattle.replica_set.specs.Sets.{entry_of}
use Rattle.script_run.specs.Stages.{Enters, Entered, IsMade, played_in}
use Rattle.script_run.specs.declared.stage.Stage.{Stage}
use Rattle.script_run.proofs.Calling.{is_call_of}
use Rattle.script_run.proofs.Entering.{made_due, is_made, enters_alone}
use Rattle.script_run.proofs.Stepping.{steps_by_entries}
use Rattle.script_run.proofs.stage.Stage.call.Goals as goal

pub answer-requires-clause-asks : goal.answer-requires-clause-asks
answer-requires-clause-asks g c =
    let request = c.requires.asks.0 in
    let asked = c.ask.ensures _ c.requires.asks.1 in
    let call = is_call_of c.args.self.now.set.setup c.args.self.now.history.items c.args.line.now _ c.requires.asks.1 c.requires.ready in
    record {
      client = c.args.client;
      number = c.calls-number.result;
      request = request;
      reply = asked.0;
      calls = asked.1;
      known = call.in_range.client_in;
      in_range = call.in_range.request_in;
    }

pub note-requires-clause-calls : goal.note-requires-clause-calls
note-requires-clause-calls g c =
    let request = c.requires.asks.0 in
    let asked = c.ask.ensures _ c.requires.asks.1 in
    let it = c.in_ok-answer.ensures.answered c.args.client c.calls-number.result request asked.0 asked.1 in
    (c.args.client, c.calls-number.result, request, it.reply, ap (λ (e : Entry). e.act) it.entry)

pub note-requires-clause-next : goal.note-requires-clause-next
note-requires-clause-next g c = λ prints write some.
    let request = c.requires.asks.0 in
    let asked = c.ask.ensures _ c.requires.asks.1 in
    let call = is_call_of c.args.self.now.set.setup c.args.self.now.history.items c.args.line.now _ c.requires.asks.1 c.requires.ready in
    let old = c.args.self.now in
    let keeps = c.requires.keeps in
    let replica = c.args.replica in
    let it = c.in_ok-answer.ensures.answered c.args.client c.calls-number.result request asked.0 asked.1 in
    let entry : Entry = record { replica = replica; moment = c.moment_of-moment.result; act = act.Call c.args.client c.calls-number.result request it.reply } in
    let stands = keeps.stands.parts replica c.at.result.now.core c.at.ensures in
    let number : c.calls-number.result ≡ calls_in (part_of old.history.items replica) c.args.client = c.calls-number.ensures ∙ stands.counts.calls c.args.client call.in_range.client_in in
    let is = (ap₂ (λ (moment number : ℕ). let e : Entry = record {
      replica = replica;
      moment = moment;
      act = act.Call c.args.client number request it.reply;
    } in e) c.moment_of-moment.ensures number) in
    IsNextIn-due old.set.setup old.history.items old.book (keeps.book prints) entry write
    (made_due old keeps replica call.in_range.replica_in c.answer.new.set c.answer.ensures.setup
    (λ part. act.Call c.args.client (calls_in part c.args.client) request it.reply) it.goes_on entry is tt)
    (ap (λ (e : Entry). accepted_by e.replica e.moment e.act) (sym it.entry) ∙ some)

pub tell-requires-clause-made : goal.tell-requires-clause-made
tell-requires-clause-made g c =
    let request = c.requires.asks.0 in
    let asked = c.ask.ensures _ c.requires.asks.1 in
    let call = is_call_of c.args.self.now.set.setup c.args.self.now.history.items c.args.line.now _ c.requires.asks.1 c.requires.ready in
    let old = c.args.self.now in
    let keeps = c.requires.keeps in
    let replica = c.args.replica in
    let it = c.in_ok-answer.ensures.answered c.args.client c.calls-number.result request asked.0 asked.1 in
    let entry : Entry = record { replica = replica; moment = c.moment_of-moment.result; act = act.Call c.args.client c.calls-number.result request it.reply } in
    let stands = keeps.stands.parts replica c.at.result.now.core c.at.ensures in
    let number : c.calls-number.result ≡ calls_in (part_of old.history.items replica) c.args.client = c.calls-number.ensures ∙ stands.counts.calls c.args.client call.in_range.client_in in
    let is = (ap₂ (λ (moment number : ℕ). let e : Entry = record {
      replica = replica;
      moment = moment;
      act = act.Call c.args.client number request it.reply;
    } in e) c.moment_of-moment.ensures number) in
    let mid : Stage = record old { set = c.answer.new.set; book = c.note.new.book; calling = c.answer.new.entry } in
    subst (IsMade mid) (sym it.entry)
    (is_made old keeps replica call.in_range.replica_in c.answer.new.set c.answer.ensures.setup
    (λ part. act.Call c.args.client (calls_in part c.args.client) request it.reply) it.goes_on entry is tt mid refl refl refl
    (λ prints. subst (λ (e : Entry). IsBookOf old.set.setup (old.history.items ++ e ∷ []) c.note.new.book) it.entry
    (c.in_ok-note.ensures prints old.set.setup old.history.items (keeps.book prints))))

pub returns-clause-steps : goal.returns-clause-steps
returns-clause-steps g c =
    let request = c.requires.asks.0 in
    let asked = c.ask.ensures _ c.requires.asks.1 in
    let call = is_call_of c.args.self.now.set.setup c.args.self.now.history.items c.args.line.now _ c.requires.asks.1 c.requires.ready in
    let old = c.args.self.now in
    let keeps = c.requires.keeps in
    let replica = c.args.replica in
    let client = c.args.client in
    let setup = old.set.setup in
    let it = c.in_ok-answer.ensures.answered client c.calls-number.result request asked.0 asked.1 in
    let entry : Entry = record { replica = replica; moment = c.moment_of-moment.result; act = act.Call client c.calls-number.result request it.reply } in
    let stands = keeps.stands.parts replica c.at.result.now.core c.at.ensures in
    let number : c.calls-number.result ≡ calls_in (part_of old.history.items replica) client = c.calls-number.ensures ∙ stands.counts.calls client call.in_range.client_in in
    let is = (ap₂ (λ (moment number : ℕ). let e : Entry = record {
      replica = replica;
      moment = moment;
      act = act.Call client number request it.reply;
    } in e) c.moment_of-moment.ensures number) in
    let mid : Stage = record old { set = c.answer.new.set; book = c.note.new.book; calling = c.answer.new.entry } in
    let last : Stage = record mid { history = c.in_ok-self.field-0 } in
    let due = it.due old.history.items keeps.stands in
    steps_by_entries old last c.args.line.now c.args.out.now c.tell.new.out (call.tells old.history.items)
    (subst (λ (p : Played). Enters old last p c.args.out.now c.tell.new.out) (sym (call.makes (played_in old)))
    (enters_alone old mid last keeps entry c.args.out.now c.tell.new.out replica
    (λ part moment. act.Call client (calls_in part client) request (reply_of setup replica part moment request))
    c.answer.ensures.setup refl refl
    (is ∙ ap (λ (given : Reply). entry_of old.history.items replica old.handed (act.Call client (calls_in (part_of old.history.items replica) client) request given)) due)
    (is_made old keeps replica call.in_range.replica_in c.answer.new.set c.answer.ensures.setup
    (λ part. act.Call client (calls_in part client) request it.reply) it.goes_on entry is tt mid refl refl refl
    (λ prints. subst (λ (e : Entry). IsBookOf setup (old.history.items ++ e ∷ []) c.note.new.book) it.entry
    (c.in_ok-note.ensures prints setup old.history.items (keeps.book prints))))
    (subst (λ (e : Entry). Entered mid last e c.args.out.now c.tell.new.out) it.entry c.in_ok-self.ensures.entered)))
