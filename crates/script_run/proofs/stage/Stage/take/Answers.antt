use Rattle.std.proofs.Common.{◌≡◌, ℕ, [], get_or, refl, sym, ap, ◌∙◌, subst, arith}
use Rattle.run_model.specs.Histories.{part_of, sent_in}
use Rattle.run_model.specs.ScriptRuns.{takes_one}
use Rattle.run_model.specs.declared.entry.Act.TheVariants as act
use Rattle.run_model.specs.declared.entry.Entry.{Entry}
use Rattle.run_model.specs.declared.entry.Message.{Message}
use Rattle.replica_core.specs.Taking.{FitsAt}
use Rattle.replica_set.specs.Sets.{IsAt}
use Rattle.replica_set.proofs.SentMessages.{sent_message_fits}
use Rattle.script_text.specs.Fronts.{IsNamed}
use Rattle.script_run.specs.Stages.{Entered, Enters, IsMade, played_in}
use Rattle.script_run.specs.declared.stage.Stage.{Stage}
use Rattle.script_run.proofs.Outboxes.{is_within}
use Rattle.script_run.proofs.Entering.{is_made_quiet, enters_dated}
use Rattle.script_run.proofs.Taking.{Dated, is_dated_taking, same_taken}
use Rattle.script_run.proofs.stage.Stage.take.Goals as goal

pub date-requires : goal.date-requires
date-requires g c =
    let old = c.args.self.now in
    let keeps = c.requires.keeps in
    let box = get_or old.sent.items c.args.from [] in
    let messages = sent_in (part_of old.history.items c.args.from) in
    record {
      from = omega (arith, c.requires.from, keeps.sized);
      number = is_within box messages c.args.number c.requires.message.0 (keeps.sent c.args.from c.requires.from) c.requires.message.1.found;
    }

pub entry_at-entry-requires : goal.entry_at-entry-requires
entry_at-entry-requires g c =
    let old = c.args.self.now in
    let setup = old.set.setup in
    let keeps = c.requires.keeps in
    let from = c.args.from in
    let replica = c.args.replica in
    let number = c.args.number in
    let message = c.requires.message.0 in
    let named = c.requires.message.1 in
    let entry : Entry = record { replica = replica; moment = c.moment_of-moment.result; act = act.Take message } in
    let dated : Dated setup old.history.items old.sent.items c.date.new.sent.items from number entry =
    is_dated_taking setup old.history.items old.sent.items c.date.new.sent.items replica from number c.moment_of-moment.result message c.requires.from keeps.sized keeps.sent named c.date.ensures in
    record { from = omega (arith, c.requires.from, keeps.sized, dated.sized); number = dated.within }

pub message_taken-requires : goal.message_taken-requires
message_taken-requires g c =
    let old = c.args.self.now in
    let setup = old.set.setup in
    let keeps = c.requires.keeps in
    let from = c.args.from in
    let replica = c.args.replica in
    let number = c.args.number in
    let message = c.requires.message.0 in
    let named = c.requires.message.1 in
    let entry : Entry = record { replica = replica; moment = c.moment_of-moment.result; act = act.Take message } in
    let dated : Dated setup old.history.items old.sent.items c.date.new.sent.items from number entry =
    is_dated_taking setup old.history.items old.sent.items c.date.new.sent.items replica from number c.moment_of-moment.result message c.requires.from keeps.sized keeps.sent named c.date.ensures in
    (message, ap (λ (e : Entry). e.act) (dated.only c.entry_at-entry.result.now c.entry_at-entry.ensures))

pub take-requires-clause-fits : goal.take-requires-clause-fits
take-requires-clause-fits g c = λ core found free.
    let old = c.args.self.now in
    let setup = old.set.setup in
    let keeps = c.requires.keeps in
    let from = c.args.from in
    let replica = c.args.replica in
    let number = c.args.number in
    let message = c.requires.message.0 in
    let named = c.requires.message.1 in
    let entry : Entry = record { replica = replica; moment = c.moment_of-moment.result; act = act.Take message } in
    let dated : Dated setup old.history.items old.sent.items c.date.new.sent.items from number entry =
    is_dated_taking setup old.history.items old.sent.items c.date.new.sent.items replica from number c.moment_of-moment.result message c.requires.from keeps.sized keeps.sent named c.date.ensures in
    let taken = c.message_taken.result.now in
    let same : message ≡ taken =
    same_taken (ap (λ (e : Entry). e.act) (sym (dated.only c.entry_at-entry.result.now c.entry_at-entry.ensures)) ∙ c.message_taken.ensures) in
    subst (FitsAt core) same (sent_message_fits old.history.items old.set message core keeps.stands keeps.run named.was_sent
    (subst (λ r. IsAt old.set r core) (sym named.receiver) found) free)

pub entry_at-requires : goal.entry_at-requires
entry_at-requires g c =
    let old = c.args.self.now in
    let setup = old.set.setup in
    let keeps = c.requires.keeps in
    let from = c.args.from in
    let replica = c.args.replica in
    let number = c.args.number in
    let message = c.requires.message.0 in
    let named = c.requires.message.1 in
    let entry : Entry = record { replica = replica; moment = c.moment_of-moment.result; act = act.Take message } in
    let dated : Dated setup old.history.items old.sent.items c.date.new.sent.items from number entry =
    is_dated_taking setup old.history.items old.sent.items c.date.new.sent.items replica from number c.moment_of-moment.result message c.requires.from keeps.sized keeps.sent named c.date.ensures in
    record { from = omega (arith, c.requires.from, keeps.sized, dated.sized); number = dated.within }

pub tell-requires-clause-made : goal.tell-requires-clause-made
tell-requires-clause-made g c =
    let old = c.args.self.now in
    let setup = old.set.setup in
    let keeps = c.requires.keeps in
    let from = c.args.from in
    let replica = c.args.replica in
    let number = c.args.number in
    let message = c.requires.message.0 in
    let named = c.requires.message.1 in
    let entry : Entry = record { replica = replica; moment = c.moment_of-moment.result; act = act.Take message } in
    let dated : Dated setup old.history.items old.sent.items c.date.new.sent.items from number entry =
    is_dated_taking setup old.history.items old.sent.items c.date.new.sent.items replica from number c.moment_of-moment.result message c.requires.from keeps.sized keeps.sent named c.date.ensures in
    let taken = c.message_taken.result.now in
    let same : message ≡ taken =
    same_taken (ap (λ (e : Entry). e.act) (sym (dated.only c.entry_at-entry.result.now c.entry_at-entry.ensures)) ∙ c.message_taken.ensures) in
    let made : Entry = record { replica = replica; moment = c.moment_of-moment.result; act = act.Take taken } in
    let is_made_so : c.entry_at.result.now ≡ made =
    dated.only c.entry_at.result.now c.entry_at.ensures
    ∙ ap (λ (m : Message). let e : Entry = record { replica = replica; moment = c.moment_of-moment.result; act = act.Take m } in e) same in
    let named_taken : IsNamed setup old.history.items replica from number taken = subst (IsNamed setup old.history.items replica from number) same named in
    let mid : Stage = record old { set = c.take.new.self; sent = c.date.new.sent } in
    let is = ap (λ (moment : ℕ). let e : Entry = record { replica = replica; moment = moment; act = act.Take taken } in e) c.moment_of-moment.ensures in
    let is_made : IsMade mid made =
    is_made_quiet old keeps replica c.requires.replica c.take.new.self c.take.ensures.setup (λ part. act.Take taken) c.in-Ok.ensures.goes_on made
    is named_taken.was_sent mid refl refl refl refl refl in
    subst (IsMade mid) (sym is_made_so) is_made

pub returns-clause-enters : goal.returns-clause-enters
returns-clause-enters g c =
    let old = c.args.self.now in
    let setup = old.set.setup in
    let keeps = c.requires.keeps in
    let from = c.args.from in
    let replica = c.args.replica in
    let number = c.args.number in
    let message = c.requires.message.0 in
    let named = c.requires.message.1 in
    let entry : Entry = record { replica = replica; moment = c.moment_of-moment.result; act = act.Take message } in
    let dated : Dated setup old.history.items old.sent.items c.date.new.sent.items from number entry =
    is_dated_taking setup old.history.items old.sent.items c.date.new.sent.items replica from number c.moment_of-moment.result message c.requires.from keeps.sized keeps.sent named c.date.ensures in
    let taken = c.message_taken.result.now in
    let same : message ≡ taken =
    same_taken (ap (λ (e : Entry). e.act) (sym (dated.only c.entry_at-entry.result.now c.entry_at-entry.ensures)) ∙ c.message_taken.ensures) in
    let made : Entry = record { replica = replica; moment = c.moment_of-moment.result; act = act.Take taken } in
    let is_made_so : c.entry_at.result.now ≡ made =
    dated.only c.entry_at.result.now c.entry_at.ensures
    ∙ ap (λ (m : Message). let e : Entry = record { replica = replica; moment = c.moment_of-moment.result; act = act.Take m } in e) same in
    let named_taken : IsNamed setup old.history.items replica from number taken = subst (IsNamed setup old.history.items replica from number) same named in
    let mid : Stage = record old { set = c.take.new.self; sent = c.date.new.sent } in
    let is = ap (λ (moment : ℕ). let e : Entry = record { replica = replica; moment = moment; act = act.Take taken } in e) c.moment_of-moment.ensures in
    let is_made : IsMade mid made =
    is_made_quiet old keeps replica c.requires.replica c.take.new.self c.take.ensures.setup (λ part. act.Take taken) c.in-Ok.ensures.goes_on made
    is named_taken.was_sent mid refl refl refl refl refl in
    let last : Stage = record mid { history = c.in_ok-self.field-0 } in
    subst (λ found. Enters old last (takes_one (played_in old) replica found) c.args.out.now c.tell.new.out) (sym named_taken.found)
    (enters_dated old mid last keeps made c.args.out.now c.tell.new.out replica (λ part moment. act.Take taken) c.take.ensures.setup refl
    dated.sized dated.sent refl is is_made
    (subst (λ (e : Entry). Entered mid last e c.args.out.now c.tell.new.out) is_made_so c.in_ok-self.ensures.entered))
