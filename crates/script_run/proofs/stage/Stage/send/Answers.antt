use Rattle.std.proofs.Common.{◌≡◌, ℕ, ◌<◌, List, [], ◌∷◌, ◌++◌, length, get_or, set, refl, sym, ap, ap₂, ◌∙◌, subst, arith}
use Rattle.std.proofs.lemmas.List.{length-set, get_or_read}
use Rattle.std.proofs.lemmas.Option.{same_Some}
use Rattle.run_model.specs.Messages.{message_of}
use Rattle.run_model.specs.declared.entry.Act.TheVariants as act
use Rattle.run_model.specs.declared.entry.Entry.{Entry}
use Rattle.run_model.specs.declared.entry.Message.{Message}
use Rattle.script_run.specs.Stages.{AreSent, Entered, IsMade}
use Rattle.script_run.specs.declared.stage.Stage.{Stage}
use Rattle.script_run.proofs.Outboxes.{sent_more}
use Rattle.script_run.proofs.Entering.{is_made_quiet, enters_one}
use Rattle.script_run.proofs.Sending.{IsLastOf, is_last_of}
use Rattle.script_run.proofs.stage.Stage.send.Goals as goal

pub entry_at-requires : goal.entry_at-requires
entry_at-requires g c =
    let old = c.args.self.now in
    let from = c.args.from in
    let keeps = c.requires.keeps in
    let inside : from < length old.sent.items = omega (arith, c.requires.from, keeps.sized) in
    let sent = c.in_ok-send_from.ensures.sent in
    let last : IsLastOf old.sent.items c.send_from.new.sent.items from c.len-number.result sent.0 =
    is_last_of old.sent.items c.send_from.new.sent.items from c.len-number.result sent.0 inside
    (c.len-number.ensures ∙ ap length (get_or_read old.sent.items from c.index.result.now inside c.index.ensures [])) sent.1 in
    record { from = omega (arith, inside, last.sized); number = last.within }

pub tell-requires-clause-made : goal.tell-requires-clause-made
tell-requires-clause-made g c =
    let old = c.args.self.now in
    let from = c.args.from in
    let keeps = c.requires.keeps in
    let inside : from < length old.sent.items = omega (arith, c.requires.from, keeps.sized) in
    let sent = c.in_ok-send_from.ensures.sent in
    let it = sent.2 in
    let last : IsLastOf old.sent.items c.send_from.new.sent.items from c.len-number.result sent.0 =
    is_last_of old.sent.items c.send_from.new.sent.items from c.len-number.result sent.0 inside
    (c.len-number.ensures ∙ ap length (get_or_read old.sent.items from c.index.result.now inside c.index.ensures [])) sent.1 in
    let found : c.entry_at.result.now ≡ sent.0 = same_Some c.entry_at.result.now sent.0 (sym c.entry_at.ensures ∙ last.found) in
    let mid : Stage = record old { set = c.send_from.new.set; sent = c.send_from.new.sent } in
    let entry : Entry = record { replica = from; moment = c.moment_of-moment.result; act = act.Send it.message } in
    subst (IsMade mid) (sym (found ∙ it.entry))
    (is_made_quiet old keeps from c.requires.from c.send_from.new.set c.send_from.ensures.setup (λ part. act.Send it.message) it.goes_on entry
    (ap (λ (moment : ℕ). let e : Entry = record { replica = from; moment = moment; act = act.Send it.message } in e) c.moment_of-moment.ensures) tt mid refl refl refl refl refl)

pub turn-requires : goal.turn-requires
turn-requires g c =
    let old = c.args.self.now in
    let from = c.args.from in
    let keeps = c.requires.keeps in
    let inside : from < length old.sent.items = omega (arith, c.requires.from, keeps.sized) in
    let sent = c.in_ok-send_from.ensures.sent in
    let last : IsLastOf old.sent.items c.send_from.new.sent.items from c.len-number.result sent.0 =
    is_last_of old.sent.items c.send_from.new.sent.items from c.len-number.result sent.0 inside
    (c.len-number.ensures ∙ ap length (get_or_read old.sent.items from c.index.result.now inside c.index.ensures [])) sent.1 in
    record { from = omega (arith, inside, last.sized); number = last.within }

pub returns-clause-enters : goal.returns-clause-enters
returns-clause-enters g c =
    let old = c.args.self.now in
    let setup = old.set.setup in
    let from = c.args.from in
    let keeps = c.requires.keeps in
    let inside : from < length old.sent.items = omega (arith, c.requires.from, keeps.sized) in
    let sent = c.in_ok-send_from.ensures.sent in
    let it = sent.2 in
    let message = it.message in
    let last : IsLastOf old.sent.items c.send_from.new.sent.items from c.len-number.result sent.0 =
    is_last_of old.sent.items c.send_from.new.sent.items from c.len-number.result sent.0 inside
    (c.len-number.ensures ∙ ap length (get_or_read old.sent.items from c.index.result.now inside c.index.ensures [])) sent.1 in
    let found : c.entry_at.result.now ≡ sent.0 = same_Some c.entry_at.result.now sent.0 (sym c.entry_at.ensures ∙ last.found) in
    let mid : Stage = record old { set = c.send_from.new.set; sent = c.send_from.new.sent } in
    let entered : Stage = record mid { history = c.in_ok-self.field-0 } in
    let end : Stage = record entered { sent = c.turn.new.sent } in
    let entry : Entry = record { replica = from; moment = c.moment_of-moment.result; act = act.Send message } in
    let taking : Entry = record { replica = c.args.to; moment = 0; act = act.Take message } in
    let more : List Entry = get_or old.sent.items from [] ++ taking ∷ [] in
    let made : IsMade mid entry =
    is_made_quiet old keeps from c.requires.from c.send_from.new.set c.send_from.ensures.setup (λ part. act.Send message) it.goes_on entry
    (ap (λ (moment : ℕ). let e : Entry = record { replica = from; moment = moment; act = act.Send message } in e) c.moment_of-moment.ensures) tt mid refl refl refl refl refl in
    let all : end.sent.items ≡ set old.sent.items from more =
    c.turn.ensures sent.0 message last.found (ap (λ (e : Entry). e.act) it.entry) ∙ last.turned taking in
    enters_one old mid entered end keeps entry c.args.out.now c.tell.new.out c.send_from.ensures.setup refl refl refl refl made
    (subst (λ (e : Entry). Entered mid entered e c.args.out.now c.tell.new.out) (found ∙ it.entry) c.in_ok-self.ensures.entered) refl
    (ap length all ∙ length-set old.sent.items from more ∙ keeps.sized)
    (subst (λ (sent : List (List Entry)). AreSent setup (old.history.items ++ entry ∷ []) sent) (sym all)
    (sent_more old.history.items entry setup old.sent.items keeps.sent message taking refl refl c.requires.from inside))
    from (λ part moment. act.Send (message_of setup from part moment c.args.to c.args.firsts.now))
    (ap₂ (λ (moment : ℕ) (m : Message). let e : Entry = record { replica = from; moment = moment; act = act.Send m } in e) c.moment_of-moment.ensures
    (it.due old.history.items keeps.stands))
