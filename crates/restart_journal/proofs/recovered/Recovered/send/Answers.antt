use Rattle.std.proofs.Common.{◌≡◌, ℕ, List, refl, sym, ap, ◌∙◌}
use Rattle.run_model.specs.declared.entry.Act.TheVariants as act
use Rattle.run_model.specs.declared.entry.Message.{Message}
use Rattle.run_record.specs.declared.short.ShortAct.TheVariants as short
use Rattle.restart_journal.specs.declared.parts.Told.TheVariants as told
use Rattle.restart_journal.proofs.Following.{made_and_put, send_is_told}
use Rattle.restart_journal.proofs.recovered.Recovered.send.Goals as goal

pub returns-clause-ok : goal.returns-clause-ok
returns-clause-ok c =
    let message = c.in_ok-message.message in
    let due = c.in_ok-message.ensures.due c.args.self.now.stored c.requires.in_step in
    let to : message.to ≡ c.args.to = ap (λ (m : Message). m.to) due in
    let firsts : message.firsts ≡ c.args.firsts =
    sym c.items.ensures ∙ c.are_same.ensures.0 c.if-not-are_same.false ∙ c.items-else-message-number.ensures in
    made_and_put c.args.self.now (record c.args.self.now { replica = c.send.new.self }) c.store.new.self c.requires.in_step c.args.replica c.args.moment c.requires.replica c.requires.in_time
    (act.Send message) (λ part. act.Send message) refl
    c.in_ok-message.ensures.goes_on c.in_ok-message.ensures.same refl c.store.ensures.same
    (told.Step (short.Send c.args.to c.args.number c.args.firsts)) (send_is_told message c.args.to c.args.number c.args.firsts to c.if-message-number.false firsts) c.store.result c.store.ensures.ok
