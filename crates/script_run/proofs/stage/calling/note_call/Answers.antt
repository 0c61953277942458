use Rattle.std.proofs.Common.{◌≡◌, ℕ, List, Option, None, Some, refl, sym, ap, ap₂, ◌∙◌}
use Rattle.tact_base.specs.declared.conit_list.Weight.{Weight}
use Rattle.tact_base.specs.declared.write.Op.{Op}
use Rattle.run_model.specs.declared.entry.Act.TheVariants as act
use Rattle.run_model.specs.OwnWrites.{asked_write, done_as, accepted_as}
use Rattle.reference_book.proofs.Histories.{IsBookOf-quiet}
use Rattle.script_run.proofs.stage.calling.note_call.Goals as goal

-- nothing was accepted where no write was done
undone : (replica moment : ℕ) (asked : Option (List Weight × Op)) (done : Option (ℕ × ℕ))
    → done ≡ None
    → accepted_as replica moment asked done ≡ None
undone replica moment (Some asked) given none = ap (accepted_as replica moment (Some asked)) none
undone replica moment None given none = refl

-- and where none was asked for
unasked : (replica moment : ℕ) (asked : Option (List Weight × Op)) (done : Option (ℕ × ℕ))
    → asked ≡ None
    → accepted_as replica moment asked done ≡ None
unasked replica moment asked given none = ap (λ (a : Option (List Weight × Op)). accepted_as replica moment a given) none

pub returns-in_default : goal.returns-in_default
returns-in_default c = λ prints setup history client number is.
    IsBookOf-quiet setup history c.args.book.now is (record { replica = c.args.replica; moment = c.args.moment; act = act.Call client number c.args.request.now c.args.reply.now })
    (undone c.args.replica c.args.moment (asked_write c.args.request.now) (done_as c.args.reply.now) (sym c.done_as.ensures ∙ c.in_default.is))

pub accept-requires : goal.accept-requires
accept-requires c =
    c.requires.next c.if-not-prints.false _
    (ap₂ (λ (asked : Option (List Weight × Op)) (done : Option (ℕ × ℕ)). accepted_as c.args.replica c.args.moment asked done) (ap asked_write c.in-Write.is)
    (sym c.done_as.ensures ∙ c.in-Some.is))

pub accept-requires-in-Held : goal.accept-requires-in-Held
accept-requires-in-Held c =
    c.requires.next c.if-not-prints.false _
    (ap₂ (λ (asked : Option (List Weight × Op)) (done : Option (ℕ × ℕ)). accepted_as c.args.replica c.args.moment asked done)
    (ap asked_write c.in-Held.is ∙ ap (λ (weights : List Weight). let a : List Weight × Op = (weights, c.in-Held.op) in Some a) (sym c.in_ok-only-in-Held.ensures))
    (sym c.done_as.ensures ∙ c.in-Some.is))

pub returns-in-Reserve : goal.returns-in-Reserve
returns-in-Reserve c = λ prints setup history client number is.
    IsBookOf-quiet setup history c.args.book.now is (record { replica = c.args.replica; moment = c.args.moment; act = act.Call client number c.args.request.now c.args.reply.now })
    (unasked c.args.replica c.args.moment (asked_write c.args.request.now) (done_as c.args.reply.now) (ap asked_write c.in-Reserve.is))

pub returns-in-Release : goal.returns-in-Release
returns-in-Release c = λ prints setup history client number is.
    IsBookOf-quiet setup history c.args.book.now is (record { replica = c.args.replica; moment = c.args.moment; act = act.Call client number c.args.request.now c.args.reply.now })
    (unasked c.args.replica c.args.moment (asked_write c.args.request.now) (done_as c.args.reply.now) (ap asked_write c.in-Release.is))

pub returns-in-Read : goal.returns-in-Read
returns-in-Read c = λ prints setup history client number is.
    IsBookOf-quiet setup history c.args.book.now is (record { replica = c.args.replica; moment = c.args.moment; act = act.Call client number c.args.request.now c.args.reply.now })
    (unasked c.args.replica c.args.moment (asked_write c.args.request.now) (done_as c.args.reply.now) (ap asked_write c.in-Read.is))
