use Rattle.std.proofs.Common.{[], ◌∷◌, ◌++◌, sym, ap, ◌∙◌, subst}
use Rattle.std.proofs.lemmas.Result.{on_ok_weaker}
use Rattle.run_model.specs.OwnWrites.{accepted_by}
use Rattle.run_model.specs.declared.entry.Act.{Act}
use Rattle.reference_book.specs.Books.{IsBookOf}
use Rattle.script_run.proofs.stage.calling.note.Goals as goal

pub note_call-requires : goal.note_call-requires
note_call-requires c = record {
  next = λ prints write some.
      c.requires.next prints write (ap (accepted_by c.args.entry.now.replica c.args.entry.now.moment) c.in-Call.is ∙ some);
}

pub returns : goal.returns
returns c =
    on_ok_weaker c.note_call.result
    (λ noted prints setup history is.
    subst (λ (a : Act). IsBookOf setup (history ++ record c.args.entry.now { act = a } ∷ []) c.note_call.new.book) (sym c.in-Call.is)
    (noted prints setup history c.in-Call.client c.in-Call.number is))
    c.note_call.ensures
