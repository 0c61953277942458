use Rattle.std.proofs.Common.{All, sym, subst}
use Rattle.std.proofs.lemmas.List.Elements.{All-push}
use Rattle.run_model.specs.Histories.{IsPrefix}
use Rattle.run_history.specs.Seats.{NoteView}
use Rattle.run_work.proofs.run.join_all.Goals as goal

pub returns-clause-notes : goal.returns-clause-notes
returns-clause-notes c =
    subst (All (λ (note : NoteView). IsPrefix note.seen c.meet_all.new.note.seen)) (sym c.in-Some.ensures.items)
    (All-push (λ (note : NoteView). IsPrefix note.seen c.meet_all.new.note.seen) c.pop.new.self.items c.in-Some.joined c.meet_all.ensures.others c.meet_all.ensures.mine)
