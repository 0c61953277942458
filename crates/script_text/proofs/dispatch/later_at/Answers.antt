use Rattle.std.proofs.Common.{refl}
use Rattle.run_record.specs.Fields.{token_at}
use Rattle.script_text.specs.Forms.{later_at}
use Rattle.script_text.proofs.dispatch.later_at.Goals as goal

pub returns-in-None : goal.returns-in-None
unfolding later_at token_at
returns-in-None c =
    let begins = c.in_ok-word.ensures.word in
    rw (begins.is, begins.says, c.in-None.is) refl

pub returns-in-Some : goal.returns-in-Some
unfolding later_at token_at
returns-in-Some c =
    let begins = c.in_ok-word.ensures.word in
    rw (begins.is, begins.says, c.in-Some.is) (rw c.in_ok-make_room.ensures.kept at c.later_by.ensures)
