use Rattle.drawn_scripts.proofs.DrawnLemmas.{line_found}
use Rattle.drawn_scripts.proofs.drill.draw_step.Goals as goal

pub note-requires-clause-senders : goal.note-requires-clause-senders
note-requires-clause-senders c =
    (line_found c.args.drill.now.sent c.messages.result.now c.pick-kind.result c.pick-kind.new.self _ c.in_ok-line.line c.in-Some.line
    c.requires.among c.messages.ensures c.in_ok-line.ensures c.in-Some.is).senders

pub push-requires-in-Some : goal.push-requires-in-Some
push-requires-in-Some c =
    (line_found c.args.drill.now.sent c.messages.result.now c.pick-kind.result c.pick-kind.new.self _ c.in_ok-line.line c.in-Some.line
    c.requires.among c.messages.ensures c.in_ok-line.ensures c.in-Some.is).up
