use Rattle.std.proofs.Common.{◌∙◌, ◌++◌, ◌∷◌, [], ap}
use Rattle.thread_tests.specs.Restarts.{restart}
use Rattle.thread_tests.proofs.RestartLemmas.{restart_is_due, has_more}
use Rattle.thread_tests.proofs.history.draw_next.Goals as goal

pub draw-requires-clause-due : goal.draw-requires-clause-due
draw-requires-clause-due c =
    rw c.replica.ensures.replica
    (restart_is_due c.args.desk.now.setup c.args.clerk.now.replica c.args.count _ c.requires.drawn.drawn c.requires.drawn.replica c.requires.room)

pub returns-clause-drawn : goal.returns-clause-drawn
returns-clause-drawn c =
    let clerk = c.args.clerk.now in
    has_more c.args.desk.now c.args.count c.draw.result clerk c.draw.new.self c.requires.drawn c.draw.ensures.desk c.draw.ensures.replica
    (c.draw.ensures.drawn ∙ ap (λ replica. clerk.pairs ++ (c.draw.result, restart replica c.args.count) ∷ []) c.replica.ensures.replica)
