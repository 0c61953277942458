use Rattle.std.proofs.Common.{List, sym, subst}
use Rattle.run_model.specs.Runs.{WasSent}
use Rattle.run_model.specs.declared.entry.Entry.{Entry}
use Rattle.locked_replica.specs.Parcels.{HasSending}
use Rattle.locked_replica.proofs.Making.{sent-last, sender-due}
use Rattle.locked_replica.proofs.sending.draw_sending.Goals as goal

pub draw-requires-clause-sent : goal.draw-requires-clause-sent
draw-requires-clause-sent c = subst (WasSent c.args.clerk.now.seen) (sym c.requires.sends) tt

pub invariant_of-result : goal.invariant_of-result
invariant_of-result c =
    let drawn = c.draw.ensures.drawn in
    subst (λ (seen : List Entry). HasSending seen c.args.message) (sym c.note.ensures.seen)
    (sent-last drawn.front c.draw.new.clerk.seen c.args.entry c.args.message drawn.seen c.requires.sends (sender-due _ _ c.args.entry c.args.message c.requires.due c.requires.sends))
