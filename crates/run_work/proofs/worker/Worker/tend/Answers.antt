use Rattle.std.proofs.Common.{◌≡◌, ℕ, IfSome, Option, Some, sym, subst}
use Rattle.std.specs.Prelude.{Err, Ok, OnOk, Result}
use Rattle.replica_lock.specs.Sessions.{SessionView}
use Rattle.steady_node.specs.Going.{IsUnmarked}
use Rattle.run_work.specs.Holding.{IsQuiet}
use Rattle.run_work.specs.Serving.{HasSentTo}
use Rattle.run_work.proofs.GoingOn.{IsQuiet-trans}
use Rattle.run_work.proofs.Heeding.{HasSentTo-later}
use Rattle.run_work.proofs.worker.Worker.tend.Goals as goal

-- what is sent after what was taken is sent after all that was seen before
sent_later : {A E : Type 0} (answer : Result A E) (wish : Option ℕ) (to most : ℕ) (before between after : SessionView)
    → wish ≡ Some to
    → IsQuiet most before between
    → OnOk answer (IsUnmarked after → HasSentTo to between after)
    → OnOk answer (IsUnmarked after → IfSome wish (λ (to : ℕ). HasSentTo to before after))
sent_later (Ok given) wish to most before between after is quiet sent = λ unmarked.
    subst (λ (w : Option ℕ). IfSome w (λ (to : ℕ). HasSentTo to before after)) (sym is) (HasSentTo-later to most before between after quiet (sent unmarked))
sent_later (Err fault) wish to most before between after is quiet sent = tt

pub returns-in-Some-clause-sent : goal.returns-in-Some-clause-sent
returns-in-Some-clause-sent g c =
    sent_later c.send_to.result c.args.wish c.in-Some.to 16 c.args.self.now.session c.take_some.new.self.session c.send_to.new.self.session
    c.in-Some.is c.take_some.ensures.quiet c.send_to.ensures.sent

pub returns-in-None-clause-quiet : goal.returns-in-None-clause-quiet
returns-in-None-clause-quiet g c = IsQuiet-trans 16 7 _ _ _ c.take_some.ensures.quiet c.send_due.ensures.quiet
