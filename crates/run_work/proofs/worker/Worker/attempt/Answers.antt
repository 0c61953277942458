use Rattle.std.proofs.Common.{◌≡◌, false, refl, sym, subst}
use Rattle.locked_replica.specs.declared.loan.Loan.TheVariants as loan
use Rattle.work_load.specs.Ranges.{IsItemOf}
use Rattle.work_load.specs.declared.plan.Item.TheVariants as item
use Rattle.run_work.specs.Working.{WorkerView}
use Rattle.run_work.proofs.GoingOn.{IsQuiet-loan}
use Rattle.run_work.proofs.Heeding.{Owes-none, Owes-quiet}
use Rattle.run_work.proofs.ItemRanges.{AreNeedsInRange-of}
use Rattle.run_work.proofs.Obeying.{IsObeyed-lent, IsObeyed-restarted}
use Rattle.run_work.proofs.TryingLemmas.{HasTried-none}
use Rattle.run_work.proofs.worker.Worker.attempt.Goals as goal

pub ask-requires-in-Read-clause-in_range : goal.ask-requires-in-Read-clause-in_range
ask-requires-in-Read-clause-in_range g c =
    let node = c.args.self.now.node in
    let of = subst (IsItemOf node.desk.setup.replicas node.desk.setup.conits node.replica) c.in-Read.is c.requires.item in
    (of.0, AreNeedsInRange-of node.desk.setup c.in-Read.needs of.1)

pub returns-in-Lend-clause-later : goal.returns-in-Lend-clause-later
returns-in-Lend-clause-later g c =
    let certain : c.self.inside.session.doubt ≡ false = subst (λ (w : WorkerView). w.session.doubt ≡ false) (sym c.self.view_is) c.requires.ready.session.certain in
    let done = c.after_loan.ensures in
    let quiet = IsQuiet-loan _ _ _ _ _ _ c.lend-answer.result certain c.lend-answer.ensures.lent c.lend-answer.ensures.refused
    done.untouched done.later done.calls done.session.certain in
    rw (← c.self.view_is) quiet.later

pub returns-in-Lend-clause-tried : goal.returns-in-Lend-clause-tried
returns-in-Lend-clause-tried g c =
    let certain : c.self.inside.session.doubt ≡ false = subst (λ (w : WorkerView). w.session.doubt ≡ false) (sym c.self.view_is) c.requires.ready.session.certain in
    let done = c.after_loan.ensures in
    let quiet = IsQuiet-loan _ _ _ _ _ _ c.lend-answer.result certain c.lend-answer.ensures.lent c.lend-answer.ensures.refused
    done.untouched done.later done.calls done.session.certain in
    rw (← c.self.view_is, c.in-Lend.is)
    (HasTried-none c.after_loan.result (item.Lend c.in-Lend.holder c.in-Lend.conit c.in-Lend.amount) _ _ refl done.done quiet.calls)

pub returns-in-Lend-clause-owes : goal.returns-in-Lend-clause-owes
returns-in-Lend-clause-owes g c =
    let certain : c.self.inside.session.doubt ≡ false = subst (λ (w : WorkerView). w.session.doubt ≡ false) (sym c.self.view_is) c.requires.ready.session.certain in
    let done = c.after_loan.ensures in
    let quiet = IsQuiet-loan _ _ _ _ _ _ c.lend-answer.result certain c.lend-answer.ensures.lent c.lend-answer.ensures.refused
    done.untouched done.later done.calls done.session.certain in
    rw (← c.self.view_is) (Owes-none c.after_loan.result _ 1 _ _ done.done quiet)

pub returns-in-Lend-clause-obeyed : goal.returns-in-Lend-clause-obeyed
returns-in-Lend-clause-obeyed g c =
    let done = c.after_loan.ensures in
    let lent = c.lend-answer.ensures in
    rw (← c.self.view_is, c.in-Lend.is)
    (IsObeyed-lent _ (item.Lend c.in-Lend.holder c.in-Lend.conit c.in-Lend.amount) (loan.Out c.in-Lend.holder c.in-Lend.conit c.in-Lend.amount) _ _ _ _
    c.lend-answer.result c.after_loan.result tt refl lent.lent lent.refused lent.fault done.untouched done.marked)

pub returns-in-Back-clause-later : goal.returns-in-Back-clause-later
returns-in-Back-clause-later g c =
    let certain : c.self-in-Back.inside.session.doubt ≡ false = subst (λ (w : WorkerView). w.session.doubt ≡ false) (sym c.self-in-Back.view_is) c.requires.ready.session.certain in
    let done = c.after_loan-in-Back.ensures in
    let quiet = IsQuiet-loan _ _ _ _ _ _ c.give_back-answer.result certain c.give_back-answer.ensures.given c.give_back-answer.ensures.refused
    done.untouched done.later done.calls done.session.certain in
    rw (← c.self-in-Back.view_is) quiet.later

pub returns-in-Back-clause-tried : goal.returns-in-Back-clause-tried
returns-in-Back-clause-tried g c =
    let certain : c.self-in-Back.inside.session.doubt ≡ false = subst (λ (w : WorkerView). w.session.doubt ≡ false) (sym c.self-in-Back.view_is) c.requires.ready.session.certain in
    let done = c.after_loan-in-Back.ensures in
    let quiet = IsQuiet-loan _ _ _ _ _ _ c.give_back-answer.result certain c.give_back-answer.ensures.given c.give_back-answer.ensures.refused
    done.untouched done.later done.calls done.session.certain in
    rw (← c.self-in-Back.view_is, c.in-Back.is)
    (HasTried-none c.after_loan-in-Back.result (item.Back c.in-Back.owner c.in-Back.conit c.in-Back.amount) _ _ refl done.done quiet.calls)

pub returns-in-Back-clause-owes : goal.returns-in-Back-clause-owes
returns-in-Back-clause-owes g c =
    let certain : c.self-in-Back.inside.session.doubt ≡ false = subst (λ (w : WorkerView). w.session.doubt ≡ false) (sym c.self-in-Back.view_is) c.requires.ready.session.certain in
    let done = c.after_loan-in-Back.ensures in
    let quiet = IsQuiet-loan _ _ _ _ _ _ c.give_back-answer.result certain c.give_back-answer.ensures.given c.give_back-answer.ensures.refused
    done.untouched done.later done.calls done.session.certain in
    rw (← c.self-in-Back.view_is) (Owes-none c.after_loan-in-Back.result _ 1 _ _ done.done quiet)

pub returns-in-Back-clause-obeyed : goal.returns-in-Back-clause-obeyed
returns-in-Back-clause-obeyed g c =
    let done = c.after_loan-in-Back.ensures in
    let given = c.give_back-answer.ensures in
    rw (← c.self-in-Back.view_is, c.in-Back.is)
    (IsObeyed-lent _ (item.Back c.in-Back.owner c.in-Back.conit c.in-Back.amount) (loan.Back c.in-Back.owner c.in-Back.conit c.in-Back.amount) _ _ _ _
    c.give_back-answer.result c.after_loan-in-Back.result tt refl given.given given.refused given.fault done.untouched done.marked)

pub returns-in_ok-restart-in-Restart-clause-owes : goal.returns-in_ok-restart-in-Restart-clause-owes
returns-in_ok-restart-in-Restart-clause-owes g c =
    let certain : c.self-in-Restart.inside.session.doubt ≡ false =
    subst (λ (w : WorkerView). w.session.doubt ≡ false) (sym c.self-in-Restart.view_is) c.requires.ready.session.certain in
    let done = c.restart.ensures in
    rw (← c.self-in-Restart.view_is) (Owes-quiet _ 1 _ _ (record { later = done.on; calls = done.calls certain; doubt = done.doubt }))

pub returns-in_ok-restart-in-Restart-clause-obeyed : goal.returns-in_ok-restart-in-Restart-clause-obeyed
returns-in_ok-restart-in-Restart-clause-obeyed g c =
    let made = c.in_ok-restart-in-Restart.ensures.made in
    rw (← c.self-in-Restart.view_is, c.in-Restart.is) (IsObeyed-restarted _ _ _ made.0 made.1)
