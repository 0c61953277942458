use Rattle.std.proofs.Common.{◌≡◌, ◌<◌, IfOk, ap, ◌∙◌, subst, arith}
use Rattle.tact_base.specs.Setup.{Setup}
use Rattle.replica_lock.specs.Allowances.{AllowanceView}
use Rattle.replica_lock.specs.Answering.{HasAnswered}
use Rattle.locked_replica.specs.Locks.{IsLocked}
use Rattle.replica_lock.specs.Sessions.{TurnView}
use Rattle.replica_lock.proofs.Calling.{IsAllowanceOf-empty, book-plain, first-conit, totals-plain}
use Rattle.replica_lock.proofs.Turning.{turn-setup}
use Rattle.replica_lock.proofs.turn.Turn.call.Goals as goal

pub empty-none-requires-clause-conit : goal.empty-none-requires-clause-conit
empty-none-requires-clause-conit g c = first-conit c.self.inside.node.now.desk.setup c.self.invariant.0.keeps.sound

pub ask-requires-clause-allowance : goal.ask-requires-clause-allowance
ask-requires-clause-allowance g c =
    IsAllowanceOf-empty c.self.inside.node.now c.args.self.now.node 0 c.empty-none.result c.empty-none.ensures.empty (ap (λ (t : TurnView). t.node) c.self.view_is)
    (first-conit c.self.inside.node.now.desk.setup c.self.invariant.0.keeps.sound)

pub returns-clause-totals : goal.returns-clause-totals
returns-clause-totals g c =
    let setup = turn-setup c.self.inside.node.now c.self.inside.counts c.self.inside.locked.value c.self.invariant.0 in
    let width = subst (λ (t : TurnView). t.node.desk.setup.conits ≡ t.state.core.setup.conits) c.self.view_is (ap (λ (s : Setup). s.conits) setup) in
    let some = subst (λ (t : TurnView). 0 < t.node.desk.setup.conits) c.self.view_is (first-conit c.self.inside.node.now.desk.setup c.self.invariant.0.keeps.sound) in
    let conit = ap (λ (a : AllowanceView). a.conit) c.empty-none.ensures.empty in
    let answered = subst (λ session. IfOk c.ask.result (HasAnswered c.args.self.now c.ask.new.self session c.ask.new.session c.args.moment 0 c.args.request)) c.empty-none.ensures.session
    (subst (λ at. IfOk c.ask.result (HasAnswered c.args.self.now c.ask.new.self c.empty-none.new.session c.ask.new.session c.args.moment at c.args.request)) conit c.ask.ensures.answered) in
    totals-plain c.args.self.now c.ask.new.self c.args.session.now c.ask.new.session c.args.moment c.args.request c.requires.plain
    (subst (λ (t : TurnView). IsLocked t.state) c.self.view_is c.stand.ensures) c.ask.ensures.kept
    (c.requires.session.at.conits ∙ width) (omega (arith, c.requires.session.at.conits, some)) c.ask.result answered

pub returns-clause-book : goal.returns-clause-book
returns-clause-book g c =
    let setup = turn-setup c.self.inside.node.now c.self.inside.counts c.self.inside.locked.value c.self.invariant.0 in
    let width = subst (λ (t : TurnView). t.node.desk.setup.conits ≡ t.state.core.setup.conits) c.self.view_is (ap (λ (s : Setup). s.conits) setup) in
    let some = subst (λ (t : TurnView). 0 < t.node.desk.setup.conits) c.self.view_is (first-conit c.self.inside.node.now.desk.setup c.self.invariant.0.keeps.sound) in
    let conit = ap (λ (a : AllowanceView). a.conit) c.empty-none.ensures.empty in
    let answered = subst (λ session. IfOk c.ask.result (HasAnswered c.args.self.now c.ask.new.self session c.ask.new.session c.args.moment 0 c.args.request)) c.empty-none.ensures.session
    (subst (λ at. IfOk c.ask.result (HasAnswered c.args.self.now c.ask.new.self c.empty-none.new.session c.ask.new.session c.args.moment at c.args.request)) conit c.ask.ensures.answered) in
    book-plain c.args.self.now c.ask.new.self c.args.session.now c.ask.new.session c.args.moment c.args.request c.requires.plain
    (subst (λ (t : TurnView). IsLocked t.state) c.self.view_is c.stand.ensures) c.ask.ensures.kept
    (c.requires.session.at.conits ∙ width) (omega (arith, c.requires.session.at.conits, some)) c.ask.result answered
