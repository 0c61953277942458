use Rattle.std.proofs.Common.{◌≡◌, ◌-◌, ◌<◌, ◌≤◌, set, sym, ap, ◌∙◌, subst, arith, rules}
use Rattle.std.specs.Int.{w64}
use Rattle.std.specs.Prelude.{FitsSigned, unsigned_abs}
use Rattle.std.proofs.lemmas.Int.{to_z-of_z}
use Rattle.run_model.specs.Missing.{reserved}
use Rattle.replica_lock.specs.Allowances.{AllowanceView, allowance_of}
use Rattle.replica_lock.specs.Sessions.{own_calls}
use Rattle.steady_node.specs.Answered.{with_amount}
use Rattle.run_work.specs.Holding.{Holds}
use Rattle.run_work.specs.Working.{WorkerView}
use Rattle.run_work.proofs.Moving.{Holds-held, allowance-at}
use Rattle.run_work.proofs.Staying.{Owes-worker}
use Rattle.run_work.proofs.worker.Worker.write_held.Goals as goal

pub returns-clause-ready : goal.returns-clause-ready
returns-clause-ready g c =
    let node = c.self.inside.node.now in
    let calls = own_calls c.self.inside.session in
    let after = c.write_held.new.session in
    let weight = c.args.weight in
    let within = subst (λ (w : WorkerView). weight.conit < w.node.desk.setup.conits) (sym c.self.view_is) c.requires.weight.0 in
    let kept = subst (λ (w : WorkerView). Holds w.node (own_calls w.session) w.allowances) (sym c.self.view_is) c.requires.ready.held in
    let is = allowance-at _ _ _ weight.conit _ kept within c.index_mut-held.ensures.value in
    let fits : FitsSigned w64 weight.nweight = search rules in
    let size : c.unsigned_abs.result ≡ unsigned_abs weight.nweight = simp to_z-of_z at c.unsigned_abs.ensures.value in
    let enough : unsigned_abs weight.nweight ≤ reserved calls weight.conit =
    omega (arith, c.if-amount-unsigned_abs.false, c.amount.ensures, size, ap (λ (a : AllowanceView). a.amount) is) in
    let left : c.write_held.new.allowance ≡ allowance_of node weight.conit (reserved calls weight.conit - unsigned_abs weight.nweight) =
    c.in_ok-write_held.ensures.allowance ∙ ap (λ (a : AllowanceView). with_amount a (a.amount - unsigned_abs weight.nweight)) is in
    let answered = c.in_ok-write_held.ensures.answered in
    record {
      session = record { at = c.in_ok-write_held.ensures.at; certain = answered.certain };
      held = subst (λ (a : AllowanceView). Holds node (own_calls after) (set c.self.inside.allowances.items weight.conit a)) (sym left)
          (Holds-held _ _ _ _ _ weight c.args.op _ _ kept within enough answered.more);
    }

pub returns-clause-owes : goal.returns-clause-owes
returns-clause-owes g c =
    rw (← c.self.view_is) (Owes-worker _ _ c.self.invariant 1 _ c.in_ok-write_held.ensures.on _ _ c.in_ok-write_held.ensures.answered)
