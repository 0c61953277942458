use Rattle.std.proofs.Common.{◌≡◌, sym, subst}
use Rattle.replica_lock.specs.Sessions.{SessionView}
use Rattle.run_work.specs.Ends.{IsKeptStop}
use Rattle.run_work.specs.declared.leaving.Stop.{Stop}
use Rattle.run_work.proofs.Stopped.{IsKeptStop-ended}
use Rattle.run_work.proofs.leading.stop.Goals as goal

pub returns-clause-stop : goal.returns-clause-stop
returns-clause-stop g c tells kept =
    let stop : Stop = record { replica = c.replica.result; client = c.client.result; ending = c.args.ending; note = c.note.result } in
    subst (λ (s : SessionView). IsKeptStop tells c.args.node.now.desk (s.faults ≡ 0) stop) (sym c.note.ensures.session)
    (IsKeptStop-ended tells c.args.node.now.desk c.args.session.now stop kept c.note.ensures.desk c.note.ensures.seen c.replica.ensures)
