use Rattle.std.proofs.Common.{◌≡◌, List, [], IfOk, OnOk, length, map, sym, ◌∙◌, subst, rules}
use Rattle.std.specs.Vec.{with_items}
use Rattle.tact_base.specs.Setup.{Setup}
use Rattle.work_load.specs.Entries.{EachAfter}
use Rattle.work_load.specs.Ranges.{IsClientAfter}
use Rattle.work_load.specs.declared.plan.Client.{Client}
use Rattle.run_work.specs.Ends.{AreBusy, AreEnds, AreUnmarked, HaveEnded, HaveServed}
use Rattle.run_work.specs.Working.{WorkerView}
use Rattle.run_work.specs.declared.leaving.Left.{Left}
use Rattle.run_work.proofs.Ending.{HaveRosters-kept}
use Rattle.run_work.proofs.Finishing.{clients_written}
use Rattle.run_work.proofs.run.work_all.Goals as goal
use Rattle.run_work.proofs.run.work_all.Goals.{After-work_each}

-- the workers have the plan's clients
have_clients : (g : _) (c : After-work_each g)
    → map (λ (worker : WorkerView). worker.client) (with_items c.in_ok-workers.workers c.work_each.new.workers).items ≡ c.args.plan.now.clients
have_clients g c =
    let size : length c.work_each.new.workers ≡ c.in_ok-workers.workers.len = search rules in
    let kept : map (λ (worker : WorkerView). worker.client) c.work_each.new.workers ≡ map (λ (worker : WorkerView). worker.client) c.in_ok-workers.workers.items = search rules in
    clients_written (λ (worker : WorkerView). worker.client) c.in_ok-workers.workers c.work_each.new.workers c.args.plan.now.clients size kept
    (c.in_ok-workers.ensures.clients ∙ c.clients.ensures.clients)

pub leave_all-requires-clause-clients : goal.leave_all-requires-clause-clients
leave_all-requires-clause-clients g c =
    subst (EachAfter (IsClientAfter c.args.sites.now.desk.setup.replicas c.args.sites.now.desk.setup.conits) []) (sym (have_clients g (goal.at.leave_all-requires-clause-clients g c).After-work_each))
    (subst (λ (setup : Setup). EachAfter (IsClientAfter setup.replicas setup.conits) [] c.args.plan.now.clients) (sym c.requires.setup) c.clients.ensures.sound.clients)

pub returns-clause-ends : goal.returns-clause-ends
returns-clause-ends g c =
    subst (λ (clients : List Client). IfOk c.leave_all.result (λ (left : Left). AreEnds clients clients left.notes.items c.args.sites.now c.leave_all.new.ends))
    (have_clients g (goal.at.returns-clause-ends g c).After-work_each) c.leave_all.ensures.ends

pub returns-clause-served : goal.returns-clause-served
returns-clause-served g c =
    subst (λ (clients : List Client). IfOk c.leave_all.result (λ (left : Left). AreUnmarked c.leave_all.new.ends → HaveServed c.args.sites.now.desk.setup clients left.notes.items left.stop))
    (have_clients g (goal.at.returns-clause-served g c).After-work_each) c.leave_all.ensures.served

pub returns-clause-ended : goal.returns-clause-ended
returns-clause-ended g c =
    subst (λ (clients : List Client). IfOk c.leave_all.result (λ (left : Left). HaveEnded c.args.tries clients left.notes.items left.stop))
    (have_clients g (goal.at.returns-clause-ended g c).After-work_each) c.leave_all.ensures.ended

pub returns-clause-busy : goal.returns-clause-busy
returns-clause-busy g c =
    subst (λ (clients : List Client). OnOk c.leave_all.result (AreBusy clients 0 c.leave_all.new.ends))
    (have_clients g (goal.at.returns-clause-busy g c).After-work_each) c.leave_all.ensures.busy

pub returns-clause-rosters : goal.returns-clause-rosters
returns-clause-rosters g c =
    HaveRosters-kept c.args.sites.now.nodes c.seat_all.new.ends c.leave_all.new.ends c.leave_all.ensures.rosters c.in_ok-workers.ensures.rosters
