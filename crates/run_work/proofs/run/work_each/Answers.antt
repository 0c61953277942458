use Rattle.std.proofs.Common.{◌≡◌, List, length, arith, rules}
use Rattle.run_work.specs.Working.{WorkerView}
use Rattle.run_work.proofs.Finishing.{map_kept}
use Rattle.run_work.proofs.run.work_each.Goals as goal

pub returns-clause-clients : goal.returns-clause-clients
returns-clause-clients g c =
    let before : List WorkerView = c.args.workers.now in
    let after : List WorkerView = c.for_each_mut.new.s in
    let size : length after ≡ length before = search rules in
    map_kept (λ (worker : WorkerView). worker.client) before after size (λ at d within. let call = (c.for_each_mut.ensures at d within).1 in grind arith)
