use Rattle.std.proofs.Common.{[]}
use Rattle.work_load.proofs.EntryLemmas.{All-from_each}
use Rattle.work_load.specs.Ranges.{IsItemOf}
use Rattle.work_load.proofs.clients.items_of.Goals as goal

pub returns-clause-within : goal.returns-clause-within
returns-clause-within c =
    let fits = IsItemOf c.args.counts.replicas c.args.counts.conits c.args.counts.replica in
    All-from_each (λ before. fits) fits [] c.in_ok-entries.field-0 (λ front entry fit. fit) c.in_ok-entries.ensures.within
