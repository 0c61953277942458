use Rattle.std.proofs.Common.{List, [], All, subst, sym}
use Rattle.work_load.specs.Ranges.{IsBoundOf}
use Rattle.work_load.specs.declared.bounds.Bound.{Bound}
use Rattle.work_load.proofs.EntryLemmas.{All-from_each}
use Rattle.work_load.proofs.head.head_after.Goals as goal

pub setup_of-requires-clause-bounds : goal.setup_of-requires-clause-bounds
setup_of-requires-clause-bounds c =
    subst (All (IsBoundOf c.args.replicas)) (sym c.items.ensures)
    (All-from_each (λ (front : List Bound). IsBoundOf c.args.replicas) (IsBoundOf c.args.replicas) [] c.in_ok-bounds.bounds (λ front entry fits. fits)
    c.in_ok-bounds.ensures.within)
