use Rattle.std.proofs.Common.{List, ℕ, sym, ap}
use Rattle.replica_lock.specs.Nodes.{CountsView}
use Rattle.replica_lock.proofs.LedgerLemmas.{more_at-nothing}
use Rattle.replica_lock.proofs.resuming.pay.Goals as goal

pub returns-in_default-clause-book : goal.returns-in_default-clause-book
returns-in_default-clause-book g c =
    ap (λ (b : List ℕ). let counts : CountsView = record c.args.counts.now { book = b } in counts) (sym (more_at-nothing c.args.owe c.args.counts.now.book c.in_default.is))
