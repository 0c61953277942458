use Rattle.std.proofs.Common.{◌≡◌, List, take, flat_map}
use Rattle.tact_base.specs.declared.write.Write.{Write}
use Rattle.reference_book.proofs.book.Book.ordered.Given as goal

abbrev pub invariant-loop-log : goal.invariant-loop-log
invariant-loop-log l = l.writes.items ≡ flat_map (λ (log : List Write). log) (take l.log-index l.self.logs)
