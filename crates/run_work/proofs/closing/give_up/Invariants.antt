use Rattle.std.proofs.Common.{◌≡◌, ◌≤◌, ◌++◌, drop, length}
use Rattle.run_work.proofs.closing.give_up.Given as goal

abbrev pub invariant-loop-node : goal.invariant-loop-node
invariant-loop-node g l = record {
  all : l.yielded ++ l.node-iterator.rest.items ≡ l.fn.nodes.items;
  ends : l.ends.rest.items ≡ drop (length l.yielded) l.fn.ends.items;
  low : g.B.Shelf.faults l.fn.shelf ≤ g.B.Shelf.faults l.shelf;
}
