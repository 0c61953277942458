use Rattle.std.proofs.Common.{◌≡◌, ◌≤◌, ◌++◌, length}
use Rattle.std.specs.Vec.{vec_capacity}
use Rattle.run_work.proofs.Opening.{IsOpening}
use Rattle.run_work.proofs.seat.open.Given as goal

abbrev pub invariant-loop-clerk : goal.invariant-loop-clerk
invariant-loop-clerk g l = record {
  all : l.yielded ++ l.clerk-iterator.rest.items ≡ l.fn.clerks.items;
  opening : IsOpening l.fn.plan l.desk (length l.yielded) l.nodes.items l.inboxes.items l.ends.items l.keys.items;
  node_room : length l.fn.clerks.items ≤ vec_capacity l.nodes;
  inbox_room : length l.fn.clerks.items ≤ vec_capacity l.inboxes;
  end_room : length l.fn.clerks.items ≤ vec_capacity l.ends;
  key_room : length l.fn.clerks.items ≤ vec_capacity l.keys;
  ends_count : length l.ends.items ≡ length l.yielded;
  keys_count : length l.keys.items ≡ length l.yielded;
  low : g.B.Shelf.faults l.fn.shelf ≤ g.B.Shelf.faults l.shelf;
}
