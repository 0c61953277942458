use Rattle.std.proofs.Common.{◌≡◌, ◌≤◌, ◌++◌, drop, length, map}
use Rattle.std.specs.Vec.{vec_capacity}
use Rattle.run_history.specs.Seats.{ClerkView}
use Rattle.run_work.proofs.Ended.{AreLeft}
use Rattle.run_work.proofs.Shelving.{AreBack}
use Rattle.run_work.proofs.closing.finish_all.Given as goal

abbrev pub invariant-loop-node : goal.invariant-loop-node
invariant-loop-node g l = record {
  all : l.yielded ++ l.node-iterator.rest.items ≡ l.fn.nodes.items;
  ends : l.ends.rest.items ≡ drop (length l.yielded) l.fn.ends.items;
  count : length l.drawn.clerks.items ≡ length l.yielded;
  parts_count : length l.drawn.parts.items ≡ length l.yielded;
  clerk_room : length l.fn.nodes.items ≤ vec_capacity l.drawn.clerks;
  part_room : length l.fn.nodes.items ≤ vec_capacity l.drawn.parts;
  parts : map (λ part. part.items) l.drawn.parts.items ≡ map (λ (clerk : ClerkView). clerk.pairs) l.drawn.clerks.items;
  left : AreLeft l.yielded l.fn.ends.items l.drawn.clerks.items;
  low : g.B.Shelf.faults l.fn.shelf ≤ g.B.Shelf.faults l.shelf;
  back : AreBack g.B.J.Journal.tells (g.B.Shelf.faults l.fn.shelf) (g.B.Shelf.faults l.shelf) (g.B.Shelf.stored l.shelf) l.fn.ends.items l.drawn.clerks.items;
}
