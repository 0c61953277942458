use Rattle.std.proofs.Common.{◌≡◌, ◌++◌, flat_map}
use Rattle.run_work.specs.Placing.{all_placed}
use Rattle.run_work.proofs.merge.in_order.Given as goal

abbrev pub invariant-loop-part : goal.invariant-loop-part
invariant-loop-part l =
    (l.yielded ++ l.part-iterator.rest.items ≡ l.fn.parts.items)
    × (l.made.items ≡ all_placed l.initial.made.items (flat_map (λ part. part.items) l.yielded))
