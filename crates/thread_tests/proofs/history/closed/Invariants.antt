use Rattle.std.proofs.Common.{◌≡◌, ◌++◌, map}
use Rattle.thread_tests.proofs.history.closed.Given as goal

abbrev pub invariant-loop-clerk : goal.invariant-loop-clerk
invariant-loop-clerk l =
    (l.yielded ++ l.clerk-iterator.rest.items ≡ l.fn.drawn.items) × (l.clerks.items ≡ map (λ one. one.clerk) l.yielded)
