use Rattle.std.proofs.Common.{All, length, drop}
use Rattle.std.specs.List.{range_with_len, flat_map}
use Rattle.replica_core.specs.States.{log_at}
use Rattle.reference_book.specs.Books.{HaveRisingMoments, IsLeast, moments_of, log_in}
use Rattle.reference_book.proofs.book.Book.oldest_unseen.Given as goal

abbrev pub invariant-loop-origin : goal.invariant-loop-origin
invariant-loop-origin l =
    All HaveRisingMoments l.self.logs
    → IsLeast (moments_of (flat_map (λ origin. drop (length (log_at l.view.core origin)) (log_in l.self origin)) (range_with_len 0 l.origin))) l.oldest
