use Rattle.std.proofs.Common.{◌≡◌, ℕ, ◌<◌, ◌≤◌, ◌==◌, if◌then◌else◌, length, slice_index_or}
use Rattle.tact_base.specs.Covers.{no_cover, cover_after}
use Rattle.run_model.specs.Taking.{told_cover}
use Rattle.write_log.specs.Logs.{log_of}
use Rattle.replica_core.proofs.replica.taking.raise_covers.Given as goal

abbrev pub invariant-loop-origin : goal.invariant-loop-origin
invariant-loop-origin l = record {
  sized : length l.vector ≡ length l.fn.vector;
  raised : (origin : ℕ) → origin < l.origin → slice_index_or l.vector origin no_cover
      ≡ (if origin == l.replica then slice_index_or l.fn.vector origin no_cover
      else cover_after (length (log_of l.logs origin)) (slice_index_or l.fn.vector origin no_cover) (told_cover l.message origin));
  others : (origin : ℕ) → l.origin ≤ origin → slice_index_or l.vector origin no_cover ≡ slice_index_or l.fn.vector origin no_cover;
}
