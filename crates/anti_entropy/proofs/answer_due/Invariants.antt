use Rattle.std.proofs.Common.{ℕ, ◌<◌, ◌≤◌, length, slice_index}
use Rattle.anti_entropy.proofs.answer_due.Given as goal

abbrev pub invariant-loop-have : goal.invariant-loop-have
invariant-loop-have l = (k : ℕ) → k < length l.yielded → slice_index l.haves k ≤ slice_index l.message.haves k
