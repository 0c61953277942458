use Rattle.std.proofs.Common.{◌≡◌, ◌≤◌, ◌-◌, vec_len}
use Rattle.weight_ledger.specs.Amounts.{zeros}
use Rattle.weight_ledger.proofs.cell.zero_words.Given as goal

abbrev pub invariant-loop-words : goal.invariant-loop-words
invariant-loop-words l = (l.words.items ≡ zeros (vec_len l.words)) × (vec_len l.words ≤ l.count)

abbrev pub decreases-loop-words : goal.decreases-loop-words
decreases-loop-words l = l.count - vec_len l.words
