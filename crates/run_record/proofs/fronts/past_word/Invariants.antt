use Rattle.std.proofs.Common.{◌≡◌, take}
use Rattle.run_record.proofs.fronts.past_word.Given as goal

abbrev pub invariant-loop-place : goal.invariant-loop-place
invariant-loop-place l = take l.place l.rest ≡ take l.place l.word
