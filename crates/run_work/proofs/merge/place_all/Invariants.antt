use Rattle.std.proofs.Common.{◌≡◌, take, drop}
use Rattle.run_work.specs.Placing.{all_placed}
use Rattle.run_work.proofs.merge.place_all.Given as goal

abbrev pub invariant-loop-pair : goal.invariant-loop-pair
invariant-loop-pair l =
    (l.made.items ≡ all_placed l.initial.made.items (take l.pair-index l.initial.pairs))
    × (drop l.pair-index l.pairs ≡ drop l.pair-index l.initial.pairs)
