use Rattle.std.proofs.Common.{◌≡◌, ◌+◌, ◌≤◌, ◌++◌, length, vec_len}
use Rattle.std.specs.Vec.{vec_capacity}
use Rattle.tact_base.proofs.pieces.append_pieces.Given as goal

abbrev pub invariant-loop-rest : goal.invariant-loop-rest
invariant-loop-rest g l = (l.list.items ++ l.rest ≡ l.initial.list.items ++ l.items)
    × (vec_len l.list + length l.rest ≡ vec_len l.initial.list + length l.items)
    × (vec_len l.list + length l.rest ≤ vec_capacity l.list)
    × (vec_capacity l.initial.list ≤ vec_capacity l.list)

abbrev pub decreases-loop-rest : goal.decreases-loop-rest
decreases-loop-rest g l = length l.rest
