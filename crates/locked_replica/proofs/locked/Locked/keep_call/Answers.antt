use Rattle.std.proofs.Common.{length, ap, arith}
use Rattle.locked_replica.proofs.locked.Locked.keep_call.Goals as goal

pub keep-requires-clause-room : goal.keep-requires-clause-room
keep-requires-clause-room g c =
    c.in_ok-make_room-2.ensures.call (omega arith) (length c.bytes.result.now) (omega (arith, ap length c.bytes.ensures.items, c.call_piece-piece.ensures.length))
