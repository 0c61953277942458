use Rattle.std.proofs.Common.{List, ◌++◌, sym, ap₂, ◌∙◌}
use Rattle.tact_base.proofs.RangeLists.{flat_map_range_more}
use Rattle.tact_base.specs.declared.write.Write.{Write}
use Rattle.replica_core.specs.Told.{piece_of}
use Rattle.replica_core.proofs.told_logs.ToldLogs.pieces.Goals as goal

pub loop-origin-preserved : goal.loop-origin-preserved
loop-origin-preserved c =
    c.in_ok-append_writes.ensures
    ∙ ap₂ (λ (before piece : List Write). before ++ piece) c.loop-origin.invariant c.piece-piece.ensures
    ∙ sym (flat_map_range_more (piece_of c.args.self.now.logs c.args.firsts.now c.args.ends.now) c.loop-origin.origin)
