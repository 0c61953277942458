use Rattle.std.proofs.Common.{◌≡◌, true, map, subst, ◌∙◌, arith}
use Rattle.restart_journal.specs.Pieces.{piece_bytes}
use Rattle.journal_reread.specs.Rereading.{IsDueAt, entries_in, with_kept}
use Rattle.journal_reread.proofs.Due.{one_due_more}
use Rattle.journal_reread.proofs.rereading.first_other.Goals as goal

pub loop-place-preserved : goal.loop-place-preserved
loop-place-preserved g c =
    let inv = c.loop-place.invariant in
    let pieces = g.J.Journal.pieces c.args.journal.now in
    let due = map piece_bytes (with_kept (entries_in c.args.stored.now) c.args.doubt.now) in
    let place = c.loop-place.place in
    let yes : c.in-Ok-true.field-0 ≡ true = cc in
    record {
      same = λ tells.
          one_due_more pieces due place (subst (λ ps. IsDueAt ps due place) (inv.stays tells) ((c.in-Ok-true.ensures.due tells).0 yes)) (inv.same tells);
      placed = omega (arith, c.in-Ok-true.ensures.within yes);
      stays = λ tells. c.in-Ok-true.ensures.stays tells ∙ inv.stays tells;
      room_pieces = c.in-Ok-true.ensures.room_pieces ∙ inv.room_pieces;
      room_bytes = c.in-Ok-true.ensures.room_bytes ∙ inv.room_bytes;
      risen = omega (arith, inv.risen, c.in-Ok-true.ensures.never_falls);
    }
