use Rattle.std.proofs.Common.{◌≡◌, ℕ, true, length, map, take, refl, subst, ◌∙◌, arith}
use Rattle.std.proofs.lemmas.List.{length-map}
use Rattle.restart_journal.specs.Pieces.{piece_bytes}
use Rattle.journal_reread.specs.Rereading.{entries_in, with_kept}
use Rattle.journal_reread.proofs.Due.{found_at, missing_there, one_more, other_there, reached}
use Rattle.journal_reread.proofs.comparing.is_kept.Goals as goal

pub returns-then-not-branch-clause-unlike : goal.returns-then-not-branch-clause-unlike
returns-then-not-branch-clause-unlike c =
    let found = c.args.found.now in
    let entries = entries_in c.args.stored.now in
    let place = c.loop-place.place in
    let there = found_at found place c.index-found-place.result c.items.result.now c.loop-place-test.true c.index-found-place.is (c.items.ensures ∙ c.in_ok-piece.ensures) in (
      other_there found entries c.args.doubt.now place c.loop-place.invariant c.items.result.now there (λ e.
          let same : c.in_ok-is_due_at.field-0 ≡ true = c.in_ok-is_due_at.ensures.1 e in
          absurd (cc (same))),
      reached found entries c.args.doubt.now place c.loop-place.invariant (omega arith),
    )

pub loop-place-preserved : goal.loop-place-preserved
loop-place-preserved c =
    let found = c.args.found.now in
    let place = c.loop-place.place in
    let piece = c.items.result.now in
    let there = found_at found place c.index-found-place.result piece c.loop-place-test.true c.index-found-place.is (c.items.ensures ∙ c.in_ok-piece.ensures) in
    let same : c.in_ok-is_due_at.field-0 ≡ true = cc in
    one_more (map piece_bytes found) (map piece_bytes (with_kept (entries_in c.args.stored.now) c.args.doubt.now)) place piece there (c.in_ok-is_due_at.ensures.0 same) c.loop-place.invariant

pub returns-else-found-stored-2-clause-unlike : goal.returns-else-found-stored-2-clause-unlike
returns-else-found-stored-2-clause-unlike c =
    let found = c.args.found.now in
    let entries = entries_in c.args.stored.now in
    let due = with_kept entries c.args.doubt.now in
    let end : c.loop-place.place ≡ length found = omega arith in
    let front = subst (λ (n : ℕ). take n (map piece_bytes found) ≡ take n (map piece_bytes due)) end c.loop-place.invariant in (
      missing_there found entries c.args.doubt.now (length found) front refl (omega (arith, length-map c.args.stored.now (λ pair. pair.1))),
      reached found entries c.args.doubt.now (length found) front (omega arith),
    )
