use Rattle.std.proofs.Common.{sym, ◌∙◌}
use Rattle.std.proofs.lemmas.Bool.{false≢true}
use Rattle.replica_core.proofs.FitLemmas.{told_origins, stamps_due, told_due}
use Rattle.replica_core.proofs.replica.Replica.fits_kept.Goals as goal
use Rattle.replica_core.proofs.replica.Replica.fits_kept.Goals.{then-is_own_told, else-is_own_told}

pub are_told_due-requires-clause-origins : goal.are_told_due-requires-clause-origins
are_told_due-requires-clause-origins c = told_origins c.args.self.now.core c.args.message.now c.requires.in_range

pub returns-then-are_returns_lent : goal.returns-then-are_returns_lent
returns-then-are_returns_lent c =
    let core = c.args.self.now.core in
    let message = c.args.message.now in (
      λ t. elim c.if-is_own_told.branch [
        | then-is_own_told w ↦ record {
          in_range = c.requires.in_range;
          addressed = c.requires.addressed;
          own_have = c.is_own_told.ensures.0 w.if-is_own_told.true;
          returned = w.are_returns_lent.ensures.0 (sym w.value-is ∙ c.if-are_returns_lent.true);
          stamps = stamps_due core message c.requires.in_range (c.are_told_due.ensures.0 t);
        }
        | else-is_own_told w ↦ absurd (false≢true (sym w.if-is_own_told.false ∙ sym w.value-is ∙ c.if-are_returns_lent.true))
      ],
      λ fits. c.are_told_due.ensures.1 (told_due core message c.requires.in_range fits.stamps),
    )
