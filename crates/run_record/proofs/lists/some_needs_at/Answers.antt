use Rattle.std.proofs.Common.{subst, sym}
use Rattle.run_model.specs.Bytes.{AreNeedsOf}
use Rattle.run_record.specs.Splitting.{tokens}
use Rattle.run_record.proofs.ItemLemmas.{needs_are_good, needs_not_refused}
use Rattle.run_record.proofs.lists.some_needs_at.Goals as goal

pub unreachable-requires : goal.unreachable-requires
unreachable-requires c =
    needs_not_refused c.args.conits c.requires c.args.end (tokens c.args.rest.now) _ c.in-Err.field-0 c.in_ok-count.ensures.read c.in-Err.ensures

pub returns-clause-within : goal.returns-clause-within
returns-clause-within c =
    subst (AreNeedsOf c.args.conits) (sym c.in-Ok.ensures.1)
    (needs_are_good c.args.conits c.requires c.args.end (tokens c.args.rest.now) _ c.in_ok-count.ensures.read)
