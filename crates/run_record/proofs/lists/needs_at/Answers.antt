use Rattle.std.proofs.Common.{◌≡◌, refl, arith, length}
use Rattle.std.proofs.lemmas.Bool.Decides.{nat_tests}
use Rattle.run_record.specs.Lists.{list_at}
use Rattle.run_record.proofs.SplitLemmas.{tokens_none}
use Rattle.run_record.proofs.lists.needs_at.Goals as goal

pub returns-then-is_empty-clause-needs : goal.returns-then-is_empty-clause-needs
unfolding list_at
returns-then-is_empty-clause-needs c =
    let empty : length c.args.rest.now ≡ 0 = grind (arith, nat_tests) in
    rw (tokens_none c.args.rest.now empty, c.empty.ensures) refl
