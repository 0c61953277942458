use Rattle.run_check.proofs.NoFailure.{lawful_never_fails, bad_is_no_record}
use Rattle.run_check.proofs.laws.lawful_entries_fail_no_test.Goals as goal

pub returns-clause-none : goal.returns-clause-none
returns-clause-none c = lawful_never_fails

pub returns-clause-bad : goal.returns-clause-bad
returns-clause-bad c = bad_is_no_record
