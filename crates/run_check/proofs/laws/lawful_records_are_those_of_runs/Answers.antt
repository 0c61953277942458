use Rattle.run_promises.proofs.Kept.{IsKept-run}
use Rattle.run_check.specs.Expanded.{expanded}
use Rattle.run_check.proofs.Records.{lawful_is_record, record_is_lawful}
use Rattle.run_check.proofs.laws.lawful_records_are_those_of_runs.Goals as goal

pub returns-clause-found : goal.returns-clause-found
returns-clause-found c = lawful_is_record

pub returns-clause-only : goal.returns-clause-only
returns-clause-only c = record_is_lawful

pub returns-clause-kept : goal.returns-clause-kept
returns-clause-kept c = λ held good each. IsKept-run held.setup (expanded held.setup held.entries) good (lawful_is_record held each).0
