use Rattle.std.proofs.Common.{sym, subst}
use Rattle.tact_top.specs.RecordForms.{IsByteFault}
use Rattle.tact_top.specs.Refusals.{IsRefusalBy}
use Rattle.tact_top.proofs.ByteFaults.{byte_fault_is}
use Rattle.tact_top.proofs.reading.read_bytes.Goals as goal

pub returns-in-Err-clause-refused : goal.returns-in-Err-clause-refused
returns-in-Err-clause-refused c =
    let input = c.args.input.now in
    subst (IsRefusalBy IsByteFault input) (sym c.refusal_of.ensures) (byte_fault_is input c.in-Err.fault c.in-Err.ensures.exact)
