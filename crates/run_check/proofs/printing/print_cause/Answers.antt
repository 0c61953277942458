use Rattle.run_check.proofs.printing.print_cause.Goals as goal

pub returns-in-NotAddressed-clause-ok : goal.returns-in-NotAddressed-clause-ok
returns-in-NotAddressed-clause-ok c =
    rw (c.in-NotAddressed.is, ← c.from-in-NotAddressed.ensures) c.put_row-in-NotAddressed.ensures.ok
