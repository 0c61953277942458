use Rattle.run_model.proofs.TextLemmas.{begins_grown, always_err, err_grown}
use Rattle.run_model.proofs.header.print_head.Goals as goal

pub returns-in_err-put_numbers-clause-err : goal.returns-in_err-put_numbers-clause-err
returns-in_err-put_numbers-clause-err c = always_err _ (begins_grown _ _ _ _ c.in_err-put_numbers.ensures.err c.in_ok-append.ensures.ok)

pub returns-clause-err : goal.returns-clause-err
returns-clause-err c =
    err_grown c.print_bounds.result _ _ c.print_bounds.new.out _ c.in_ok-append.ensures.ok
    (err_grown c.print_bounds.result _ _ c.print_bounds.new.out _ c.in_ok-put_numbers.ensures.ok
    (err_grown c.print_bounds.result _ _ c.print_bounds.new.out _ c.in_ok-push.ensures.ok c.print_bounds.ensures.err))
