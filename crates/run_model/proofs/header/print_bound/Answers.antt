use Rattle.std.proofs.Common.{◌≡◌, codes, decimal, map, [], ◌∷◌, ◌++◌, rules}
use Rattle.std.proofs.lemmas.Result.{IfOk-equal}
use Rattle.tact_base.specs.Setup.{alpha_of, loans_of}
use Rattle.run_model.specs.Text.{spaced}
use Rattle.run_model.proofs.TextLemmas.{line_from_parts, begins_grown, always_err, err_grown, err_kept}
use Rattle.run_model.proofs.header.print_bound.Goals as goal

pub returns-clause-ok : goal.returns-clause-ok
returns-clause-ok c =
    let s = c.args.config.now in
    let numbers = map decimal (c.args.owner ∷ c.args.conit ∷ alpha_of s c.args.owner c.args.conit ∷ []) in
    let loans = map decimal (loans_of s c.args.owner c.args.conit) in
    let first : c.put_numbers.new.out ≡ c.append.new.self ++ spaced numbers = search rules in
    let second : c.put_numbers-2.new.out ≡ c.put_numbers.new.out ++ spaced loans = search rules in
    IfOk-equal c.push.result c.push.new.self _ _ c.push.ensures.ok (line_from_parts (codes "bound") numbers loans _ _ _ _ c.in_ok-append.ensures.ok first second)

pub returns-in_err-put_numbers-clause-err : goal.returns-in_err-put_numbers-clause-err
returns-in_err-put_numbers-clause-err c = always_err _ (begins_grown _ _ _ _ c.in_err-put_numbers.ensures.err c.in_ok-append.ensures.ok)

pub returns-in_err-put_numbers-2-clause-err : goal.returns-in_err-put_numbers-2-clause-err
returns-in_err-put_numbers-2-clause-err c =
    always_err _
    (begins_grown _ _ _ _
    (begins_grown _ _ _ _ c.in_err-put_numbers-2.ensures.err c.in_ok-put_numbers.ensures.ok) c.in_ok-append.ensures.ok)

pub returns-clause-err : goal.returns-clause-err
returns-clause-err c =
    err_grown c.push.result _ _ c.push.new.self _ c.in_ok-append.ensures.ok
    (err_grown c.push.result _ _ c.push.new.self _ c.in_ok-put_numbers.ensures.ok
    (err_kept c.push.result _ _ c.push.new.self _ c.in_ok-put_numbers-2.ensures.ok c.push.ensures.err))
