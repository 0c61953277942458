use Rattle.std.proofs.Common.{◌≡◌, ◌∷◌, ◌++◌, [], ◌∙◌, decimal, map, codes}
use Rattle.std.proofs.lemmas.Result.{on_ok_weaker}
use Rattle.run_model.proofs.TextLemmas.{line_from_parts}
use Rattle.script_run.proofs.comments.print_refusal.Goals as goal

pub returns-clause-ok : goal.returns-clause-ok
returns-clause-ok c =
    on_ok_weaker c.push.result
    (λ (pushed : c.push.new.self ≡ c.put_row-2.new.out ++ 10 ∷ []).
    pushed ∙ line_from_parts (codes "#") (c.args.word.now ∷ map decimal c.args.numbers.now) (c.args.limit.now ∷ decimal c.args.most ∷ []) c.args.out.now _ _ _
    c.in_ok-append.ensures.ok c.in_ok-put_row.ensures.ok c.in_ok-put_row-2.ensures.ok)
    c.push.ensures.ok
