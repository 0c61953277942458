use Rattle.std.proofs.Common.{◌≡◌, ◌∷◌, ◌++◌, ℕ, [], sym, ap, ◌∙◌, codes, decimal}
use Rattle.std.proofs.lemmas.Result.{on_ok_weaker}
use Rattle.run_model.proofs.TextLemmas.{line_from_parts}
use Rattle.run_model.specs.Text.{spaced}
use Rattle.script_run.specs.Comments.{have_tokens, state_tokens}
use Rattle.script_run.proofs.comments.print_replica.Goals as goal

pub returns-clause-ok : goal.returns-clause-ok
returns-clause-ok c =
    let core = c.args.view.now.core in
    let logs = codes "show" ∷ decimal core.replica ∷ codes "have" ∷ have_tokens core in
    on_ok_weaker c.push.result
    (λ (pushed : c.push.new.self ≡ c.put_state.new.out ++ 10 ∷ []).
    pushed
    ∙ line_from_parts (codes "#") logs (state_tokens core) c.args.out.now _ _ _ c.in_ok-append.ensures.ok
    (c.in_ok-put_logs.ensures.ok ∙ ap (λ (r : ℕ). c.append.new.self ++ spaced (codes "show" ∷ decimal r ∷ codes "have" ∷ have_tokens core)) (sym c.requires.replica))
    c.in_ok-put_state.ensures.ok)
    c.push.ensures.ok
