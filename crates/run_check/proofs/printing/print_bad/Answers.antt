use Rattle.std.proofs.Common.{◌≡◌, List, ℕ, codes, decimal, [], ◌∷◌, ◌++◌}
use Rattle.std.proofs.lemmas.List.{append-nil}
use Rattle.std.proofs.lemmas.Result.{IfOk-equal}
use Rattle.run_model.specs.Text.{spaced}
use Rattle.run_model.proofs.TextLemmas.{line_from_parts}
use Rattle.run_check.specs.VerdictText.{cause_tokens}
use Rattle.run_check.proofs.printing.print_bad.Goals as goal

-- one number
one_number : (a b : List ℕ) (number : ℕ)
    → b ≡ a ++ 32 ∷ decimal number
    → b ≡ a ++ spaced (decimal number ∷ [])
one_number a b number is = rw is (simp append-nil)

pub returns-clause-ok : goal.returns-clause-ok
returns-clause-ok c =
    IfOk-equal c.push.result c.push.new.self _ _ c.push.ensures.ok
    (line_from_parts (codes "bad") (decimal c.args.entry ∷ []) (cause_tokens c.args.cause.now) _ _ _ _
    c.in_ok-append.ensures.ok (one_number _ _ c.args.entry c.in_ok-put_number.ensures.ok) c.in_ok-print_cause.ensures.ok)
