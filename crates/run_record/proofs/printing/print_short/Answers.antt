use Rattle.std.proofs.Common.{◌≡◌, ℕ, List, codes, decimal, [], ◌∷◌, ◌++◌, append_assoc}
use Rattle.std.proofs.lemmas.List.{append-nil}
use Rattle.std.proofs.lemmas.Result.{IfOk-equal}
use Rattle.run_model.specs.Text.{spaced}
use Rattle.run_model.proofs.TextLemmas.{line_from_parts}
use Rattle.run_record.specs.RecordText.{short_act_tokens}
use Rattle.run_record.proofs.printing.print_short.Goals as goal

-- two numbers, one after the other
two_numbers : (a b c : List ℕ) (told number other : ℕ)
    → told ≡ number
    → b ≡ a ++ 32 ∷ decimal told
    → c ≡ b ++ 32 ∷ decimal other
    → c ≡ a ++ spaced (decimal number ∷ decimal other ∷ [])
two_numbers a b c told number other is first second = rw (second, first, is) (simp (append_assoc, append-nil))

pub returns-clause-ok : goal.returns-clause-ok
returns-clause-ok c =
    let short = c.args.short.now in
    let numbers = decimal short.replica ∷ decimal short.moment ∷ [] in
    let is : c.from.result ≡ short.replica = cc in
    let first = two_numbers _ _ _ c.from.result short.replica short.moment is c.in_ok-put_number.ensures.ok c.in_ok-put_number-2.ensures.ok in
    IfOk-equal c.push.result c.push.new.self _ _ c.push.ensures.ok
    (line_from_parts (codes "e") numbers (short_act_tokens short.act) _ _ _ _ c.in_ok-append.ensures.ok first c.in_ok-print_step.ensures.ok)
