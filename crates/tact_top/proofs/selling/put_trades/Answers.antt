use Rattle.std.proofs.Common.{ℕ, List, [], ◌∷◌, ◌≡◌, ◌++◌, append_assoc, sym, ap, ◌∙◌}
use Rattle.std.specs.Prelude.{codes}
use Rattle.std.proofs.lemmas.Result.{on_ok_weaker}
use Rattle.run_model.specs.Text.{spaced}
use Rattle.run_model.proofs.TextLemmas.{line_text-cons}
use Rattle.tact_top.specs.SalesText.{trade_tokens}
use Rattle.tact_top.proofs.selling.put_trades.Goals as goal

pub returns : goal.returns
returns c =
    let old = c.args.out.now in
    let word = codes "sales" in
    let tokens = trade_tokens c.args.number c.args.booking.now in
    let end : List ℕ = 10 ∷ [] in
    on_ok_weaker c.push.result
    (λ pushed.
    pushed
    ∙ ap (λ (text : List ℕ). text ++ end) (c.in_ok-put_all.ensures ∙ ap (λ (text : List ℕ). text ++ spaced tokens) c.in_ok-append.ensures.ok)
    ∙ append_assoc (old ++ word) (spaced tokens) end
    ∙ append_assoc old word (spaced tokens ++ end)
    ∙ ap (λ (text : List ℕ). old ++ text) (sym (append_assoc word (spaced tokens) end))
    ∙ ap (λ (text : List ℕ). old ++ (text ++ end)) (sym (line_text-cons word tokens)))
    c.push.ensures.ok
