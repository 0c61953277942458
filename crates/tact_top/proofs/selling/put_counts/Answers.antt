use Rattle.std.proofs.Common.{ℕ, List, [], ◌∷◌, ◌≡◌, ◌++◌, append_assoc, sym, ap, ap₂, ◌∙◌}
use Rattle.std.specs.Prelude.{codes, decimal}
use Rattle.std.proofs.lemmas.List.Concat.{flat_map-append}
use Rattle.std.proofs.lemmas.Result.{on_ok_weaker}
use Rattle.run_model.specs.Text.{spaced}
use Rattle.tact_top.specs.SalesText.{other_counts, trade_counts}
use Rattle.tact_top.proofs.selling.put_counts.Goals as goal

pub returns : goal.returns
unfolding trade_counts
returns c =
    let old = c.args.out.now in
    let others = other_counts c.args.booking.now in
    let sold : List (List ℕ) = codes "sold" ∷ decimal c.args.tally.now.sold ∷ [] in
    let cancelled : List (List ℕ) = codes "cancelled" ∷ decimal c.args.tally.now.cancelled ∷ [] in
    let token : List ℕ → List ℕ = λ one. 32 ∷ one in
    on_ok_weaker c.put_others.result
    (λ put.
    put
    ∙ ap (λ (text : List ℕ). text ++ spaced others) (c.in_ok-put_row-2.ensures.ok ∙ ap (λ (text : List ℕ). text ++ spaced cancelled) c.in_ok-put_row.ensures.ok)
    ∙ append_assoc (old ++ spaced sold) (spaced cancelled) (spaced others)
    ∙ append_assoc old (spaced sold) (spaced cancelled ++ spaced others)
    ∙ ap (λ (text : List ℕ). old ++ (spaced sold ++ text)) (sym (flat_map-append token cancelled others))
    ∙ ap (λ (text : List ℕ). old ++ text) (sym (flat_map-append token sold (cancelled ++ others)))
    ∙ ap₂ (λ (n m : ℕ). old ++ spaced (codes "sold" ∷ decimal n ∷ codes "cancelled" ∷ decimal m ∷ others)) c.requires.sold c.requires.cancelled)
    c.put_others.ensures
