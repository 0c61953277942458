use Rattle.std.proofs.Common.{◌≡◌, ◌++◌, ℕ, List, length, ap, ◌∙◌, arith}
use Rattle.std.proofs.lemmas.List.FromFn.{length-map-range_with_len}
use Rattle.tact_base.specs.Setup.{place_of}
use Rattle.tact_base.proofs.SetupLemmas.{HasCounts-from_IsSetup, place_in, row_in}
use Rattle.script_text.specs.Setups.{opening_row}
use Rattle.script_text.proofs.setups.bounded.Goals as goal

pub replaced-requires : goal.replaced-requires
replaced-requires c =
    let s = c.args.config.now in
    let h = HasCounts-from_IsSetup s c.replicas-replicas.ensures.sound in
    rw (c.alphas.ensures, c.conits-conits.ensures.count)
    (omega (arith, place_in s c.args.owner c.args.conit c.requires.owner_in c.requires.conit_in, h.alphas))

pub replaced-requires-2 : goal.replaced-requires-2
replaced-requires-2 c =
    let s = c.args.config.now in
    let h = HasCounts-from_IsSetup s c.replicas-replicas.ensures.sound in
    let list : c.push_row.new.list ≡ c.new-row.result ++ opening_row c.replicas-replicas.result c.args.loan c.args.owner = c.in_ok-push_row.ensures in
    let row : length c.items.result.now ≡ s.replicas =
    ap length (c.items.ensures ∙ list ∙ ap (λ (xs : List ℕ). xs ++ opening_row c.replicas-replicas.result c.args.loan c.args.owner) c.new-row.ensures)
    ∙ length-map-range_with_len _ 0 c.replicas-replicas.result ∙ c.replicas-replicas.ensures.count in
    rw (c.opening_loans.ensures, c.conits-conits.ensures.count, row, c.replicas-replicas.ensures.count)
    (row_in s h (place_of s c.args.owner c.args.conit) (place_in s c.args.owner c.args.conit c.requires.owner_in c.requires.conit_in))
