use Rattle.std.proofs.Common.{All, sym, subst, arith}
use Rattle.std.proofs.lemmas.List.{length-map}
use Rattle.restart_journal.specs.Pieces.{CanBePut}
use Rattle.journal_reread.specs.Rereading.{CanBeSpelled, entries_in, with_kept}
use Rattle.journal_reread.proofs.Stored.{all_hold, holds_at, of_both, of_doubt, of_stored, one_holds_more, stored_item}
use Rattle.journal_reread.proofs.spelling.are_due_spellable.Goals as goal

pub is_spellable-requires : goal.is_spellable-requires
is_spellable-requires c =
    let entries = entries_in c.args.stored.now in
    holds_at CanBePut entries c.loop-pair.pair-index c.pair-item.result.1 (of_stored CanBePut entries c.args.doubt.now c.requires)
    (stored_item c.args.stored.now c.loop-pair.pair-index c.pair-item.result c.loop-pair-test.true c.pair-item.is)

pub loop-pair-preserved : goal.loop-pair-preserved
loop-pair-preserved c =
    one_holds_more CanBeSpelled (entries_in c.args.stored.now) c.loop-pair.pair-index c.pair-item.result.1
    (stored_item c.args.stored.now c.loop-pair.pair-index c.pair-item.result c.loop-pair-test.true c.pair-item.is) c.is_spellable.ensures c.loop-pair.invariant

pub is_spellable-requires-in-Some : goal.is_spellable-requires-in-Some
is_spellable-requires-in-Some c =
    let entries = entries_in c.args.stored.now in
    of_doubt CanBePut entries c.in-Some.entry (subst (λ doubt. All CanBePut (with_kept entries doubt)) c.in-Some.is c.requires)

pub returns-in-Some : goal.returns-in-Some
returns-in-Some c =
    let entries = entries_in c.args.stored.now in
    let all = all_hold CanBeSpelled entries c.loop-pair.pair-index (omega (arith, c.loop-pair-test.false, length-map c.args.stored.now (λ pair. pair.1))) c.loop-pair.invariant in
    subst (λ doubt. All CanBeSpelled (with_kept entries doubt)) (sym c.in-Some.is) (of_both CanBeSpelled entries c.in-Some.entry all c.is_spellable-in-Some.ensures)

pub returns-in_default : goal.returns-in_default
returns-in_default c =
    let entries = entries_in c.args.stored.now in
    let all = all_hold CanBeSpelled entries c.loop-pair.pair-index (omega (arith, c.loop-pair-test.false, length-map c.args.stored.now (λ pair. pair.1))) c.loop-pair.invariant in
    subst (λ doubt. All CanBeSpelled (with_kept entries doubt)) (sym c.in_default.is) all
