use Rattle.std.proofs.Common.{Some, ap, sym, ◌∙◌, arith}
use Rattle.std.proofs.lemmas.Option.{slice_get-get_or}
use Rattle.journal_reread.specs.Rereading.{CanBeSpelled}
use Rattle.journal_reread.proofs.Stored.{all_hold, one_holds_more}
use Rattle.journal_reread.proofs.spelling.are_spellable.Goals as goal

pub loop-entry-preserved : goal.loop-entry-preserved
loop-entry-preserved c =
    let place = c.loop-entry.entry-index in
    let entry = c.entry-item.result in
    one_holds_more CanBeSpelled c.args.found.now place entry (slice_get-get_or c.args.found.now place entry c.loop-entry-test.true ∙ ap Some (sym c.entry-item.is))
    c.is_spellable.ensures c.loop-entry.invariant

pub returns : goal.returns
returns c = all_hold CanBeSpelled c.args.found.now c.loop-entry.entry-index (omega (arith, c.loop-entry-test.false)) c.loop-entry.invariant
