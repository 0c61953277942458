use Rattle.std.proofs.Common.{◌≡◌, ◌+◌, ◌*◌, ℕ, sym, ap, ◌∙◌}
use Rattle.tact_base.specs.declared.limits.TheConstants.{CLIENTS}
use Rattle.entry_journal.specs.EntryJournals.{JournalView}
use Rattle.weight_ledger.specs.Amounts.{zeros}
use Rattle.locked_replica.specs.Locks.{LockedView}
use Rattle.replica_lock.specs.Ledgers.{LedgerView}
use Rattle.replica_lock.proofs.Opening.{IsAccounted-new, IsJournaled-new}
use Rattle.replica_lock.proofs.locked_box.LockedBox.new.Goals as goal

pub invariant_of-result : goal.invariant_of-result
invariant_of-result g c =
    let journal = c.new-in-Ok-new.result in
    let state = c.in-Ok-new.locked.value in
    let same : state ≡ c.args.locked = cc (c.in-Ok-new.ensures.ok) in
    let conits : c.args.conits ≡ state.core.setup.conits = c.requires.conits ∙ ap (λ (s : LockedView). s.core.setup.conits) (sym same) in (
      IsJournaled-new state journal
          (ap (λ (s : LockedView). s.stored) same ∙ c.requires.none)
          (λ told. ap (λ (j : JournalView). j.pieces) c.new-in-Ok-new.ensures ∙ c.requires.empty (rw (← ap (λ (j : JournalView). j.tells) c.new-in-Ok-new.ensures) told))
          (ap (λ (j : JournalView). j.halted) c.new-in-Ok-new.ensures)
          (ap (λ (j : JournalView). j.doubt) c.new-in-Ok-new.ensures),
      IsAccounted-new state journal c.in-Ok.ledger.book c.in-Ok.ledger.owes
          (ap (λ (s : LockedView). s.totals) same ∙ c.requires.totals ∙ ap (λ (s : LockedView). zeros (s.core.setup.conits + 2 * CLIENTS)) (sym same))
          (ap (λ (l : LedgerView). l.book) c.in-Ok.ensures ∙ ap (λ (n : ℕ). zeros (n + 5 * CLIENTS)) conits)
          (ap (λ (l : LedgerView). l.owes) c.in-Ok.ensures)
          (ap (λ (j : JournalView). j.doubt) c.new-in-Ok-new.ensures),
      ap (λ (j : JournalView). j.tells) c.new-in-Ok-new.ensures,
    )
