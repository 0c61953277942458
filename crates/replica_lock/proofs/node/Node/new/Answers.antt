use Rattle.std.proofs.Common.{◌≢◌, ℕ, AllPairs, sym, ap, ◌∙◌, subst}
use Rattle.tact_base.proofs.ElementLemmas.{AllPairs-nil}
use Rattle.run_history.specs.Seats.{ClerkView}
use Rattle.run_history.specs.Ticks.{entries_of}
use Rattle.run_model.specs.Histories.{part_of}
use Rattle.weight_ledger.specs.Seen.{TallyView}
use Rattle.replica_lock.proofs.Places.{numbers-first, places-first}
use Rattle.replica_lock.proofs.node.Node.new.Goals as goal

pub invariant_of-roster : goal.invariant_of-roster
invariant_of-roster g c = record {
  few = c.conits-conits.ensures.high;
  none =
      ap (λ h. part_of h c.replica-replica.result) (c.note-note.ensures.seen ∙ ap (λ (k : ClerkView). k.seen) (sym c.note-note.ensures.kept))
      ∙ ap (part_of c.note-note.new.self.seen) c.replica-replica.ensures.replica ∙ c.replica-replica.ensures.own
      ∙ ap (λ (k : ClerkView). entries_of k.pairs) c.note-note.ensures.kept ∙ ap entries_of c.learn.ensures.drawn
      ∙ ap (λ (k : ClerkView). entries_of k.pairs) c.note-seen.ensures.kept ∙ ap entries_of c.requires.drawn;
  apart = subst (AllPairs (λ (one other : ℕ). one ≢ other)) (sym c.new-in-Ok-new.ensures) (AllPairs-nil (λ (one other : ℕ). one ≢ other));
  nothing = λ client among. numbers-first c.conits-conits.result client c.in-Ok-new.tally (ap (λ (t : TallyView). t.amounts) c.in-Ok-new.ensures.tally);
  free = λ client among free. places-first c.conits-conits.result client c.in-Ok-new.tally among (ap (λ (t : TallyView). t.amounts) c.in-Ok-new.ensures.tally) (ap (λ (t : TallyView). t.owns) c.in-Ok-new.ensures.tally);
}
