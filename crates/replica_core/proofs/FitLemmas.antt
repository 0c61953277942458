-- The writes that a message adds to logs are due exactly where each told write is due that a log would take.
use Rattle.std.proofs.Common.{◌≡◌, ℕ, ◌<◌, ◌≤◌, ◌==◌, nat_le, Bool, true, List, [], length, get_or, pos, filter, All, refl, sym, ap, ◌∙◌, subst, arith}
use Rattle.std.proofs.lemmas.Bool.{le-leb, leb-true, eqb-true, eq-eqb}
use Rattle.std.proofs.lemmas.List.{get_or-map}
use Rattle.std.proofs.lemmas.List.FromFn.{get_or-range_with_len}
use Rattle.std.proofs.lemmas.List.Elements.{All-get_or, All-from_get_or, All-weaker}
use Rattle.tact_base.proofs.Peers.{All-kept, All-from_kept}
use Rattle.tact_base.specs.declared.write.Write.{Write}
use Rattle.tact_base.specs.declared.write.Op.TheVariants.{Put}
use Rattle.run_model.specs.Ranges.{IsMessageInRange}
use Rattle.run_model.specs.Taking.{told_cover, told_first, told_writes}
use Rattle.run_model.specs.declared.entry.Message.{Message}
use Rattle.run_model.proofs.OriginWrites.{from_one-origins}
use Rattle.tact_base.proofs.ListLemmas.{All-flat_map, All-range}
use Rattle.tact_base.specs.Setup.{replicas_of}
use Rattle.replica_core.specs.States.{Core, log_at}
use Rattle.replica_core.specs.Taking.{added_at}
use Rattle.replica_core.specs.Fitting.{IsToldDue}
use Rattle.replica_core.proofs.BudgetViews.{filter_from}

-- A message in range.
module _ (core : Core) (message : Message) (in_range : IsMessageInRange core.setup message) where
  -- each told write is of one of the replicas
  pub told_origins : All (λ (write : Write). write.origin < core.setup.replicas) message.writes
  told_origins =
      let IsAmong = λ (write : Write). write.origin < core.setup.replicas in
      subst (λ (writes : List Write). All IsAmong writes) (sym in_range.placed)
      (All-flat_map IsAmong (told_writes message) (replicas_of core.setup)
      (All-range (λ origin. All IsAmong (told_writes message origin)) 0 core.setup.replicas (λ origin low high.
      All-weaker (λ (write : Write). write.origin ≡ origin) IsAmong (λ write is. omega (arith, is, high)) (told_writes message origin) (from_one-origins origin message.writes))))

  -- above the point and at most at the stamp of the sender
  abbrev IsAbove : Write → Type 0
  IsAbove write = (core.writes.point < write.stamp) × (write.stamp ≤ (told_cover message message.from).stamp)

  -- how many writes of an origin there are, and whether a write stands past these
  abbrev has : ℕ → ℕ
  has origin = length (log_at core origin)

  abbrev is_past : ℕ → Write → Bool
  is_past origin write = nat_le (has origin) write.index

  -- what is added of an origin are the told writes from the index on that comes next in its log
  added_past : (origin : ℕ)
      → origin < core.setup.replicas
      → filter (is_past origin) (told_writes message origin) ≡ added_at core message origin
  added_past origin within =
      let told = told_writes message origin in
      let first = told_first message origin in
      filter_from told first (has origin)
      (λ place d inside.
      sym (get_or-map (λ (write : Write). write.index) told place d 0 inside)
      ∙ ap (λ (numbers : List ℕ). get_or numbers place 0) (in_range.told origin within).indices
      ∙ get_or-range_with_len first (length told) place 0 inside)

  -- where each told write is due, so is what is added, and back
  pub stamps_due : All (IsToldDue core message) message.writes
      → (origin : ℕ)
      → origin < core.setup.replicas
      → told_first message origin ≤ has origin
      → All IsAbove (added_at core message origin)
  stamps_due all origin within reaches =
      subst (All IsAbove) (added_past origin within)
      (All-kept IsAbove (is_past origin) (told_writes message origin)
      (All-kept (λ (write : Write). is_past origin write ≡ true → IsAbove write) (λ (write : Write). write.origin == origin) message.writes
      (All-weaker (IsToldDue core message) (λ (write : Write). (write.origin == origin) ≡ true → is_past origin write ≡ true → IsAbove write)
      (λ write due here past.
      let same : write.origin ≡ origin = eqb-true write.origin origin here in
      due (omega (arith, reaches, ap (told_first message) same, ap has same)) (omega (arith, leb-true (has origin) write.index past, ap has same)))
      message.writes all)))

  pub told_due : ((origin : ℕ) → origin < core.setup.replicas → told_first message origin ≤ has origin → All IsAbove (added_at core message origin))
      → All (IsToldDue core message) message.writes
  told_due stamps =
      All-from_get_or (IsToldDue core message) message.writes default
      (λ place inside reaches past.
      let write = get_or message.writes place default in
      let origin = write.origin in
      let within = All-get_or (λ (write : Write). write.origin < core.setup.replicas) message.writes place default inside told_origins in
      let later : All (λ (write : Write). is_past origin write ≡ true → IsAbove write) (told_writes message origin) =
      All-from_kept IsAbove (is_past origin) (told_writes message origin) (subst (All IsAbove) (sym (added_past origin within)) (stamps origin within reaches)) in
      All-get_or (λ (write : Write). (write.origin == origin) ≡ true → is_past origin write ≡ true → IsAbove write) message.writes place default inside
      (All-from_kept (λ (write : Write). is_past origin write ≡ true → IsAbove write) (λ (write : Write). write.origin == origin) message.writes later)
      (eq-eqb origin origin refl) (le-leb (has origin) write.index past))
    where
      default : Write
      default = record { origin = 0; index = 0; stamp = 0; moment = 0; weights = []; op = Put 0 (pos 0) }
