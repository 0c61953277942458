-- In a run no clock is above the count of the entries.
use Rattle.std.proofs.Common.{◌≡◌, ℕ, ◌+◌, ◌≤◌, List, [], ◌∷◌, ◌++◌, length, flat_map, All, Option, None, Some, refl, sym, subst, arith}
use Rattle.std.proofs.lemmas.List.{length_push, get_or_default}
use Rattle.std.proofs.lemmas.List.Elements.{All-map, All-push, All-weaker, All-contains}
use Rattle.tact_base.proofs.ListLemmas.{All-flat_map}
use Rattle.tact_base.specs.declared.write.Cover.{Cover}
use Rattle.tact_base.specs.declared.write.Write.{Write}
use Rattle.tact_base.specs.Covers.{no_cover}
use Rattle.tact_base.specs.Setup.{Setup}
use Rattle.run_model.specs.Histories.{part_of, sent_in, taken_in}
use Rattle.run_model.specs.OwnWrites.{own}
use Rattle.run_model.specs.Taking.{clock, told_cover}
use Rattle.run_model.specs.Runs.{IsLawful, IsRun}
use Rattle.run_model.specs.declared.entry.Entry.{Entry}
use Rattle.run_model.specs.declared.entry.Message.{Message}
use Rattle.run_model.proofs.PartLemmas.{accepted_in, taken_by, greatest-is_least, part_of-push_cases, own-push_none, own-push_some, taken_in-push_none, taken_in-push_some}
use Rattle.run_model.proofs.ClockLemmas.{own_stamps, taken_stamps, own-le-clock, taken-le-clock}
use Rattle.run_model.proofs.Accepted.{accepted_is_next}
use Rattle.run_model.proofs.Sound.{Sound, IsSoundMessage}
use Rattle.run_model.proofs.SoundStep.{taken_was_sent}
use Rattle.run_model.proofs.RunInduction.{over_runs}
use Rattle.run_model.proofs.SoundRuns.{Sound-run}

-- what own writes and taken messages tell is at most a number
abbrev AreStampsWithin : ℕ → List Entry → Type 0
AreStampsWithin most part =
    All (λ (write : Write). write.stamp ≤ most) (own part) × All (λ (message : Message). (origin : ℕ) → (told_cover message origin).stamp ≤ most) (taken_in part)

-- then so is the clock
clock-within : (most : ℕ) (part : List Entry) → AreStampsWithin most part → clock part ≤ most
clock-within most part (owns, tolds) =
    let IsBelow = λ (cover : Cover). cover.stamp ≤ most in
    let covers = λ (message : Message). message.covers in
    let of_own = greatest-is_least (own_stamps part) most (All-map (λ n. n ≤ most) (λ (write : Write). write.stamp) (own part) owns) in
    let each : All (λ (message : Message). All IsBelow message.covers) (taken_in part) =
    All-weaker (λ (message : Message). (origin : ℕ) → (told_cover message origin).stamp ≤ most) (λ (message : Message). All IsBelow message.covers)
    (λ message told place d within. subst IsBelow (get_or_default message.covers place no_cover d within) (told place)) (taken_in part) tolds in
    let of_taken = greatest-is_least (taken_stamps part) most
    (All-map (λ n. n ≤ most) (λ (cover : Cover). cover.stamp) (flat_map covers (taken_in part)) (All-flat_map IsBelow covers (taken_in part) each)) in
    omega (arith, of_own, of_taken)

within-clock : (most : ℕ) (part : List Entry) → clock part ≤ most → AreStampsWithin most part
within-clock most part below = (
  All-weaker (λ (write : Write). write.stamp ≤ clock part) (λ (write : Write). write.stamp ≤ most) (λ write at. omega (arith, at, below)) (own part) (own-le-clock part),
  All-weaker (λ (message : Message). (origin : ℕ) → (told_cover message origin).stamp ≤ clock part) (λ (message : Message). (origin : ℕ) → (told_cover message origin).stamp ≤ most)
      (λ message told origin. omega (arith, told origin, below)) (taken_in part) (taken-le-clock part),
)

-- one more entry, whose stamps are at most a number
pub clock-push-within : (most : ℕ) (part : List Entry) (entry : Entry)
    → clock part ≤ most
    → ((write : Write) → accepted_in entry ≡ Some write → write.stamp ≤ most)
    → ((message : Message) → taken_by entry ≡ Some message → (origin : ℕ) → (told_cover message origin).stamp ≤ most)
    → clock (part ++ entry ∷ []) ≤ most
clock-push-within most part entry below accepts takes =
    let before = within-clock most part below in
    clock-within most (part ++ entry ∷ []) (owns (accepted_in entry) refl before.0, tolds (taken_by entry) refl before.1)
  where
    owns : (accepted : Option Write)
        → accepted_in entry ≡ accepted
        → All (λ (write : Write). write.stamp ≤ most) (own part)
        → All (λ (write : Write). write.stamp ≤ most) (own (part ++ entry ∷ []))
    owns None none all = subst (All (λ (write : Write). write.stamp ≤ most)) (sym (own-push_none part entry none)) all
    owns (Some write) some all =
        subst (All (λ (write : Write). write.stamp ≤ most)) (sym (own-push_some part entry write some))
        (All-push (λ (write : Write). write.stamp ≤ most) (own part) write all (accepts write some))

    tolds : (taken : Option Message)
        → taken_by entry ≡ taken
        → All (λ (message : Message). (origin : ℕ) → (told_cover message origin).stamp ≤ most) (taken_in part)
        → All (λ (message : Message). (origin : ℕ) → (told_cover message origin).stamp ≤ most) (taken_in (part ++ entry ∷ []))
    tolds None none all = subst (All (λ (message : Message). (origin : ℕ) → (told_cover message origin).stamp ≤ most)) (sym (taken_in-push_none part entry none)) all
    tolds (Some message) some all =
        subst (All (λ (message : Message). (origin : ℕ) → (told_cover message origin).stamp ≤ most)) (sym (taken_in-push_some part entry message some))
        (All-push (λ (message : Message). (origin : ℕ) → (told_cover message origin).stamp ≤ most) (taken_in part) message all (takes message some))

clock-step : (setup : Setup) (history : List Entry) (entry : Entry)
    → Sound setup history
    → IsLawful setup history entry
    → ((replica : ℕ) → clock (part_of history replica) ≤ length history)
    → (replica : ℕ)
    → clock (part_of (history ++ entry ∷ []) replica) ≤ length (history ++ entry ∷ [])
clock-step setup history entry sound lawful below =
    let most = length (history ++ entry ∷ []) in
    let more : most ≡ length history + 1 = length_push history entry in
    part_of-push_cases history entry (λ replica part. clock part ≤ most)
    (clock-push-within most (part_of history entry.replica) entry (omega (arith, more, below entry.replica))
    (λ write some. omega (arith, more, below entry.replica, (accepted_is_next setup (part_of history entry.replica) entry write lawful.due some).stamp))
    (λ message some origin.
    let sent : IsSoundMessage history message.from message =
    All-contains (IsSoundMessage history message.from) (sent_in (part_of history message.from)) message (sound.sent message.from) (taken_was_sent history entry.act message lawful.sent some) in
    omega (arith, more, below origin, (sent.told origin).cover.stamp)))
    (λ replica. omega (arith, more, below replica))

pub clock-run : (setup : Setup) (history : List Entry)
    → IsRun setup history
    → (replica : ℕ)
    → clock (part_of history replica) ≤ length history
clock-run setup =
    over_runs setup (λ history. (replica : ℕ) → clock (part_of history replica) ≤ length history) (λ replica. omega arith)
    (λ before entry run lawful below. clock-step setup before entry (Sound-run setup before run) lawful below)
