-- A message that was sent in a run to a replica fits what it keeps, unless it is full.
use Rattle.std.proofs.Common.{◌≡◌, ◌<◌, false, List, length, Contains, refl, sym, subst, arith}
use Rattle.std.proofs.lemmas.List.Elements.{All-contains}
use Rattle.tact_base.specs.Setup.{Setup}
use Rattle.tact_base.specs.declared.limits.TheConstants.{HISTORY_MAX, STAMP_MAX}
use Rattle.run_model.specs.Histories.{part_of, last_moment, sent_in}
use Rattle.run_model.specs.Ranges.{IsMessageInRange}
use Rattle.run_model.specs.Runs.{IsRun, IsLawful, Fits}
use Rattle.run_model.specs.Taking.{clock}
use Rattle.run_model.specs.declared.entry.Act.TheVariants as act
use Rattle.run_model.specs.declared.entry.Entry.{Entry}
use Rattle.run_model.specs.declared.entry.Message.{Message}
use Rattle.run_model.proofs.EntriesInRange.{sent_in_range}
use Rattle.run_model.proofs.SoundRuns.{Sound-run}
use Rattle.run_promises.proofs.Fitting.{Fits-taken}
use Rattle.run_promises.proofs.Kept.{KeepsShares-run, IsPart-run}
use Rattle.run_promises.proofs.LoansAgree.{LoansAgree-run}
use Rattle.run_promises.proofs.PartSound.{PartSound, PartSound-part}
use Rattle.replica_core.specs.States.{Core, is_full}
use Rattle.replica_core.specs.Stands.{Stands}
use Rattle.replica_core.specs.Taking.{FitsAt}
use Rattle.replica_core.proofs.DueEntries.{not_full}
use Rattle.replica_core.proofs.Taken.{FitsAt-part}

-- A message that was sent to a replica in a run.
module _ (setup : Setup) (history : List Entry) (run : IsRun setup history) (message : Message) (was_sent : Contains (sent_in (part_of history message.from)) message) where
  pub sent_message_in_range : IsMessageInRange setup message
  sent_message_in_range =
      All-contains (IsMessageInRange setup) (sent_in (part_of history message.from)) message (sent_in_range setup history run message.from) was_sent

  abbrev part : List Entry
  part = part_of history message.to

  sound : PartSound setup message.to part
  sound = PartSound-part setup message.to part (IsPart-run setup history run message.to)

  -- the entry that takes it
  abbrev taking : Entry
  taking = record { replica = message.to; moment = last_moment part; act = act.Take message }

  taking_is_lawful : length part < HISTORY_MAX
      → clock part < STAMP_MAX
      → IsLawful setup history taking
  taking_is_lawful room below = record {
    due = record {
      room = room;
      moment = omega arith;
      clock_below = below;
      in_range = record { replica = sent_message_in_range.to; moment = sound.last_most; act = (sent_message_in_range, refl) };
      act = refl;
    };
    sent = was_sent;
  }

  sent_fits : length part < HISTORY_MAX
      → clock part < STAMP_MAX
      → Fits setup message.to part message
  sent_fits room below =
      Fits-taken setup history taking message (Sound-run setup history run) (LoansAgree-run setup history run) (KeepsShares-run setup history run)
      (taking_is_lawful room below) refl

-- So it fits the replica that it was sent to, where that stands for its part of the run, unless it is full.
pub sent_message_fits_core : (history : List Entry) (message : Message) (core : Core)
    → Stands (part_of history message.to) core
    → IsRun core.setup history
    → Contains (sent_in (part_of history message.from)) message
    → core.replica ≡ message.to
    → is_full core ≡ false
    → FitsAt core message
sent_message_fits_core history message core stands run was_sent here free =
    let room = not_full core free in
    let in_range = sent_message_in_range core.setup history run message was_sent in
    let fits : Fits core.setup message.to (part_of history message.to) message =
    sent_fits core.setup history run message was_sent (omega (arith, room.0, stands.counts.count)) (omega (arith, room.1, stands.writes.clock)) in
    FitsAt-part (part_of history message.to) core stands (omega (arith, in_range.to, here)) message
    (subst (λ r. Fits core.setup r (part_of history message.to) message) (sym here) fits)
