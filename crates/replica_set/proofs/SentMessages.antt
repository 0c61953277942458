-- A message that was sent in a run to a replica fits it, unless the replica is full.
use Rattle.std.proofs.Common.{◌≡◌, false, List, Contains, sym, subst}
use Rattle.run_model.specs.Histories.{part_of, sent_in}
use Rattle.run_model.specs.Runs.{IsRun}
use Rattle.run_model.specs.declared.entry.Entry.{Entry}
use Rattle.run_model.specs.declared.entry.Message.{Message}
use Rattle.replica_core.specs.States.{Core, is_full}
use Rattle.replica_core.specs.Taking.{FitsAt}
use Rattle.replica_core.proofs.SentMessages.{sent_message_fits_core}
use Rattle.replica_set.specs.Sets.{SetState, IsAt, StandsFor}

-- It does in a set that stands for the run.
pub sent_message_fits : (history : List Entry) (state : SetState) (message : Message) (core : Core)
    → StandsFor history state
    → IsRun state.setup history
    → Contains (sent_in (part_of history message.from)) message
    → IsAt state message.to core
    → is_full core ≡ false
    → FitsAt core message
sent_message_fits history state message core stands run was_sent here free =
    let one = stands.is_set.each message.to core here in
    sent_message_fits_core history message core (stands.parts message.to core here) (subst (λ s. IsRun s history) (sym one.setup) run) was_sent one.replica free
