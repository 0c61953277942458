-- Why an entry of a record may not stand after a history: the tests of an entry, each with what was told and what is
-- due.
use Rattle.std.specs.Prelude.{◌≡◌, ◌≢◌, ℕ, ◌<◌, ◌≤◌, List, length, slice_index, Option, None, Some, MatchOption}
use Rattle.tact_base.specs.declared.limits.TheConstants.{HISTORY_MAX}
use Rattle.tact_base.specs.Setup.{Setup}
use Rattle.run_model.specs.Histories.{part_of, last_moment, sent_in, calls_in}
use Rattle.run_model.specs.Loans.{home, free}
use Rattle.run_model.specs.Messages.{first_for}
use Rattle.run_model.specs.Replies.{reply_of}
use Rattle.run_model.specs.declared.call.Reply.{Reply}
use Rattle.run_model.specs.declared.cause.Cause.{Cause}
use Rattle.run_model.specs.declared.cause.Cause.TheVariants as cause
use Rattle.run_model.specs.declared.entry.Entry.{Entry}
use Rattle.run_model.specs.declared.entry.Message.{Message}
use Rattle.run_record.specs.declared.short.Short.{Short}
use Rattle.run_record.specs.declared.short.ShortAct.{ShortAct}
use Rattle.run_record.specs.declared.short.ShortAct.TheVariants.{Call, Send, Take, Lend, Back}
use Rattle.run_check.specs.Expanded.{message_sent}

-- the number that an act tells, and the due one: how many calls its client made before, or how many messages the
-- replica sent
abbrev pub numbers_of : List Entry → ShortAct → Option (ℕ × ℕ)
numbers_of part (Call client number request reply) = Some (number, calls_in part client)
numbers_of part (Send to number firsts) = Some (number, length (sent_in part))
numbers_of part other = None

-- the first of an origin that a sent message tells, and what the rule of sending makes of it
abbrev pub firsts_of : ℕ → List Entry → ℕ → ShortAct → Option (ℕ × ℕ)
firsts_of replica part origin (Send to number firsts) = Some (slice_index firsts origin, first_for replica part to firsts origin)
firsts_of replica part origin other = None

-- what is lent and what the owner has at home, and what is given back and what the holder has free
abbrev pub lent_of : Setup → ℕ → List Entry → ShortAct → Option (ℕ × ℕ)
lent_of setup replica part (Lend to conit amount) = Some (amount, home setup replica part conit)
lent_of setup replica part other = None

abbrev pub returned_of : Setup → ℕ → List Entry → ShortAct → Option (ℕ × ℕ)
returned_of setup replica part (Back owner conit amount) = Some (amount, free setup replica part owner conit)
returned_of setup replica part other = None

-- the reply that a call tells, and the due one
abbrev pub replies_of : Setup → ℕ → List Entry → ℕ → ShortAct → Option (Reply × Reply)
replies_of setup replica part moment (Call client number request reply) = Some (reply, reply_of setup replica part moment request)
replies_of setup replica part moment other = None

-- the message that an act takes, if it was sent
abbrev pub taken_of : List Entry → ShortAct → Option Message
taken_of history (Take from number) = message_sent history from number
taken_of history other = None

-- what is told isn't what is due, and passes its limit
abbrev pub Differ : {A : Type 0} → Option (A × A) → A → A → Type 0
Differ {A} found told due = (found ≡ Some (told, due)) × (told ≢ due)

abbrev pub Passes : Option (ℕ × ℕ) → ℕ → ℕ → Type 0
Passes found told limit = (found ≡ Some (told, limit)) × (limit < told)

-- a test of an entry fails after a history: of the firsts that differ, that of the least origin counts
abbrev pub Fails : Setup → List Entry → Short → Cause → Type 0
Fails setup history short (cause.Full replica) = (replica ≡ short.replica) × (HISTORY_MAX ≤ length (part_of history replica))
Fails setup history short (cause.Moment told last) = (told ≡ short.moment) × (last ≡ last_moment (part_of history short.replica)) × (told < last)
Fails setup history short (cause.Number told due) = Differ (numbers_of (part_of history short.replica) short.act) told due
Fails setup history short (cause.First origin told due) =
    let firsts = λ (origin : ℕ). firsts_of short.replica (part_of history short.replica) origin short.act in
    (origin < setup.replicas) × Differ (firsts origin) told due
    × ((earlier other wanted : ℕ) → earlier < origin → firsts earlier ≡ Some (other, wanted) → other ≡ wanted)
Fails setup history short (cause.NoSend from number) = (short.act ≡ Take from number) × (message_sent history from number ≡ None)
Fails setup history short (cause.NotAddressed to) =
    MatchOption (taken_of history short.act) ⊥ (λ message. (to ≡ message.to) × (to ≢ short.replica))
Fails setup history short (cause.Home amount home) = Passes (lent_of setup short.replica (part_of history short.replica) short.act) amount home
Fails setup history short (cause.Free amount free) = Passes (returned_of setup short.replica (part_of history short.replica) short.act) amount free
Fails setup history short (cause.Reply told due) =
    Differ (replies_of setup short.replica (part_of history short.replica) short.moment short.act) told due

-- the order of the tests
abbrev pub place_of_test : Cause → ℕ
place_of_test (cause.Full replica) = 0
place_of_test (cause.Moment told last) = 1
place_of_test (cause.Number told due) = 2
place_of_test (cause.First origin told due) = 3
place_of_test (cause.NoSend from number) = 4
place_of_test (cause.NotAddressed to) = 5
place_of_test (cause.Home amount home) = 6
place_of_test (cause.Free amount free) = 7
place_of_test (cause.Reply told due) = 8

-- the first test that fails
pub record IsFirstCause (setup : Setup) (history : List Entry) (short : Short) (found : Cause) : Type 0 where
  pub fails : Fails setup history short found
  pub first : (other : Cause) → Fails setup history short other → place_of_test found ≤ place_of_test other
