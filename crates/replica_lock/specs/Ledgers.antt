-- The book of what tallies outside add up, beside the totals of all that is stored; and what is owed to clients.
use Rattle.std.specs.Prelude.{◌≡◌, ◌≢◌, ℕ, ◌+◌, ◌-◌, ◌*◌, ◌<◌, ◌≤◌, ◌^◌, ◌==◌, true, false, nat_lt, IsTrue, List, Option, None, Some, length, take, drop, sum, sum_by, get_or, set, slice_index, slice_set, if◌then◌else◌}
use Rattle.tact_base.specs.declared.limits.TheConstants.{CLIENTS}
use Rattle.run_model.specs.declared.entry.Act.{Act}
use Rattle.run_model.specs.declared.entry.Act.TheVariants as act
use Rattle.run_model.specs.declared.entry.Entry.{Entry}
use Rattle.entry_journal.specs.EntryJournals.{JournalView}
use Rattle.locked_replica.specs.Asking.{conit_of, given_up}
use Rattle.locked_replica.specs.Locks.{LockedView, made_place, one_more_at, turns_place}
use Rattle.locked_replica.specs.declared.fault.NodeFault.{NodeFault}
use Rattle.locked_replica.specs.declared.fault.NodeFault.TheVariants as fault
use Rattle.locked_replica.specs.declared.fault.NodeLoanFault.{NodeLoanFault}
use Rattle.locked_replica.specs.declared.fault.NodeLoanFault.TheVariants as loan_fault
use Rattle.locked_replica.specs.declared.fault.RestartFault.{RestartFault}
use Rattle.locked_replica.specs.declared.fault.RestartFault.TheVariants as restart_fault
use Rattle.locked_replica.specs.declared.restarting.Found.{Found}
use Rattle.replica_lock.specs.declared.owe.Owe.{Owe}

-- the totals by place, and by client what is owed to it
pub record LedgerView : Type 0 where
  pub book : List ℕ
  pub owes : List Owe

-- Where the book has the further numbers of a client, behind its turns and the entries made for it: how often it was told
-- that the journal failed, and that the node is halted, and whether it is in doubt.
abbrev pub faults_place : ℕ → ℕ → ℕ
faults_place conits client = conits + 2 * CLIENTS + client

abbrev pub halts_place : ℕ → ℕ → ℕ
halts_place conits client = conits + 3 * CLIENTS + client

abbrev pub doubt_place : ℕ → ℕ → ℕ
doubt_place conits client = conits + 4 * CLIENTS + client

-- what is owed to a client, where nothing is
abbrev pub nothing_owed : Owe
nothing_owed = record { stands = false; conit = 0; amount = None; kept = 0 }

abbrev pub owe_of : List Owe → ℕ → Owe
owe_of owes client = get_or owes client nothing_owed

abbrev pub standing : Owe → ℕ
standing owe = if owe.stands then 1 else 0

-- how much is owed, and how much of it on a conit, to one and to all
abbrev pub amount_in : Option ℕ → ℕ
amount_in None = 0
amount_in (Some amount) = amount

abbrev pub owed_by : ℕ → Owe → ℕ
owed_by conit owe = if owe.conit == conit then amount_in owe.amount else 0

abbrev pub owed_on : List Owe → ℕ → ℕ
owed_on owes conit = sum_by (owed_by conit) owes

-- The totals are the book and what is owed: on each conit, of each client's turns, and of the entries made for each. To
-- a client whose session isn't in doubt nothing is owed but entries that restarts drew. An amount that is owed is on one
-- of the conits.
pub record IsBooked (conits : ℕ) (totals book : List ℕ) (owes : List Owe) : Type 0 where
  pub totals_sized : length totals ≡ conits + 2 * CLIENTS
  pub book_sized : length book ≡ conits + 5 * CLIENTS
  pub owes_sized : length owes ≡ CLIENTS
  pub amounts : (conit : ℕ) → conit < conits → get_or totals conit 0 ≡ get_or book conit 0 + owed_on owes conit
  pub turns : (client : ℕ) → client < CLIENTS
      → get_or totals (turns_place conits client) 0 ≡ get_or book (turns_place conits client) 0 + standing (owe_of owes client)
  pub made : (client : ℕ) → client < CLIENTS
      → get_or totals (made_place conits client) 0 ≡ get_or book (made_place conits client) 0 + (owe_of owes client).kept
  pub certain : (client : ℕ) → client < CLIENTS
      → get_or book (doubt_place conits client) 0 ≡ 0
      → ((owe_of owes client).stands ≡ false) × ((owe_of owes client).amount ≡ None)
  pub within : (client : ℕ) → client < CLIENTS → (owe_of owes client).amount ≢ None → (owe_of owes client).conit < conits

-- what a book has of all clients, from a place on
abbrev pub all_clients : ℕ → List ℕ → ℕ
all_clients place book = sum (take CLIENTS (drop place book))

abbrev pub all_faults : ℕ → List ℕ → ℕ
all_faults conits book = all_clients (conits + 2 * CLIENTS) book

abbrev pub all_halts : ℕ → List ℕ → ℕ
all_halts conits book = all_clients (conits + 3 * CLIENTS) book

-- how many entries restarts drew
abbrev pub all_kept : List Owe → ℕ
all_kept owes = sum_by (λ owe. owe.kept) owes

-- what is owed to a client whose call is in doubt: nothing stands, and what the call takes out of an allowance on a conit
-- is kept for it
abbrev pub doubted_owe : Owe → ℕ → Option ℕ → Owe
doubted_owe owe conit lost = record { stands = false; conit = conit; amount = lost; kept = owe.kept }

-- an entry in doubt, where it is a call, is of a client whose session is in doubt
abbrev pub IsOwedAct : ℕ → List ℕ → List Owe → Act → Type 0
IsOwedAct conits book owes (act.Call client number asked given) =
    (get_or book (doubt_place conits client) 0 ≢ 0) × (owe_of owes client ≡ doubted_owe (owe_of owes client) (conit_of asked) (given_up asked))
IsOwedAct conits book owes done = Unit {0}

-- What marks and a journal have to do with one another: no more faults are marked than the journal counted, short of the
-- greatest number; a halt is marked only where it counted one, or doesn't tell its pieces; and where none is marked
-- nothing is in doubt, and restarts drew nothing.
pub record IsMarked (conits : ℕ) (journal : JournalView) (book : List ℕ) (owes : List Owe) : Type 0 where
  pub faults : journal.faults < 2 ^ 64 - 1 → all_faults conits book ≤ journal.faults
  pub halts : all_halts conits book ≢ 0 → IsTrue journal.tells → journal.faults ≢ 0
  pub kept : all_faults conits book ≡ 0 → all_kept owes ≡ 0
  pub doubt : (entry : Entry) → journal.doubt ≡ Some entry → (all_faults conits book ≢ 0) × IsOwedAct conits book owes entry.act

-- the book of a node and what it owes, beside its value and its journal
pub record IsAccounted (state : LockedView) (journal : JournalView) (book : List ℕ) (owes : List Owe) : Type 0 where
  pub booked : IsBooked state.core.setup.conits state.totals book owes
  pub marked : IsMarked state.core.setup.conits journal book owes

-- a mark that rises, which stops at 2 ^ 60
abbrev pub risen : ℕ → ℕ
risen mark = if nat_lt mark (2 ^ 60) then mark + 1 else mark

abbrev pub marked_at : ℕ → List ℕ → List ℕ
marked_at place book = slice_set book place (risen (slice_index book place))

-- the book after a client was told a fault
abbrev pub told_book : ℕ → ℕ → NodeFault → List ℕ → List ℕ
told_book conits client fault.Halted book = marked_at (halts_place conits client) book
told_book conits client fault.JournalFault book = marked_at (faults_place conits client) book
told_book conits client (fault.Full count clock) book = book
told_book conits client fault.NoMemory book = book

abbrev pub lent_book : ℕ → ℕ → NodeLoanFault → List ℕ → List ℕ
lent_book conits client (loan_fault.Node told) book = told_book conits client told book
lent_book conits client (loan_fault.Home conit home) book = book
lent_book conits client (loan_fault.Free conit free) book = book

abbrev pub restart_book : ℕ → ℕ → RestartFault → List ℕ → List ℕ
restart_book conits client restart_fault.JournalFault book = marked_at (faults_place conits client) book
restart_book conits client restart_fault.JournalReadFault book = marked_at (faults_place conits client) book
restart_book conits client (restart_fault.Foreign place) book = marked_at (halts_place conits client) book
restart_book conits client (restart_fault.Full count clock) book = book
restart_book conits client restart_fault.NoMemory book = book

-- a total that is less, and one that is more
abbrev pub less_at : ℕ → ℕ → List ℕ → List ℕ
less_at place amount book = slice_set book place (slice_index book place - amount)

abbrev pub more_at : ℕ → ℕ → List ℕ → List ℕ
more_at place amount book = slice_set book place (slice_index book place + amount)

-- The book after a call of a client was told a fault, and what is owed then: where the journal failed, the client is in
-- doubt, and what the call takes out of an allowance on a conit is out no more, but kept for it.
abbrev pub failed_book : ℕ → ℕ → ℕ → Option ℕ → NodeFault → List ℕ → List ℕ
failed_book conits client conit lost fault.JournalFault book =
    one_more_at (doubt_place conits client) (less_at conit (amount_in lost) (marked_at (faults_place conits client) book))
failed_book conits client conit lost fault.Halted book = told_book conits client fault.Halted book
failed_book conits client conit lost (fault.Full count clock) book = book
failed_book conits client conit lost fault.NoMemory book = book

abbrev pub failed_owes : ℕ → ℕ → Option ℕ → NodeFault → List Owe → List Owe
failed_owes client conit lost fault.JournalFault owes = set owes client (doubted_owe (owe_of owes client) conit lost)
failed_owes client conit lost other owes = owes

-- what is owed after a journal gave the entry in doubt back: a call stands, and what a reserve was granted goes to its
-- client; in any case a restart drew it
abbrev pub found_owe : Owe → Found → Owe
found_owe owe found = if found.call then record { stands = true; conit = owe.conit; amount = found.granted; kept = owe.kept + 1 } else record owe { kept = owe.kept + 1 }

abbrev pub found_owes : Option Found → List Owe → List Owe
found_owes None owes = owes
found_owes (Some found) owes = set owes found.client (found_owe (owe_of owes found.client) found)

-- the book after a client resumed: what stands is one of its turns, what is owed is out, and it is in doubt no more
abbrev pub resumed_book : ℕ → ℕ → Owe → List ℕ → List ℕ
resumed_book conits client owe book =
    less_at (doubt_place conits client) 1 (more_at (turns_place conits client) (standing owe) (more_at owe.conit (amount_in owe.amount) book))

abbrev pub resumed_owe : Owe → Owe
resumed_owe owe = record owe { stands = false; amount = None }
