-- What a plan asks of a run beside its clients' calls: that waiting calls are followed by messages, that loans and restarts
-- are made, and that rounds settle the replicas (this project's own rule).
use Rattle.std.specs.Prelude.{◌≡◌, ◌≢◌, ◌⊎◌, ℕ, ◌<◌, ◌≤◌, ◌==◌, ◌&&◌, Bool, true, false, List, ◌∷◌, ◌++◌, All, Contains, filter, get_or, length, Option, Some, None}
use Rattle.std.specs.List.{filter_map}
use Rattle.tact_base.specs.Setup.{Setup}
use Rattle.link_faults.specs.Plans.{no_faults}
use Rattle.anti_entropy.specs.Wishes.{wish_of}
use Rattle.run_model.specs.Histories.{IsPrefix, part_of}
use Rattle.run_model.specs.declared.entry.Act.{Act}
use Rattle.run_model.specs.declared.entry.Act.TheVariants as act
use Rattle.run_model.specs.declared.entry.Entry.{Entry}
use Rattle.run_model.specs.declared.entry.Message.{Message}
use Rattle.locked_replica.specs.Loans.{amount_of, most_of}
use Rattle.locked_replica.specs.declared.loan.Loan.{Loan}
use Rattle.locked_replica.specs.declared.loan.Loan.TheVariants as loan
use Rattle.work_load.specs.Attempts.{is_call}
use Rattle.work_load.specs.Workloads.{Workload}
use Rattle.work_load.specs.declared.plan.Client.{Client}
use Rattle.work_load.specs.declared.plan.Item.{Item}
use Rattle.work_load.specs.declared.plan.Item.TheVariants as item

-- a sending of a replica to another in a history, with what stands before and after it
pub record IsSending (history : List Entry) (from to : ℕ) : Type 0 where
  pub before : List Entry
  pub sent : Entry
  pub message : Message
  pub after : List Entry
  pub all : history ≡ before ++ sent ∷ after
  pub by : sent.replica ≡ from
  pub sends : sent.act ≡ act.Send message
  pub addressed : message.to ≡ to

-- a replica takes a message
abbrev pub IsTakenIn : List Entry → ℕ → Message → Type 0
IsTakenIn history to message = (taken : Entry) × Contains history taken × (taken.replica ≡ to) × (taken.act ≡ act.Take message)

-- the other replica that an act's reply names as what it waits for
abbrev pub wish_in : Act → Option ℕ
wish_in (act.Call client number request reply) = wish_of reply
wish_in other = None

-- after each call of a replica whose reply names another, the replica sends to that one
abbrev pub IsHeeded : List Entry → ℕ → Type 0
IsHeeded history replica =
    (front rest : List Entry) (call : Entry) (wish : ℕ)
    → history ≡ front ++ call ∷ rest → call.replica ≡ replica → wish_in call.act ≡ Some wish → IsSending rest replica wish

-- the loan that an item asks for, and the one that an act is
abbrev pub loan_of : Item → Option Loan
loan_of (item.Lend holder conit amount) = Some (loan.Out holder conit amount)
loan_of (item.Back owner conit amount) = Some (loan.Back owner conit amount)
loan_of other = None

abbrev pub loan_in : Act → Option Loan
loan_in (act.Lend holder conit amount) = Some (loan.Out holder conit amount)
loan_in (act.Back owner conit amount) = Some (loan.Back owner conit amount)
loan_in other = None

-- how often a loan is among loans
abbrev pub is_loan : Loan → Loan → Bool
is_loan (loan.Out holder conit amount) (loan.Out holder' conit' amount') = holder == holder' && conit == conit' && amount == amount'
is_loan (loan.Back owner conit amount) (loan.Back owner' conit' amount') = owner == owner' && conit == conit' && amount == amount'
is_loan loan other = false

abbrev pub times : Loan → List Loan → ℕ
times loan loans = length (filter (is_loan loan) loans)

-- the loans that items ask for, and those that a replica made
abbrev pub loans_asked : List Item → List Loan
loans_asked items = filter_map loan_of items

abbrev pub loans_made : List Entry → ℕ → List Loan
loans_made history replica = filter_map (λ entry. loan_in entry.act) (part_of history replica)

-- at some point of a history a loan passed what the replica had at home or free
abbrev pub HasPassed : Setup → ℕ → List Entry → Loan → Type 0
HasPassed setup replica history loan =
    (front : List Entry) × IsPrefix front history × (most_of setup replica (part_of front replica) loan < amount_of loan)

-- each loan of items is made as often as they ask for it, or passed that once
abbrev pub AreLent : Setup → ℕ → List Item → List Entry → Type 0
AreLent setup replica items history =
    (loan : Loan) → (times loan (loans_asked items) ≤ times loan (loans_made history replica)) ⊎ HasPassed setup replica history loan

-- the restarts that items ask for, and those that a replica made
abbrev pub asks_restart : Item → Bool
asks_restart item.Restart = true
asks_restart other = false

abbrev pub is_restart : Act → Bool
is_restart act.Restart = true
is_restart other = false

abbrev pub restarts_asked : List Item → ℕ
restarts_asked items = length (filter asks_restart items)

abbrev pub restarts_made : List Entry → ℕ → ℕ
restarts_made history replica = length (filter (λ entry. is_restart entry.act) (part_of history replica))

-- What items ask for beside calls: their loans are made, and at least as many restarts as they ask for.
pub record AreObeyed (setup : Setup) (replica : ℕ) (items : List Item) (history : List Entry) : Type 0 where
  pub lent : AreLent setup replica items history
  pub restarted : restarts_asked items ≤ restarts_made history replica

-- After all calls a replica sends to another, which takes the message where its link loses none.
pub record IsSettled (lose : ℕ) (history : List Entry) (from to : ℕ) : Type 0 where
  pub sending : IsSending history from to
  pub last : All (λ entry. is_call entry.act ≡ false) sending.after
  pub taken : lose ≡ 0 → IsTakenIn sending.after to sending.message

-- All calls that wait are heeded, each client's loans and restarts are made, and where there are rounds, they settle each
-- replica with each other.
pub record IsServed (plan : Workload) (history : List Entry) : Type 0 where
  pub heeded : (replica : ℕ) → IsHeeded history replica
  pub obeyed : All (λ (client : Client). AreObeyed plan.setup client.replica client.items history) plan.clients
  pub settled : plan.settle ≢ 0 → (from to : ℕ) → from < plan.setup.replicas → to < plan.setup.replicas → from ≢ to
      → IsSettled (get_or plan.links to no_faults).lose history from to
