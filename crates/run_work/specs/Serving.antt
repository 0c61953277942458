-- How a worker's session is served on the way: to whom a message is still owed, and which loans and restarts are made.
use Rattle.std.specs.Prelude.{◌≡◌, ◌≢◌, ◌⊎◌, ℕ, ◌<◌, true, List, ◌∷◌, ◌++◌, IfSome, Option, Some, None}
use Rattle.tact_base.specs.Setup.{Setup}
use Rattle.run_model.specs.Histories.{IsPrefix, is_call_of}
use Rattle.run_model.specs.declared.entry.Entry.{Entry}
use Rattle.replica_lock.specs.Sessions.{SessionView}
use Rattle.steady_node.specs.Going.{IsUnmarked}
use Rattle.work_load.specs.declared.plan.Client.{Client}
use Rattle.work_load.specs.declared.plan.Item.{Item}
use Rattle.work_load.specs.declared.plan.Item.TheVariants as item
use Rattle.run_work.specs.Served.{AreObeyed, HasPassed, IsSending, loan_of, loans_made, restarts_made, times, wish_in}
use Rattle.run_work.specs.declared.trying.Tried.{Tried}
use Rattle.run_work.specs.declared.trying.Tried.TheVariants.{Final, Waiting}

-- another replica of a setup
abbrev pub IsOther : Setup → ℕ → ℕ → Type 0
IsOther setup replica to = (to < setup.replicas) × (to ≢ replica)

-- In what was seen, after each call of a client whose reply names another replica, the client's replica sends to that one;
-- but for the one to which a message is still owed.
abbrev pub AreHeededBut : Option ℕ → ℕ → ℕ → List Entry → Type 0
AreHeededBut owed replica client seen =
    (front rest : List Entry) (call : Entry) (wish : ℕ)
    → seen ≡ front ++ call ∷ rest → call.replica ≡ replica → is_call_of client call.act ≡ true → wish_in call.act ≡ Some wish
    → IsSending rest replica wish ⊎ (owed ≡ Some wish)

abbrev pub IsHeededBut : Option ℕ → SessionView → Type 0
IsHeededBut owed session = AreHeededBut owed session.replica session.client session.seen

-- to whom a message is owed after a try
abbrev pub owed_by : Tried → Option ℕ
owed_by Final = None
owed_by (Waiting wish) = wish

-- After a try a message is owed to the other replica that the reply names, and to no more; that is known while the session
-- is unmarked.
pub record Owes (setup : Setup) (tried : Tried) (before after : SessionView) : Type 0 where
  pub other : IfSome (owed_by tried) (IsOther setup before.replica)
  pub heeded : IsUnmarked after → IsHeededBut None before → IsHeededBut (owed_by tried) after

-- no message is owed after an item, if none was before
abbrev pub IsHeededAfter : SessionView → SessionView → Type 0
IsHeededAfter before after = IsUnmarked after → IsHeededBut None before → IsHeededBut None after

-- a session's replica has sent to another, after all that the session had seen
abbrev pub HasSentTo : ℕ → SessionView → SessionView → Type 0
HasSentTo to before after = (sending : IsSending after.seen before.replica to) × IsPrefix before.seen sending.before

-- the loan that an item asks for is made once more, or passed what there was
abbrev pub HasLent : Setup → Item → SessionView → SessionView → Type 0
HasLent setup item before after =
    IfSome (loan_of item) (λ loan.
    (times loan (loans_made before.seen before.replica) < times loan (loans_made after.seen before.replica)) ⊎ HasPassed setup before.replica after.seen loan)

-- and so is its restart
abbrev pub HasRestarted : Item → SessionView → SessionView → Type 0
HasRestarted item.Restart before after = restarts_made before.seen before.replica < restarts_made after.seen before.replica
HasRestarted other before after = Unit {0}

abbrev pub IsObeyed : Setup → Item → SessionView → SessionView → Type 0
IsObeyed setup item before after = IsUnmarked after → HasLent setup item before after × HasRestarted item before after

-- by what was seen a client's calls are heeded, and the loans and restarts of its items are made
pub record IsClientServed (setup : Setup) (client : Client) (seen : List Entry) : Type 0 where
  pub heeded : AreHeededBut None client.replica client.client seen
  pub obeyed : AreObeyed setup client.replica client.items seen
