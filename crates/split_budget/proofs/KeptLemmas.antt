-- What the budgets keep, where some of their lists are other ones of the same lengths.
use Rattle.std.proofs.Common.{◌≡◌, ℕ, ◌<◌, ◌≤◌, List, length, refl, sym, ap, ◌∙◌}
use Rattle.tact_base.specs.Setup.{alpha_of}
use Rattle.tact_base.specs.declared.conit_list.Weight.{Weight}
use Rattle.split_budget.specs.Budgets.{BudgetState, IsPeer, all_out, had_by_all}
use Rattle.split_budget.specs.OwnWrites.{OwnState, IsOther, had}
use Rattle.split_budget.specs.Kept.{KeepsPeer, KeepsBudgets, KeepsOwn}

module _ (s : BudgetState) (keeps : KeepsBudgets s) (weights : List (List Weight)) (reserved lent returned returned_known : List ℕ) (room : ℕ) where
  -- the state with these lists
  abbrev pub changed : BudgetState
  changed = record s { weights = weights; reserved = reserved; lent = lent; returned = returned; returned_known = returned_known; room = room }

  pub KeepsBudgets-changed : length reserved ≡ length s.reserved
      → length lent ≡ length s.lent
      → length returned ≡ length s.returned
      → length returned_known ≡ length s.returned_known
      → ((peer conit : ℕ) → IsPeer s peer → conit < s.setup.conits → KeepsPeer changed peer conit)
      → ((conit : ℕ) → conit < s.setup.conits → all_out changed conit ≤ alpha_of s.setup s.replica conit)
      → KeepsBudgets changed
  KeepsBudgets-changed a b d e peers home = record {
    setup = keeps.setup;
    replica = keeps.replica;
    known = keeps.known;
    reserved = a ∙ keeps.reserved;
    lent = b ∙ keeps.lent;
    lent_known = keeps.lent_known;
    returned = d ∙ keeps.returned;
    returned_known = e ∙ keeps.returned_known;
    told = keeps.told;
    given_up = keeps.given_up;
    peers = peers;
    home = home;
  }

-- The budgets with their own writes: the other replicas are the peers, and the same writes are had by all.
module _ (s : BudgetState) (own : OwnState) (keeps : KeepsOwn s own) (same : own.known ≡ s.known) where
  long : length own.known ≡ s.setup.replicas
  long = ap length same ∙ keeps.keeps.known

  pub other_of_peer : (peer : ℕ) → IsPeer s peer → IsOther own peer
  other_of_peer peer is = (rw long is.0, λ here. is.1 (here ∙ keeps.replica))

  pub peer_of_other : (peer : ℕ) → IsOther own peer → IsPeer s peer
  peer_of_other peer is = (rw long at is.0, λ here. is.1 (here ∙ sym keeps.replica))

  pub had-same : (known : List ℕ)
      → length known ≡ length own.known
      → own.given_up ≡ s.given_up
      → own.weights ≡ s.weights
      → had (record own { known = known }) ≡ had_by_all (record s { known = known })
  had-same known as_long given_up weights = rw (as_long, long, keeps.replica, given_up, weights) refl
