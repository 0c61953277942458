-- The value of a node that made no entry.
use Rattle.std.proofs.Common.{◌≡◌, ℕ, ◌+◌, ◌-◌, ◌*◌, [], drop, length, get_or, sum, sym, ap, ◌∙◌, subst, arith}
use Rattle.std.proofs.lemmas.List.{drop-replicate}
use Rattle.std.proofs.lemmas.List.Folds.{sum_by-replicate}
use Rattle.tact_base.specs.declared.limits.TheConstants.{CLIENTS}
use Rattle.run_model.specs.Histories.{part_of, calls_in}
use Rattle.run_model.specs.Missing.{reserved}
use Rattle.run_history.specs.Ticks.{entries_of}
use Rattle.replica_core.specs.Stands.{Stands}
use Rattle.weight_ledger.specs.Amounts.{zeros}
use Rattle.weight_ledger.proofs.Places.{get_or-zeros, length-zeros}
use Rattle.locked_replica.specs.Locks.{IsLocked, LockedView, turns_place, part_in}

pub IsLocked-new : (locked : LockedView)
    → locked.clerk.replica ≡ locked.core.replica
    → Stands [] locked.core
    → locked.clerk.pairs ≡ []
    → locked.stored ≡ []
    → part_of locked.clerk.seen locked.clerk.replica ≡ entries_of locked.clerk.pairs
    → locked.totals ≡ zeros (locked.core.setup.conits + 2 * CLIENTS)
    → IsLocked locked
IsLocked-new locked replica stands drawn stored own totals =
    let conits = locked.core.setup.conits in
    let none : part_in locked ≡ [] = ap entries_of stored in
    let rest = drop-replicate (conits + CLIENTS) (conits + 2 * CLIENTS) 0 in
    let all = sum_by-replicate (λ (n : ℕ). n) (conits + 2 * CLIENTS - (conits + CLIENTS)) 0 in
    record {
      replica = replica;
      stands = subst (λ part. Stands part locked.core) (sym none) stands;
      drawn = drawn ∙ sym stored;
      own = ap (part_of locked.clerk.seen) (sym replica) ∙ own ∙ ap entries_of (drawn ∙ sym stored);
      places = ap length totals ∙ length-zeros (conits + 2 * CLIENTS);
      allowances = λ conit within. ap (λ t. get_or t conit 0) totals ∙ get_or-zeros (conits + 2 * CLIENTS) conit ∙ sym (ap (λ part. reserved part conit) none);
      turns = λ client within. ap (λ t. get_or t (turns_place conits client) 0) totals ∙ get_or-zeros (conits + 2 * CLIENTS) (turns_place conits client) ∙ sym (ap (λ part. calls_in part client) none);
      made = ap (λ t. sum (drop (conits + CLIENTS) t)) totals ∙ ap sum rest ∙ omega (arith, all) ∙ sym (ap length stored);
    }
