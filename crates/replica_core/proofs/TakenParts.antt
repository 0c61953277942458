-- What a message does to a replica's budgets and covers.
use Rattle.std.proofs.Common.{◌≡◌, ℕ, ◌+◌, ◌-◌, ◌<◌, ◌≤◌, ◌==◌, nat_le, max, true, false, if◌then◌else◌, List, ◌∷◌}
use Rattle.std.proofs.Common.{length, get_or, slice_index, set, drop, map, refl, sym, ap, ◌∙◌, le_trans, ⊎_elim, arith}
use Rattle.std.proofs.Common.{get_or-set_same, get_or-set_other}
use Rattle.std.proofs.lemmas.Bool.{cases_eq, eq-eqb, ne_eqb}
use Rattle.std.proofs.lemmas.List.{length-set}
use Rattle.tact_base.proofs.CoversLemmas.{least_of-le, least_stamp-le, least_stamp-ge, later_cover-stamp}
use Rattle.tact_base.specs.Covers.{no_cover, later_cover, cover_after, least_stamp}
use Rattle.tact_base.specs.Setup.{Setup, place_of, peers_of}
use Rattle.tact_base.specs.declared.conit_list.Weight.{Weight}
use Rattle.tact_base.specs.declared.write.Cover.{Cover}
use Rattle.run_model.specs.Taking.{told_have}
use Rattle.run_model.specs.declared.entry.Message.{Message}
use Rattle.split_budget.specs.Budgets.{BudgetState, had_by_all}
use Rattle.split_budget.specs.Kept.{KeepsBudgets}
use Rattle.replica_core.specs.Taking.{AreBudgetsTaken, AreToldBy, raised_by, with_known}
use Rattle.replica_core.proofs.BudgetRoom.{with_room}

-- a cover after a told one has no lower stamp
pub cover_after-stamp : (have : ℕ) (kept told : Cover) → kept.stamp ≤ (cover_after have kept told).stamp
cover_after-stamp have kept told =
    elim (nat_le told.count have) as (λ fits. kept.stamp ≤ (if fits then later_cover kept told else kept).stamp) [
      | true ↦ later_cover-stamp kept told
      | false ↦ omega arith
    ]

-- where no stamp falls the least one doesn't
pub least_stamp-rises : (before after : List Cover)
    → 0 < length before
    → length after ≡ length before
    → ((k : ℕ) → k < length before → (get_or before k no_cover).stamp ≤ (get_or after k no_cover).stamp)
    → least_stamp before ≤ least_stamp after
least_stamp-rises before after some size each =
    least_stamp-ge (least_stamp before) after no_cover (omega (arith, some, size))
    (λ k within.
    let inside : k < length before = omega (arith, within, size) in
    le_trans (least_stamp-le before k no_cover inside) (each k inside))

-- a number that is raised doesn't fall
pub raised_by-ge : (message : Message) (peer before told : ℕ) → before ≤ raised_by message peer before told
raised_by-ge message peer before told =
    elim (peer == message.from) as (λ yes. before ≤ (if yes then max before told else before)) [
      | true ↦ omega arith
      | false ↦ omega arith
    ]

-- Budgets that noted what a message tells of its sender.
module _ (setup : Setup) (replica : ℕ) (old new : BudgetState) (message : Message) (is_setup : old.setup ≡ setup) (is_replica : old.replica ≡ replica)
    (from_in : message.from < setup.replicas) (other : message.from ≡ replica → ⊥) (kept : KeepsBudgets new)
    (acked : new ≡ record (with_known old message.from (told_have message old.replica)) { lent_known = new.lent_known; returned_known = new.returned_known; room = new.room })
    (lent : AreToldBy old.setup message message.lent old.lent_known new.lent_known) (returned : AreToldBy old.setup message message.returned old.returned_known new.returned_known) where
  abbrev count : ℕ
  count = told_have message old.replica

  abbrev known : List ℕ
  known = set old.known message.from (max (get_or old.known message.from 0) count)

  abbrev noted : BudgetState
  noted = record old { known = known }

  abbrev had : ℕ
  had = had_by_all noted

  same_setup : new.setup ≡ old.setup
  same_setup = ap (λ (b : BudgetState). b.setup) acked

  given_up_is : new.given_up ≡ old.given_up + had
  given_up_is = ap (λ (b : BudgetState). b.given_up) acked

  weights_are : new.weights ≡ drop had old.weights
  weights_are = ap (λ (b : BudgetState). b.weights) acked

  known_is : new.known ≡ known
  known_is = ap (λ (b : BudgetState). b.known) acked

  few : had ≤ length old.weights
  few = least_of-le (length old.weights ∷ map (λ peer. slice_index known peer - old.given_up) (peers_of old.setup old.replica)) 0 (omega arith)

  sized : length old.known ≡ setup.replicas
  sized =
      sym (length-set old.known message.from (max (get_or old.known message.from 0) count)) ∙ sym (ap length known_is) ∙ kept.known
      ∙ ap (λ (s : Setup). s.replicas) (same_setup ∙ is_setup)

  abbrev with_parts : ℕ → List (List Weight) → List ℕ → BudgetState
  with_parts given_up weights known = record old {
    given_up = given_up;
    weights = weights;
    known = known;
    lent_known = new.lent_known;
    returned_known = new.returned_known;
    room = 0;
  }

  whole : with_room new 0 ≡ with_parts new.given_up new.weights new.known
  whole =
      ap (λ (b : BudgetState). with_room b 0) acked
      ∙ ap (λ (n : ℕ). with_parts n (drop had old.weights) known) (sym given_up_is)
      ∙ ap (λ (ws : List (List Weight)). with_parts new.given_up ws known) (sym weights_are)
      ∙ ap (with_parts new.given_up new.weights) (sym known_is)

  known_of : (peer : ℕ) → get_or new.known peer 0 ≡ raised_by message peer (get_or old.known peer 0) (told_have message replica)
  known_of peer =
      ap (λ (ns : List ℕ). get_or ns peer 0) known_is
      ∙ ⊎_elim
      (λ (same : peer ≡ message.from).
      ap (λ (p : ℕ). get_or known p 0) same
      ∙ get_or-set_same old.known message.from (max (get_or old.known message.from 0) count) 0 (omega (arith, from_in, sized))
      ∙ sym (rw (eq-eqb peer message.from same, same) (ap (λ (r : ℕ). max (get_or old.known message.from 0) (told_have message r)) (sym is_replica))))
      (λ (differ : peer ≡ message.from → ⊥).
      get_or-set_other old.known message.from peer (max (get_or old.known message.from 0) count) 0 differ ∙ sym (rw (ne_eqb peer message.from differ) refl))
      (cases_eq peer message.from)

  pub AreBudgetsTaken-noted : AreBudgetsTaken setup replica (with_room old 0) (with_room new 0) message
  AreBudgetsTaken-noted = record {
    same = whole;
    rows = record {
      rises = omega (arith, given_up_is);
      within = omega (arith, given_up_is, few);
      had = λ peer within apart.
          kept.given_up peer (omega (arith, within, ap (λ (s : Setup). s.replicas) (same_setup ∙ is_setup)), λ same. apart (same ∙ ap (λ (b : BudgetState). b.replica) acked ∙ is_replica));
      weights = weights_are ∙ ap (λ (n : ℕ). drop n old.weights) (omega (arith, given_up_is));
    };
    known = λ peer within apart. known_of peer;
    lent = λ peer conit within apart conit_in.
        ap (λ (s : Setup). get_or new.lent_known (place_of s peer conit) 0) same_setup
        ∙ lent peer conit (omega (arith, within, ap (λ (s : Setup). s.replicas) is_setup)) (omega (arith, conit_in, ap (λ (s : Setup). s.conits) is_setup));
    returned = λ peer conit within apart conit_in.
        ap (λ (s : Setup). get_or new.returned_known (place_of s peer conit) 0) same_setup
        ∙ returned peer conit (omega (arith, within, ap (λ (s : Setup). s.replicas) is_setup)) (omega (arith, conit_in, ap (λ (s : Setup). s.conits) is_setup));
  }
