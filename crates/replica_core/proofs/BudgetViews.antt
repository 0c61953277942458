-- What the budgets of a replica tell is what the definitions say of each part that they stand for.
use Rattle.std.proofs.Common.{◌≡◌, ℕ, suc, ◌+◌, ◌-◌, ◌<◌, ◌≤◌, max, nat_le, List, [], ◌∷◌, ◌++◌, length, get_or, drop, map, filter, flat_map, sum, refl, sym, ap, ap₂, ◌∙◌, ⊎_elim, arith}
use Rattle.std.specs.List.{drop-map}
use Rattle.std.proofs.Math.Seq.{drop-nil}
use Rattle.std.proofs.lemmas.Bool.{cases_lt, le-leb, lt-leb}
use Rattle.std.proofs.lemmas.List.{drop-drop}
use Rattle.tact_base.proofs.ListLemmas.{map_agree}
use Rattle.tact_base.proofs.Peers.{All-peers}
use Rattle.tact_base.specs.Setup.{Setup, alpha_of, peers_of}
use Rattle.tact_base.specs.Sums.{above_zero, below_zero}
use Rattle.tact_base.specs.declared.conit_list.Weight.{Weight}
use Rattle.tact_base.specs.declared.write.Write.{Write}
use Rattle.run_model.specs.Loans as model
use Rattle.run_model.specs.Missing as model_missing
use Rattle.run_model.specs.OwnWrites.{own}
use Rattle.run_model.specs.Taking.{known}
use Rattle.run_model.specs.declared.entry.Entry.{Entry}
use Rattle.run_model.proofs.Sound.{IsNumbered}
use Rattle.split_budget.specs.Budgets.{BudgetState, share, out, home, part_sum, maybe_missed, missing_plus, missing_minus, greater_missing, free}
use Rattle.replica_core.specs.Stands.{BudgetsStand}

-- of writes numbered from a number on, those from an index on are those past the ones before it
pub filter_from : (writes : List Write) (start least : ℕ)
    → ((place : ℕ) (d : Write) → place < length writes → (get_or writes place d).index ≡ start + place)
    → filter (λ (write : Write). nat_le least write.index) writes ≡ drop (least - start) writes
filter_from [] start least numbered = sym (drop-nil (least - start))
filter_from (write ∷ writes) start least numbered =
    let here : write.index ≡ start = omega (arith, numbered 0 write (omega arith)) in
    let later = filter_from writes (start + 1) least (λ place d within. omega (arith, numbered (suc place) d (omega (arith, within)))) in
    ⊎_elim
    (λ (before : write.index < least).
    let less : least - start ≡ suc (least - (start + 1)) = omega (arith, before, here) in
    rw (lt-leb least write.index before, less) later)
    (λ (from : least ≤ write.index).
    let none : least - start ≡ 0 = omega (arith, from, here) in
    let none' : least - (start + 1) ≡ 0 = omega (arith, from, here) in
    rw (le-leb least write.index from, none) (ap (λ (ws : List Write). write ∷ ws) (later ∙ ap (λ (n : ℕ). drop n writes) none')))
    (cases_lt write.index least)

-- what is dropped in two steps
drop_more : {A : Type 0} (first all : ℕ) (xs : List A)
    → first ≤ all
    → drop (all - first) (drop first xs) ≡ drop all xs
drop_more first all xs less = drop-drop (all - first) first xs ∙ ap (λ (n : ℕ). drop n xs) (omega (arith, less))

flat_map_of_map : (writes : List Write)
    → flat_map (λ (weights : List Weight). weights) (map (λ (write : Write). write.weights) writes) ≡ flat_map (λ (write : Write). write.weights) writes
flat_map_of_map [] = refl
flat_map_of_map (write ∷ writes) = ap (λ (rest : List Weight). write.weights ++ rest) (flat_map_of_map writes)

module _ (setup : Setup) (replica : ℕ) (part : List Entry) (budgets : BudgetState) (stand : BudgetsStand setup replica part budgets) (is_setup : budgets.setup ≡ setup)
    (is_replica : budgets.replica ≡ replica) where
  -- Of a peer on a conit.
  module _ (peer conit : ℕ) (peer_in : peer < setup.replicas) (other : peer ≡ replica → ⊥) where
    pub share-part : conit < setup.conits → share budgets peer conit ≡ model.share setup replica part peer conit
    share-part within = ap₂ (λ (lent back : ℕ). lent - back) (stand.lent_known peer conit peer_in other within) (stand.returned peer conit peer_in other within)

    pub out-part : conit < setup.conits → out budgets peer conit ≡ model.out setup replica part peer conit
    out-part within = ap₂ (λ (lent back : ℕ). lent - back) (stand.lent peer conit peer_in other within) (stand.returned_known peer conit peer_in other within)

    missed : IsNumbered replica part
        → flat_map (λ (weights : List Weight). weights) (maybe_missed budgets peer)
        ≡ flat_map (λ (write : Write). write.weights) (model_missing.maybe_missed replica part peer)
    missed numbered =
        ap₂ (λ (n : ℕ) (rows : List (List Weight)). flat_map (λ (weights : List Weight). weights) (drop (n - budgets.given_up) rows)) (stand.known peer peer_in other) stand.weights
        ∙ ap (flat_map (λ (weights : List Weight). weights)) (drop_more budgets.given_up (known part peer replica) (map (λ (write : Write). write.weights) (own part)) (stand.had peer peer_in other))
        ∙ ap (flat_map (λ (weights : List Weight). weights)) (drop-map (λ (write : Write). write.weights) (known part peer replica) (own part))
        ∙ flat_map_of_map (drop (known part peer replica) (own part))
        ∙ ap (λ (n : ℕ). flat_map (λ (write : Write). write.weights) (drop n (own part))) (omega arith)
        ∙ ap (flat_map (λ (write : Write). write.weights)) (sym (filter_from (own part) 0 (known part peer replica) (λ place d within. omega (arith, numbered.indices place d within))))

    pub missing_plus-part : IsNumbered replica part → missing_plus budgets peer conit ≡ model_missing.missing_plus replica part peer conit
    missing_plus-part numbered = ap (part_sum above_zero conit) (missed numbered)

    pub missing_minus-part : IsNumbered replica part → missing_minus budgets peer conit ≡ model_missing.missing_minus replica part peer conit
    missing_minus-part numbered = ap (part_sum below_zero conit) (missed numbered)

    pub greater_missing-part : IsNumbered replica part → greater_missing budgets peer conit ≡ model_missing.greater_missing replica part peer conit
    greater_missing-part numbered = ap₂ max (missing_plus-part numbered) (missing_minus-part numbered)

    pub free-part : IsNumbered replica part → conit < setup.conits → free budgets peer conit ≡ model.free setup replica part peer conit
    free-part numbered within =
        ap₂ (λ (left reserved : ℕ). left - reserved) (ap₂ (λ (share missing : ℕ). share - missing) (share-part within) (greater_missing-part numbered)) (stand.reserved conit within)

  -- what of its own bound is at home
  pub home-part : (conit : ℕ) → conit < setup.conits → home budgets conit ≡ model.home setup replica part conit
  home-part conit within =
      ap₂ (λ (s : Setup) (r : ℕ). alpha_of s r conit - sum (map (λ peer. out budgets peer conit) (peers_of s r))) is_setup is_replica
      ∙ ap (λ (outs : List ℕ). alpha_of setup replica conit - sum outs)
      (map_agree (λ peer. out budgets peer conit) (λ peer. model.out setup replica part peer conit) (peers_of setup replica)
      (All-peers setup replica (λ peer. out budgets peer conit ≡ model.out setup replica part peer conit)
      (λ peer peer_in other. out-part peer conit peer_in other within)))
