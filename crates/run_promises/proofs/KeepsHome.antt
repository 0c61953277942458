-- In a run no owner lends more than its alpha.
use Rattle.std.proofs.Common.{◌≡◌, ℕ, ◌+◌, ◌<◌, ◌≤◌, ◌==◌, ◌&&◌, Bool, true, false, cond, List, [], ◌∷◌, ◌++◌, map, sum, sum_by, slice_index, refl, subst, ⊎_elim, arith}
use Rattle.std.proofs.lemmas.Bool.{cases_eq, ne_eqb}
use Rattle.std.proofs.lemmas.List.Sums.{sum-map, sum_by-le-sum_by}
use Rattle.tact_base.specs.Setup.{Setup, IsSetup, alpha_of, loans_of, loan_of, peers_of}
use Rattle.run_model.specs.Histories.{part_of}
use Rattle.run_model.specs.Loans.{out, home, lent_by_act}
use Rattle.run_model.specs.Runs.{IsDue, IsActDue, IsRun}
use Rattle.run_model.specs.declared.entry.Act.{Act}
use Rattle.run_model.specs.declared.entry.Act.TheVariants as act
use Rattle.run_model.specs.declared.entry.Entry.{Entry}
use Rattle.run_model.specs.declared.entry.Message.{Message}
use Rattle.tact_base.proofs.SetupLemmas.{HasCounts-from_IsSetup, HasRow-from_IsSetup, length-loans_of}
use Rattle.run_model.proofs.PartLemmas.{part_of-push_cases}
use Rattle.run_model.proofs.RunInduction.{over_runs}
use Rattle.tact_base.proofs.PeerSums.{sum_by-plus, at_one, at_one-peers, reads-peers}
use Rattle.run_promises.proofs.LoanSteps.{lent-push, most_told-rises}

-- all that an owner has out on a conit
abbrev pub all_out : Setup → ℕ → List Entry → ℕ → ℕ
all_out setup replica part conit = sum (map (λ peer. out setup replica part peer conit) (peers_of setup replica))

-- what an act lends on a conit, to all peers
abbrev lends : Setup → ℕ → ℕ → Act → ℕ
lends setup replica conit done = sum_by (λ peer. lent_by_act peer conit done) (peers_of setup replica)

nothing-lent : (peers : List ℕ) → sum_by (λ (peer : ℕ). 0) peers ≡ 0
nothing-lent [] = refl
nothing-lent (peer ∷ peers) = nothing-lent peers

lent_at : (to peer at conit amount : ℕ)
    → cond (to == peer && at == conit) amount 0 ≤ at_one to amount peer
lent_at to peer at conit amount = go (to == peer) (at == conit)
  where
    go : (one other : Bool) → cond (one && other) amount 0 ≤ cond one amount 0
    go true true = omega arith
    go true false = omega arith
    go false other = omega arith

lent_elsewhere : (to peer at conit amount : ℕ)
    → (at ≡ conit → ⊥)
    → cond (to == peer && at == conit) amount 0 ≤ 0
lent_elsewhere to peer at conit amount other = go (to == peer) (at == conit) (ne_eqb at conit other)
  where
    go : (one here : Bool) → here ≡ false → cond (one && here) amount 0 ≤ 0
    go true true off = cc
    go true false off = omega arith
    go false here off = omega arith

-- an act that is due lends no more than is at home
module _ (setup : Setup) (replica : ℕ) (part : List Entry) (at : ℕ) (conit : ℕ) (within : all_out setup replica part conit ≤ alpha_of setup replica conit) where
  nothing : (n : ℕ) → n ≡ 0 → all_out setup replica part conit + n ≤ alpha_of setup replica conit
  nothing n none = omega (arith, none)

  pub lends-within : (done : Act)
      → IsActDue setup replica part at done
      → all_out setup replica part conit + lends setup replica conit done ≤ alpha_of setup replica conit
  lends-within (act.Lend to on amount) due = ⊎_elim
      (λ (same : on ≡ conit).
      let less = sum_by-le-sum_by (λ peer. lent_by_act peer conit (act.Lend to on amount)) (at_one to amount) (peers_of setup replica) (λ peer. lent_at to peer on conit amount) in
      let kept : amount ≤ home setup replica part conit = subst (λ c. amount ≤ home setup replica part c) same due in
      omega (arith, less, at_one-peers setup replica to amount, kept))
      (λ (other : on ≡ conit → ⊥).
      let less = sum_by-le-sum_by (λ peer. lent_by_act peer conit (act.Lend to on amount)) (λ peer. 0) (peers_of setup replica) (λ peer. lent_elsewhere to peer on conit amount other) in
      omega (arith, less, nothing-lent (peers_of setup replica)))
      (cases_eq on conit)
  lends-within (act.Call client number asked given) due = nothing (lends setup replica conit (act.Call client number asked given)) (nothing-lent (peers_of setup replica))
  lends-within (act.Send message) due = nothing (lends setup replica conit (act.Send message)) (nothing-lent (peers_of setup replica))
  lends-within (act.Take message) due = nothing (lends setup replica conit (act.Take message)) (nothing-lent (peers_of setup replica))
  lends-within (act.Back owner on amount) due = nothing (lends setup replica conit (act.Back owner on amount)) (nothing-lent (peers_of setup replica))
  lends-within act.Restart due = nothing (lends setup replica conit act.Restart) (nothing-lent (peers_of setup replica))

-- what is out grows by no more than what is lent
all_out-push : (setup : Setup) (replica : ℕ) (part : List Entry) (entry : Entry) (conit : ℕ)
    → all_out setup replica (part ++ entry ∷ []) conit ≤ all_out setup replica part conit + lends setup replica conit entry.act
all_out-push setup replica part entry conit =
    let before = λ (peer : ℕ). out setup replica part peer conit in
    let more = λ (peer : ℕ). lent_by_act peer conit entry.act in
    let after = λ (peer : ℕ). out setup replica (part ++ entry ∷ []) peer conit in
    let each : (peer : ℕ) → after peer ≤ before peer + more peer =
    λ peer. omega (arith, lent-push part entry setup replica peer conit, most_told-rises part entry (λ (m : Message). slice_index m.returned conit) peer) in
    let less = sum_by-le-sum_by after (λ peer. before peer + more peer) (peers_of setup replica) each in
    omega (arith, less, sum_by-plus before more (peers_of setup replica), sum-map before (peers_of setup replica), sum-map after (peers_of setup replica))

-- within its alpha, for each owner and conit
abbrev pub KeepsHome : Setup → List Entry → Type 0
KeepsHome setup history = (owner conit : ℕ) → owner < setup.replicas → conit < setup.conits → all_out setup owner (part_of history owner) conit ≤ alpha_of setup owner conit

KeepsHome-nil : (setup : Setup) → IsSetup setup → KeepsHome setup []
KeepsHome-nil setup good owner conit owner_in conit_in =
    let row = HasRow-from_IsSetup setup good owner conit owner_in conit_in in
    let size = length-loans_of setup (HasCounts-from_IsSetup setup good) owner conit owner_in conit_in in
    let opening = reads-peers setup owner (loans_of setup owner conit) size in
    let each = sum_by-le-sum_by (λ peer. out setup owner [] peer conit) (λ peer. loan_of setup owner conit peer) (peers_of setup owner) (λ peer. omega arith) in
    omega (arith, row.total, opening, each, sum-map (λ peer. out setup owner [] peer conit) (peers_of setup owner))

KeepsHome-push : (setup : Setup) (history : List Entry) (entry : Entry)
    → IsDue setup (part_of history entry.replica) entry
    → KeepsHome setup history
    → KeepsHome setup (history ++ entry ∷ [])
KeepsHome-push setup history entry due keeps owner conit owner_in conit_in =
    part_of-push_cases history entry (λ r part. r < setup.replicas → all_out setup r part conit ≤ alpha_of setup r conit)
    (λ within.
    let part = part_of history entry.replica in
    omega (arith, all_out-push setup entry.replica part entry conit, lends-within setup entry.replica part entry.moment conit (keeps entry.replica conit within conit_in) entry.act due.act))
    (λ r within. keeps r conit within conit_in) owner owner_in

pub KeepsHome-run : (setup : Setup) (history : List Entry)
    → IsSetup setup
    → IsRun setup history
    → KeepsHome setup history
KeepsHome-run setup history good =
    over_runs setup (KeepsHome setup) (KeepsHome-nil setup good) (λ before entry run lawful keeps. KeepsHome-push setup before entry lawful.due keeps) history
