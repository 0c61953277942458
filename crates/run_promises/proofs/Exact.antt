-- In a run loans total exactly.
use Rattle.std.proofs.Common.{◌≡◌, ℕ, ◌≤◌, List, All, sym, arith}
use Rattle.std.proofs.lemmas.List.Sums.{sum-map}
use Rattle.tact_base.specs.Setup.{Setup, peers_of}
use Rattle.run_model.specs.Histories.{part_of}
use Rattle.run_model.specs.Loans.{lent, returned, lent_known, returned_known, out}
use Rattle.run_model.specs.Promises.{held_by, IsExact}
use Rattle.run_model.specs.declared.entry.Entry.{Entry}
use Rattle.tact_base.proofs.Peers.{All-peers}
use Rattle.tact_base.proofs.PeerSums.{sum_by-each}
use Rattle.run_promises.proofs.LoansAgree.{LoansAgree}
use Rattle.run_promises.proofs.KeepsHome.{KeepsHome}
use Rattle.run_promises.proofs.KeepsShares.{KeepsShares}

-- Home and what each holder has, or is on its way to or from it, make the alpha.
pub IsExact-from : (setup : Setup) (history : List Entry)
    → LoansAgree setup history
    → KeepsHome setup history
    → ((replica : ℕ) → KeepsShares setup replica (part_of history replica))
    → IsExact setup history
IsExact-from setup history agree keeps shares owner conit owner_in conit_in =
    let peers = peers_of setup owner in
    let held = held_by setup history owner conit in
    let at = λ (holder : ℕ). out setup owner (part_of history owner) holder conit in
    let same : All (λ holder. held holder ≡ at holder) peers =
    All-peers setup owner (λ holder. held holder ≡ at holder) (λ holder within other.
    omega (arith, agree.lent holder owner conit, agree.returned owner holder conit, ((shares holder).each owner conit owner_in (λ turned. other (sym turned))).covered)) in
    record {
      total = omega (arith, keeps owner conit owner_in conit_in, sum_by-each held at peers same, sum-map held peers, sum-map at peers);
      told = All-peers setup owner (λ holder. lent_known setup holder (part_of history holder) owner conit ≤ lent setup owner (part_of history owner) holder conit)
          (λ holder within other. agree.lent holder owner conit);
      covered = All-peers setup owner (λ holder. returned (part_of history holder) owner conit ≤ lent_known setup holder (part_of history holder) owner conit)
          (λ holder within other. ((shares holder).each owner conit owner_in (λ turned. other (sym turned))).covered);
      back = All-peers setup owner (λ holder. returned_known (part_of history owner) holder conit ≤ returned (part_of history holder) owner conit)
          (λ holder within other. agree.returned owner holder conit);
    }
