-- What the budgets keep fits in 64 bits, and is kept as amounts are held and acknowledgements taken.
use Rattle.std.proofs.Common.{◌≡◌, ℕ, ◌+◌, ◌-◌, ◌^◌, ◌<◌, ◌≤◌, max, ℤ, length, get_or, set, refl, sym, ap, ◌∙◌, ⊎_elim, arith}
use Rattle.std.proofs.lemmas.Bool.{cases_eq}
use Rattle.std.proofs.lemmas.List.{length-set}
use Rattle.std.proofs.lemmas.List.Elements.{All-get_or}
use Rattle.tact_base.proofs.SetupLemmas.{HasCounts-from_IsSetup, place_in}
use Rattle.tact_base.specs.Setup.{place_of}
use Rattle.tact_base.specs.Sums.{above_zero, below_zero}
use Rattle.tact_base.specs.declared.fit.Fit.TheVariants.{Fits}
use Rattle.split_budget.specs.declared.side.Side.TheVariants.{Greater}
use Rattle.split_budget.specs.Budgets.{BudgetState, IsPeer, reserved_on, share, greater_missing, part_on, had_by_all, with_given_up}
use Rattle.split_budget.specs.Answers.{reserve_answer, missing_on}
use Rattle.split_budget.specs.Kept.{KeepsPeer, KeepsBudgets}
use Rattle.split_budget.proofs.KeptLemmas.{KeepsBudgets-changed}
use Rattle.split_budget.proofs.OwnLemmas.{drop-given_up, least_below-number}
use Rattle.split_budget.proofs.Places.{get_or-set_cases, get_or-set_grows}
use Rattle.split_budget.proofs.Parts.{part_on-known}
use Rattle.split_budget.proofs.Refusals.{answer-Fits}

-- One state that keeps, and a peer on a conit.
module _ (s : BudgetState) (keeps : KeepsBudgets s) where
  -- a share fits in 64 bits
  pub share-fits : (peer conit : ℕ)
      → IsPeer s peer
      → conit < s.setup.conits
      → share s peer conit < 2 ^ 64
  share-fits peer conit is k =
      let within : place_of s.setup peer conit < length s.lent_known = rw keeps.lent_known (place_in s.setup peer conit is.0 k) in
      let told = All-get_or (λ told. told < 2 ^ 64) s.lent_known (place_of s.setup peer conit) 0 within keeps.told in
      omega (arith, told)

  -- some replica is a peer
  a_peer : (peer : ℕ) × IsPeer s peer
  a_peer =
      let counts = HasCounts-from_IsSetup s.setup keeps.setup in
      ⊎_elim (λ (first : s.replica ≡ 0). (1, (omega (arith, counts.replicas_low), omega (arith, first))))
      (λ (other : s.replica ≡ 0 → ⊥). (0, (omega (arith, counts.replicas_low), (λ (same : 0 ≡ s.replica). other (sym same)))))
      (cases_eq s.replica 0)

  -- an amount that fits can be added to what is reserved
  pub held-fits : (conit amount : ℕ)
      → conit < s.setup.conits
      → reserve_answer s conit amount ≡ Fits
      → reserved_on s conit + amount < 2 ^ 64
  held-fits conit amount k fits =
      let peer = a_peer in
      let within = answer-Fits s conit amount (missing_on Greater s conit) fits peer.0 peer.1 in
      omega (arith, within, share-fits peer.0 conit peer.1 k)

  -- an amount is held
  pub KeepsBudgets-held : (conit amount : ℕ)
      → conit < s.setup.conits
      → reserve_answer s conit amount ≡ Fits
      → KeepsBudgets (record s { reserved = set s.reserved conit (reserved_on s conit + amount) })
  KeepsBudgets-held conit amount k fits =
      KeepsBudgets-changed s keeps s.weights (set s.reserved conit (reserved_on s conit + amount)) s.lent s.returned s.returned_known s.room
      (length-set s.reserved conit (reserved_on s conit + amount)) refl refl refl held_peer keeps.home
    where
      held_peer : (peer at : ℕ)
          → IsPeer s peer
          → at < s.setup.conits
          → KeepsPeer (record s { reserved = set s.reserved conit (reserved_on s conit + amount) }) peer at
      held_peer peer at is within =
          let kept = keeps.peers peer at is within in
          ⊎_elim (λ (here : (at ≡ conit) × (get_or (set s.reserved conit (reserved_on s conit + amount)) at 0 ≡ reserved_on s conit + amount)).
          let fitting : greater_missing s peer at + reserved_on s conit + amount ≤ share s peer at =
          rw here.0 (answer-Fits s conit amount (missing_on Greater s conit) fits peer is) in
          record { plus = omega (arith, fitting, here.1); minus = omega (arith, fitting, here.1); returned = kept.returned; returned_known = kept.returned_known; lent = kept.lent })
          (λ (there : (at ≡ conit → ⊥) × (get_or (set s.reserved conit (reserved_on s conit + amount)) at 0 ≡ get_or s.reserved at 0)).
          record { plus = omega (arith, kept.plus, there.1); minus = omega (arith, kept.minus, there.1); returned = kept.returned; returned_known = kept.returned_known; lent = kept.lent })
          (get_or-set_cases s.reserved conit (reserved_on s conit + amount) at (rw keeps.reserved k))

  -- a peer is known to have more
  pub KeepsBudgets-known : (peer count : ℕ)
      → KeepsBudgets (record s { known = set s.known peer (max (get_or s.known peer 0) count) })
  KeepsBudgets-known peer count =
      let newest = max (get_or s.known peer 0) count in
      let grows : (other : ℕ) → get_or s.known other 0 ≤ get_or (set s.known peer newest) other 0 =
      λ other. get_or-set_grows s.known peer newest other (omega arith) in
      record {
        setup = keeps.setup;
        replica = keeps.replica;
        known = length-set s.known peer newest ∙ keeps.known;
        reserved = keeps.reserved;
        lent = keeps.lent;
        lent_known = keeps.lent_known;
        returned = keeps.returned;
        returned_known = keeps.returned_known;
        told = keeps.told;
        given_up = λ other is. omega (arith, keeps.given_up other is, grows other);
        peers = λ other conit is within.
            let kept = keeps.peers other conit is within in
            let less = λ (part : ℤ → ℕ). part_on-known part conit (get_or s.known other 0 - s.given_up) (get_or (set s.known peer newest) other 0 - s.given_up) s.weights
            (omega (arith, grows other)) in
            record {
              plus = omega (arith, kept.plus, less above_zero);
              minus = omega (arith, kept.minus, less below_zero);
              returned = kept.returned;
              returned_known = kept.returned_known;
              lent = kept.lent;
            };
        home = keeps.home;
      }

  -- what each peer is known to have is given up
  pub KeepsBudgets-given_up : (room : ℕ) → KeepsBudgets (record (with_given_up s) { room = room })
  KeepsBudgets-given_up room =
      let had : (peer : ℕ) → IsPeer s peer → had_by_all s ≤ get_or s.known peer 0 - s.given_up =
      λ peer is. least_below-number (length s.weights) s.replica (λ peer. get_or s.known peer 0 - s.given_up) s.setup.replicas peer is.0 is.1 in
      record {
        setup = keeps.setup;
        replica = keeps.replica;
        known = keeps.known;
        reserved = keeps.reserved;
        lent = keeps.lent;
        lent_known = keeps.lent_known;
        returned = keeps.returned;
        returned_known = keeps.returned_known;
        told = keeps.told;
        given_up = λ peer is. omega (arith, keeps.given_up peer is, had peer is);
        peers = λ peer conit is within.
            let kept = keeps.peers peer conit is within in
            let same = λ (part : ℤ → ℕ). ap (part_on part conit) (drop-given_up (get_or s.known peer 0) s.given_up (had_by_all s) s.weights (had peer is)) in
            record {
              plus = omega (arith, kept.plus, same above_zero);
              minus = omega (arith, kept.minus, same below_zero);
              returned = kept.returned;
              returned_known = kept.returned_known;
              lent = kept.lent;
            };
        home = keeps.home;
      }

-- both at once
pub KeepsBudgets-acked : (s : BudgetState)
    → KeepsBudgets s
    → (peer count room : ℕ)
    → KeepsBudgets (record (with_given_up (record s { known = set s.known peer (max (get_or s.known peer 0) count) })) { room = room })
KeepsBudgets-acked s keeps peer count room =
    KeepsBudgets-given_up (record s { known = set s.known peer (max (get_or s.known peer 0) count) }) (KeepsBudgets-known s keeps peer count) room
