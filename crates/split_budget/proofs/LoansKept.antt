-- What the budgets keep as parts of the bounds are lent and given back.
use Rattle.std.proofs.Common.{◌≡◌, ◌==◌, ℕ, ◌+◌, ◌^◌, ◌<◌, ◌≤◌, ◌∙◌, max, cond, true, List, length, map, get_or, set, sum, refl, sym, ap, subst, inl, inr, ◌⊎◌, ⊎_elim, arith}
use Rattle.std.proofs.lemmas.Bool.{cases_eq, eq-eqb}
use Rattle.std.proofs.lemmas.List.{length-set}
use Rattle.std.proofs.lemmas.List.Elements.{All-set, All-get_or}
use Rattle.std.proofs.lemmas.List.Sums.{sum-map, sum_by-le-sum_by}
use Rattle.tact_base.proofs.PeerSums.{at_one, at_one-peers, sum_by-plus}
use Rattle.tact_base.proofs.SetupLemmas.{place_in}
use Rattle.tact_base.specs.Setup.{Setup, peers_of, place_of, alpha_of}
use Rattle.tact_base.specs.declared.limits.TheConstants.{LENT_MAX}
use Rattle.split_budget.specs.Budgets.{BudgetState, IsPeer, lent_to, lent_by, returned_by, returned_to, out, all_out, home, free}
use Rattle.split_budget.specs.Kept.{KeepsPeer, KeepsBudgets}
use Rattle.split_budget.proofs.KeptLemmas.{KeepsBudgets-changed}
use Rattle.split_budget.proofs.Places.{place_of-replica, place_of-conit, get_or-set_cases, get_or-set_grows}

-- where each term is at most another
sum-le : (f g : ℕ → ℕ) (xs : List ℕ) → ((x : ℕ) → f x ≤ g x) → sum (map f xs) ≤ sum (map g xs)
sum-le f g xs each = omega (arith, sum-map f xs, sum-map g xs, sum_by-le-sum_by f g xs each)

-- and where one peer has so much more
sum-le-one : (setup : Setup) (replica : ℕ) (f g : ℕ → ℕ) (one amount : ℕ)
    → ((peer : ℕ) → f peer ≤ g peer + at_one one amount peer)
    → sum (map f (peers_of setup replica)) ≤ sum (map g (peers_of setup replica)) + amount
sum-le-one setup replica f g one amount each =
    let peers = peers_of setup replica in
    let less = sum_by-le-sum_by f (λ peer. g peer + at_one one amount peer) peers each in
    omega (arith, less, sum_by-plus g (at_one one amount) peers, at_one-peers setup replica one amount, sum-map f peers, sum-map g peers)

-- A holder gave back more.
module _ (s : BudgetState) (keeps : KeepsBudgets s) (holder conit told : ℕ) (is_holder : IsPeer s holder) (conit_in : conit < s.setup.conits) (less : told ≤ lent_to s holder conit) where
  abbrev here : ℕ
  here = place_of s.setup holder conit

  -- what it gave back now
  abbrev now_returned : ℕ
  now_returned = max (returned_by s holder conit) told

  abbrev with_returned : BudgetState
  with_returned = record s { returned_known = set s.returned_known here now_returned }

  returned-within : (peer at : ℕ)
      → returned_by s peer at ≤ lent_to s peer at
      → returned_by with_returned peer at ≤ lent_to s peer at
  returned-within peer at kept =
      let own = keeps.peers holder conit is_holder conit_in in
      ⊎_elim (λ (same : (place_of s.setup peer at ≡ here) × (returned_by with_returned peer at ≡ now_returned)).
      let lent : lent_to s peer at ≡ lent_to s holder conit = ap (λ place. get_or s.lent place 0) same.0 in
      omega (arith, same.1, lent, own.returned_known))
      (λ (other : (place_of s.setup peer at ≡ here → ⊥) × (returned_by with_returned peer at ≡ returned_by s peer at)). omega (arith, other.1, kept))
      (get_or-set_cases s.returned_known here now_returned (place_of s.setup peer at) (rw keeps.returned_known (place_in s.setup holder conit is_holder.0 conit_in)))

  out-falls : (at peer : ℕ) → out with_returned peer at ≤ out s peer at
  out-falls at peer = omega (arith, get_or-set_grows s.returned_known here now_returned (place_of s.setup peer at) (omega arith))

  pub KeepsBudgets-returned : KeepsBudgets with_returned
  KeepsBudgets-returned =
      KeepsBudgets-changed s keeps s.weights s.reserved s.lent s.returned (set s.returned_known here now_returned) s.room
      refl refl refl (length-set s.returned_known here now_returned)
      (λ peer at is within.
      let kept = keeps.peers peer at is within in
      record { plus = kept.plus; minus = kept.minus; returned = kept.returned; returned_known = returned-within peer at kept.returned_known; lent = kept.lent })
      (λ at within.
      omega (arith, sum-le (λ peer. out with_returned peer at) (λ peer. out s peer at) (peers_of s.setup s.replica) (out-falls at), keeps.home at within))

-- An owner tells that it lent so much.
module _ (s : BudgetState) (keeps : KeepsBudgets s) (owner conit told : ℕ) (is_owner : IsPeer s owner) (conit_in : conit < s.setup.conits) (fits : told < 2 ^ 64) where
  abbrev told_place : ℕ
  told_place = place_of s.setup owner conit

  abbrev now_told : ℕ
  now_told = max (lent_by s owner conit) told

  now_told-fits : now_told < 2 ^ 64
  now_told-fits =
      let within : told_place < length s.lent_known = rw keeps.lent_known (place_in s.setup owner conit is_owner.0 conit_in) in
      omega (arith, fits, All-get_or (λ told. told < 2 ^ 64) s.lent_known told_place 0 within keeps.told)

  pub KeepsBudgets-told : KeepsBudgets (record s { lent_known = set s.lent_known told_place now_told })
  KeepsBudgets-told = record {
    setup = keeps.setup;
    replica = keeps.replica;
    known = keeps.known;
    reserved = keeps.reserved;
    lent = keeps.lent;
    lent_known = length-set s.lent_known told_place now_told ∙ keeps.lent_known;
    returned = keeps.returned;
    returned_known = keeps.returned_known;
    told = All-set (λ told. told < 2 ^ 64) s.lent_known told_place now_told now_told-fits keeps.told;
    given_up = keeps.given_up;
    peers = λ peer at is within.
        let kept = keeps.peers peer at is within in
        let grows = get_or-set_grows s.lent_known told_place now_told (place_of s.setup peer at) (omega arith) in
        record {
          plus = omega (arith, kept.plus, grows);
          minus = omega (arith, kept.minus, grows);
          returned = omega (arith, kept.returned, grows);
          returned_known = kept.returned_known;
          lent = kept.lent;
        };
    home = keeps.home;
  }

-- More is lent to a holder, of what is at home.
module _ (s : BudgetState) (keeps : KeepsBudgets s) (holder conit amount : ℕ) (is_holder : IsPeer s holder) (conit_in : conit < s.setup.conits)
    (at_home : amount ≤ home s conit) (limit : lent_to s holder conit + amount ≤ LENT_MAX) where
  abbrev place : ℕ
  place = place_of s.setup holder conit

  abbrev with_lent : BudgetState
  with_lent = record s { lent = set s.lent place (lent_to s holder conit + amount) }

  lent-cases : (peer at : ℕ)
      → ((place_of s.setup peer at ≡ place) × (lent_to with_lent peer at ≡ lent_to s holder conit + amount))
      ⊎ ((place_of s.setup peer at ≡ place → ⊥) × (lent_to with_lent peer at ≡ lent_to s peer at))
  lent-cases peer at =
      get_or-set_cases s.lent place (lent_to s holder conit + amount) (place_of s.setup peer at) (rw keeps.lent (place_in s.setup holder conit is_holder.0 conit_in))

  lent-limit : (peer at : ℕ)
      → lent_to s peer at ≤ LENT_MAX
      → lent_to with_lent peer at ≤ LENT_MAX
  lent-limit peer at kept =
      ⊎_elim (λ (same : (place_of s.setup peer at ≡ place) × (lent_to with_lent peer at ≡ lent_to s holder conit + amount)). omega (arith, same.1, limit))
      (λ (other : (place_of s.setup peer at ≡ place → ⊥) × (lent_to with_lent peer at ≡ lent_to s peer at)). omega (arith, other.1, kept))
      (lent-cases peer at)

  -- the holder has so much more on the conit; at another place nothing changes
  out-rises : (at peer : ℕ)
      → at < s.setup.conits
      → (out with_lent peer at ≤ out s peer at) ⊎ ((peer ≡ holder) × (at ≡ conit) × (out with_lent peer at ≤ out s peer at + amount))
  out-rises at peer at_in =
      ⊎_elim (λ (same : (place_of s.setup peer at ≡ place) × (lent_to with_lent peer at ≡ lent_to s holder conit + amount)).
      let before : lent_to s peer at ≡ lent_to s holder conit = ap (λ place. get_or s.lent place 0) same.0 in
      inr (place_of-replica s.setup peer at holder conit at_in conit_in same.0, place_of-conit s.setup peer at holder conit at_in conit_in same.0, omega (arith, same.1, before)))
      (λ (other : (place_of s.setup peer at ≡ place → ⊥) × (lent_to with_lent peer at ≡ lent_to s peer at)). inl (omega (arith, other.1)))
      (lent-cases peer at)

  out-one : (peer : ℕ) → out with_lent peer conit ≤ out s peer conit + at_one holder amount peer
  out-one peer =
      ⊎_elim (λ (less : out with_lent peer conit ≤ out s peer conit). omega (arith, less))
      (λ (more : (peer ≡ holder) × (conit ≡ conit) × (out with_lent peer conit ≤ out s peer conit + amount)).
      let on : (holder == peer) ≡ true = eq-eqb holder peer (sym more.0) in
      let all : at_one holder amount peer ≡ amount = ap (λ yes. cond yes amount 0) on in
      omega (arith, all, more.2))
      (out-rises conit peer conit_in)

  out-elsewhere : (at peer : ℕ)
      → at < s.setup.conits
      → (at ≡ conit → ⊥)
      → out with_lent peer at ≤ out s peer at
  out-elsewhere at peer at_in other =
      ⊎_elim (λ (less : out with_lent peer at ≤ out s peer at). less)
      (λ (more : (peer ≡ holder) × (at ≡ conit) × (out with_lent peer at ≤ out s peer at + amount)). absurd (other more.1))
      (out-rises at peer at_in)

  home-kept : (at : ℕ)
      → at < s.setup.conits
      → all_out with_lent at ≤ alpha_of s.setup s.replica at
  home-kept at within =
      ⊎_elim (λ (same : at ≡ conit).
      let kept = keeps.home conit conit_in in
      rw same (omega (arith, sum-le-one s.setup s.replica (λ peer. out with_lent peer conit) (λ peer. out s peer conit) holder amount out-one, kept, at_home)))
      (λ (other : at ≡ conit → ⊥).
      omega (arith, sum-le (λ peer. out with_lent peer at) (λ peer. out s peer at) (peers_of s.setup s.replica) (λ peer. out-elsewhere at peer within other), keeps.home at within))
      (cases_eq at conit)

  pub KeepsBudgets-lent : KeepsBudgets with_lent
  KeepsBudgets-lent =
      KeepsBudgets-changed s keeps s.weights s.reserved (set s.lent place (lent_to s holder conit + amount)) s.returned s.returned_known s.room
      refl (length-set s.lent place (lent_to s holder conit + amount)) refl refl
      (λ peer at is within.
      let kept = keeps.peers peer at is within in
      let more = get_or-set_grows s.lent place (lent_to s holder conit + amount) (place_of s.setup peer at) (omega arith) in
      record { plus = kept.plus; minus = kept.minus; returned = kept.returned; returned_known = omega (arith, kept.returned_known, more); lent = lent-limit peer at kept.lent })
      home-kept

-- More is given back to an owner, of what covers nothing.
module _ (s : BudgetState) (keeps : KeepsBudgets s) (owner conit amount : ℕ) (is_owner : IsPeer s owner) (conit_in : conit < s.setup.conits) (is_free : amount ≤ free s owner conit) where
  abbrev with_given : BudgetState
  with_given = record s { returned = set s.returned (place_of s.setup owner conit) (returned_to s owner conit + amount) }

  given-peer : (peer at : ℕ)
      → IsPeer s peer
      → at < s.setup.conits
      → KeepsPeer with_given peer at
  given-peer peer at is within =
      let kept = keeps.peers peer at is within in
      ⊎_elim (λ (same : (place_of s.setup peer at ≡ place_of s.setup owner conit) × (returned_to with_given peer at ≡ returned_to s owner conit + amount)).
      let same_peer : owner ≡ peer = sym (place_of-replica s.setup peer at owner conit within conit_in same.0) in
      let same_conit : conit ≡ at = sym (place_of-conit s.setup peer at owner conit within conit_in same.0) in
      let free_here : amount ≤ free s peer at = subst (λ p. amount ≤ free s p at) same_peer (subst (λ k. amount ≤ free s owner k) same_conit is_free) in
      let before : returned_to s peer at ≡ returned_to s owner conit = ap (λ place. get_or s.returned place 0) same.0 in
      record {
        plus = omega (arith, free_here, before, same.1, kept.plus);
        minus = omega (arith, free_here, before, same.1, kept.minus);
        returned = omega (arith, free_here, before, same.1, kept.returned);
        returned_known = kept.returned_known;
        lent = kept.lent;
      })
      (λ (other : (place_of s.setup peer at ≡ place_of s.setup owner conit → ⊥) × (returned_to with_given peer at ≡ returned_to s peer at)).
      record {
        plus = omega (arith, other.1, kept.plus);
        minus = omega (arith, other.1, kept.minus);
        returned = omega (arith, other.1, kept.returned);
        returned_known = kept.returned_known;
        lent = kept.lent;
      })
      (get_or-set_cases s.returned (place_of s.setup owner conit) (returned_to s owner conit + amount) (place_of s.setup peer at)
      (rw keeps.returned (place_in s.setup owner conit is_owner.0 conit_in)))

  pub KeepsBudgets-given : KeepsBudgets with_given
  KeepsBudgets-given =
      KeepsBudgets-changed s keeps s.weights s.reserved s.lent (set s.returned (place_of s.setup owner conit) (returned_to s owner conit + amount)) s.returned_known s.room
      refl refl (length-set s.returned (place_of s.setup owner conit) (returned_to s owner conit + amount)) refl given-peer keeps.home
