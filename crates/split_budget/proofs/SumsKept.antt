-- What is kept of the sums as a write is added, a replica is known to have more, and writes are given up.
use Rattle.std.proofs.Common.{◌≡◌, ℕ, ◌+◌, ◌-◌, ◌<◌, ◌≤◌, ◌^◌, List, [], ◌∷◌, ◌++◌, length, get_or, set, drop, All, sym, ap, ◌∙◌, subst, ⊎_elim, arith}
use Rattle.std.proofs.lemmas.Bool.{cases_eq}
use Rattle.std.proofs.lemmas.List.{length-set, get_or-set_same, get_or-set_other, get_or_read}
use Rattle.std.proofs.lemmas.List.Elements.{All-drop, All-push, All-set, All-get_or}
use Rattle.tact_base.specs.declared.conit_list.Weight.{Weight}
use Rattle.split_budget.specs.Missed.{MissedState, AreMissed}
use Rattle.split_budget.specs.OwnWrites.{OwnState, IsOther, missed_by, had, without_had, KeepsSums}
use Rattle.split_budget.proofs.OwnLemmas.{drop-push_past, drop-given_up, least_below-count, least_below-number}
use Rattle.split_budget.proofs.Places.{get_or-set_grows}

-- no sums
abbrev pub no_sums : MissedState
no_sums = record { plus = []; minus = [] }

module _ (o : OwnState) where
  -- how many of the writes that are kept a replica is known to have
  abbrev pub known_of : ℕ → ℕ
  known_of peer = get_or o.known peer 0 - o.given_up

  -- what is read of it
  pub read_known : (known : List ℕ) (given_up peer read : ℕ)
      → known ≡ o.known
      → given_up ≡ o.given_up
      → peer < length o.known
      → read ≡ get_or known peer read
      → read - given_up ≡ known_of peer
  read_known known given_up peer read same same_given within is =
      omega (arith, same_given, get_or_read known peer read (rw same within) is 0 ∙ ap (λ list. get_or list peer 0) same)

  module _ (missed : List MissedState) (keeps : KeepsSums o missed) where
    -- what all others are known to have is within the writes, and within what each is known to have
    pub had-count : had o ≤ length o.weights
    had-count = least_below-count (length o.weights) o.replica known_of (length o.known)

    pub had-known : (peer : ℕ)
        → IsOther o peer
        → o.given_up + had o ≤ get_or o.known peer 0
    had-known peer is =
        omega (arith, keeps.given_up peer is, least_below-number (length o.weights) o.replica known_of (length o.known) peer is.0 is.1)

    pub had-fits : (peer : ℕ) → IsOther o peer → o.given_up + had o < 2 ^ 64
    had-fits peer is = omega (arith, had-known peer is, All-get_or (λ known. known < 2 ^ 64) o.known peer 0 is.0 keeps.fits)

    pub KeepsSums-without_had : (room : ℕ) → KeepsSums (record (without_had o) { room = room }) missed
    KeepsSums-without_had room = record {
      on_conits = All-drop (λ weights. All (λ weight. weight.conit < o.conits) weights) (had o) o.weights keeps.on_conits;
      replicas = keeps.replicas;
      fits = keeps.fits;
      given_up = had-known;
      sums = λ peer is.
          let within = least_below-number (length o.weights) o.replica known_of (length o.known) peer is.0 is.1 in
          subst (λ writes. AreMissed o.conits writes (get_or missed peer no_sums)) (sym (drop-given_up (get_or o.known peer 0) o.given_up (had o) o.weights within)) (keeps.sums peer is);
    }

    -- a replica is known to have so many, and has other sums
    pub KeepsSums-noted : (peer newest : ℕ) (new : MissedState)
        → IsOther o peer
        → newest < 2 ^ 64
        → get_or o.known peer 0 ≤ newest
        → AreMissed o.conits (drop (newest - o.given_up) o.weights) new
        → KeepsSums (record o { known = set o.known peer newest }) (set missed peer new)
    KeepsSums-noted peer newest new is fits more of = record {
      on_conits = keeps.on_conits;
      replicas = length-set missed peer new ∙ keeps.replicas ∙ sym (length-set o.known peer newest);
      fits = All-set (λ known. known < 2 ^ 64) o.known peer newest fits keeps.fits;
      given_up = λ other it. omega (arith, keeps.given_up other (rw (length-set o.known peer newest) at it.0, it.1), get_or-set_grows o.known peer newest other more);
      sums = sums;
    }
      where
        sums : (other : ℕ)
            → IsOther (record o { known = set o.known peer newest }) other
            → AreMissed o.conits (drop (get_or (set o.known peer newest) other 0 - o.given_up) o.weights) (get_or (set missed peer new) other no_sums)
        sums other it =
            ⊎_elim (λ (same : other ≡ peer).
            rw (same, get_or-set_same o.known peer newest 0 is.0, get_or-set_same missed peer new no_sums (rw keeps.replicas is.0)) of)
            (λ (differs : other ≡ peer → ⊥).
            rw (get_or-set_other o.known peer other newest 0 differs, get_or-set_other missed peer other new no_sums differs) (keeps.sums other (rw (length-set o.known peer newest) at it.0, it.1)))
            (cases_eq other peer)

-- A write is added to the sums of one replica after another: those before one have it, the others not yet.
module _ (o : OwnState) (weights : List Weight) where
  pub record HasAdded (peer : ℕ) (missed : List MissedState) : Type 0 where
    pub replicas : length missed ≡ length o.known
    pub before : (other : ℕ)
        → IsOther o other
        → other < peer
        → AreMissed o.conits (drop (known_of o other) (o.weights ++ weights ∷ [])) (get_or missed other no_sums)
    pub after : (other : ℕ) → IsOther o other → peer ≤ other → AreMissed o.conits (missed_by o other) (get_or missed other no_sums)

  module _ (peer : ℕ) (missed : List MissedState) (so_far : HasAdded peer missed) where
    -- the sums that are read of this one
    pub read_sums : (m : MissedState)
        → IsOther o peer
        → m ≡ get_or missed peer m
        → AreMissed o.conits (missed_by o peer) m
    read_sums m is read = rw (get_or_read missed peer m (rw so_far.replicas is.0) read no_sums) (so_far.after peer is (omega arith))

    -- this one gets other sums
    pub HasAdded-added : (new : MissedState)
        → peer < length o.known
        → AreMissed o.conits (drop (known_of o peer) (o.weights ++ weights ∷ [])) new
        → HasAdded (peer + 1) (set missed peer new)
    HasAdded-added new within of = record {
      replicas = length-set missed peer new ∙ so_far.replicas;
      before = λ other is below.
          ⊎_elim (λ (same : other ≡ peer). rw (same, get_or-set_same missed peer new no_sums (rw so_far.replicas within)) of)
          (λ (differs : other ≡ peer → ⊥). rw (get_or-set_other missed peer other new no_sums differs) (so_far.before other is (omega (arith, below, differs))))
          (cases_eq other peer);
      after = λ other is from.
          let differs : other ≡ peer → ⊥ = λ same. omega (arith, same, from) in
          rw (get_or-set_other missed peer other new no_sums differs) (so_far.after other is (omega (arith, from)));
    }

    -- or keeps its own, where it is known to have the write already
    pub HasAdded-left : (IsOther o peer → length o.weights < known_of o peer)
        → HasAdded (peer + 1) missed
    HasAdded-left past = record {
      replicas = so_far.replicas;
      before = λ other is below.
          ⊎_elim (λ (same : other ≡ peer).
          let is_peer : IsOther o peer = subst (IsOther o) same is in
          rw (same, drop-push_past (known_of o peer) o.weights weights (past is_peer)) (so_far.after peer is_peer (omega arith)))
          (λ (differs : other ≡ peer → ⊥). so_far.before other is (omega (arith, below, differs)))
          (cases_eq other peer);
      after = λ other is from. so_far.after other is (omega (arith, from));
    }

  -- after all of them
  pub KeepsSums-added : (old missed : List MissedState) (room : ℕ)
      → KeepsSums o old
      → All (λ weight. weight.conit < o.conits) weights
      → HasAdded (length o.known) missed
      → KeepsSums (record o { weights = o.weights ++ weights ∷ []; room = room }) missed
  KeepsSums-added old missed room keeps on all = record {
    on_conits = All-push (λ weights. All (λ weight. weight.conit < o.conits) weights) o.weights weights keeps.on_conits on;
    replicas = all.replicas;
    fits = keeps.fits;
    given_up = keeps.given_up;
    sums = λ peer is. all.before peer is is.0;
  }
