-- What is given up after a part that can be: committed writes that each replica is known to have, and no fewer after
-- one more entry.
use Rattle.std.proofs.Common.{◌≡◌, ℕ, zero, suc, ◌+◌, ◌<◌, ◌≤◌, ◌==◌, nat_lt, not, cond, Bool, true, List, [], ◌∷◌}
use Rattle.std.proofs.Common.{◌++◌, map, take, drop, filter, reverse, length, get_or, flat_map, All, Option, None, Some}
use Rattle.std.proofs.Common.{is_none, refl, sym, ap, ◌∙◌, subst, ⊎_elim, le_of_eq, le_trans, lt_of_lt_of_le, one-add}
use Rattle.std.proofs.Common.{arith}
use Rattle.std.specs.List.{prefix_len}
use Rattle.std.proofs.lemmas.Bool.{cases_eq, eqb-true, ne_eqb, ltb-true, lt-ltb}
use Rattle.std.proofs.lemmas.List.{reverse-append, reverse-reverse, take-append-le, take-append-drop, length-take-le, length-map, get_or-map, get_or-take}
use Rattle.std.proofs.lemmas.List.Elements.{All-head, All-tail, All-map, All-filter, All-weaker, filter_passes}
use Rattle.std.proofs.lemmas.List.Folds.{length-prefix_len}
use Rattle.std.proofs.lemmas.List.Sums.{prefix_len-le-length, prefix_len_passes}
use Rattle.tact_base.proofs.CommitLemmas.{committed_to_prefix_in_order}
use Rattle.tact_base.proofs.CoversLemmas.{least_of-is_least, least_of-le, least_of-ge}
use Rattle.tact_base.proofs.ListLemmas.{from_right, All-from_map}
use Rattle.tact_base.proofs.Peers.{All-from_kept, All-from_peers}
use Rattle.tact_base.specs.Covers.{least_of}
use Rattle.tact_base.specs.Setup.{Setup, replicas_of, peers_of}
use Rattle.tact_base.specs.WriteOrder.{committed_to}
use Rattle.tact_base.specs.declared.write.Write.{Write}
use Rattle.run_model.specs.Histories.{IsPrefix, taken_by_act}
use Rattle.run_model.specs.Order.{point, seen, committed}
use Rattle.run_model.specs.Runs.{MayFollow, IsPart}
use Rattle.run_model.specs.Taking.{log_of, have, known}
use Rattle.run_model.specs.declared.entry.Entry.{Entry}
use Rattle.run_model.specs.declared.entry.Message.{Message}
use Rattle.run_model.proofs.Growth.{Grows-push}
use Rattle.run_model.proofs.PartLemmas.{taken_by, known-push_none, known-push_from, known-push_other, greatest-is_least}
use Rattle.run_model.proofs.PrefixLemmas.{EachAfter-prefix, IsPrefix-append, IsPrefix-length}
use Rattle.replica_core.specs.Dropped.{may_lack, known_all, longest, upto_last_take, past_of, dropped, dropped_of}
use Rattle.replica_core.proofs.DroppedParts as parts

-- the least of numbers doesn't fall where none of them does
least_of-rises : (f g : ℕ → ℕ) (a b : ℕ) (xs : List ℕ)
    → a ≤ b
    → ((x : ℕ) → f x ≤ g x)
    → least_of (a ∷ map f xs) ≤ least_of (b ∷ map g xs)
least_of-rises f g a b xs first each =
    least_of-ge (least_of (a ∷ map f xs)) (b ∷ map g xs) (omega arith) below
  where
    below : (k : ℕ) → k < length (b ∷ map g xs) → least_of (a ∷ map f xs) ≤ get_or (b ∷ map g xs) k 0
    below zero within = le_trans (least_of-le (a ∷ map f xs) 0 (omega arith)) first
    below (suc k) within =
        let few : k < length xs = omega (arith, within, length-map xs g) in
        let here = least_of-le (a ∷ map f xs) (suc k) (omega (arith, few, length-map xs f)) in
        omega (arith, here, get_or-map f xs k 0 0 few, get_or-map g xs k 0 0 few, each (get_or xs k 0))

-- and is at most what each has that may lack some writes
pub least_of-may_lack : (setup : Setup) (replica origin count : ℕ) (told : ℕ → ℕ) (peer : ℕ)
    → peer < setup.replicas
    → (peer ≡ origin → ⊥)
    → (peer ≡ replica → ⊥)
    → least_of (count ∷ map told (may_lack setup replica origin)) ≤ told peer
least_of-may_lack setup replica origin count told peer within apart other =
    let least = least_of (count ∷ map told (may_lack setup replica origin)) in
    let all : All (λ n. least ≤ n) (map told (may_lack setup replica origin)) =
    All-tail (λ n. least ≤ n) count (map told (may_lack setup replica origin)) (least_of-is_least (count ∷ map told (may_lack setup replica origin))) in
    All-from_peers setup replica (λ peer. not (peer == origin) ≡ true → least ≤ told peer)
    (All-from_kept (λ peer. least ≤ told peer) (λ peer. not (peer == origin)) (peers_of setup replica)
    (All-from_map (λ n. least ≤ n) told (may_lack setup replica origin) all))
    peer within other (ap not (ne_eqb peer origin apart))

-- where all at the front pass, the count goes on behind them
pub prefix_len-passed : {A : Type 0} (p : A → Bool) (xs ys : List A)
    → All (λ x. p x ≡ true) xs
    → prefix_len p (xs ++ ys) ≡ length xs + prefix_len p ys
prefix_len-passed p [] ys all = omega arith
prefix_len-passed p (x ∷ xs) ys all =
    rw (All-head (λ x. p x ≡ true) x xs all)
    (omega (arith, prefix_len-passed p xs ys (All-tail (λ x. p x ≡ true) x xs all)))

-- two tests that agree at each element count the same
pub prefix_len-agree : {A : Type 0} (p q : A → Bool) (xs : List A)
    → All (λ x. p x ≡ q x) xs
    → prefix_len p xs ≡ prefix_len q xs
prefix_len-agree p q [] all = refl
prefix_len-agree p q (x ∷ xs) all =
    rw (All-head (λ x. p x ≡ q x) x xs all, prefix_len-agree p q xs (All-tail (λ x. p x ≡ q x) x xs all)) refl

-- each of so many at the front passes
pub prefix_len-each : {A : Type 0} (p : A → Bool) (xs : List A)
    → All (λ x. p x ≡ true) (take (prefix_len p xs) xs)
prefix_len-each p xs k d within =
    let inside : k < prefix_len p xs = omega (arith, within, length-prefix_len p xs) in
    ap p (get_or-take (prefix_len p xs) xs k d inside) ∙ prefix_len_passes p xs k d inside

-- writes that are each below a limit of their origin end within it
pub past_of-within : (limit : ℕ → ℕ) (writes : List Write)
    → All (λ (write : Write). write.index < limit write.origin) writes
    → (origin : ℕ)
    → past_of writes origin ≤ limit origin
past_of-within limit writes each origin =
    let past = λ (write : Write). write.index + 1 in
    let is_of = λ (write : Write). write.origin == origin in
    let ours = filter is_of writes in
    let below = All-filter is_of (λ (write : Write). write.index < limit write.origin) writes each in
    greatest-is_least (map past ours) (limit origin)
    (All-map (λ n. n ≤ limit origin) past ours
    (λ k d within.
    let of_origin : (get_or ours k d).origin ≡ origin = eqb-true _ _ (filter_passes is_of writes k d within) in
    omega (arith, below k d within, ap limit of_origin)))

-- A part without the entries behind its last take, and one more entry.
module _ (part : List Entry) (entry : Entry) where
  onward : reverse (part ++ entry ∷ []) ≡ entry ∷ reverse part
  onward = reverse-append part (entry ∷ [])

  upto-none : taken_by entry ≡ None
      → upto_last_take (part ++ entry ∷ []) ≡ upto_last_take part
  upto-none none =
      let quiet : is_none (taken_by_act entry.act) ≡ true = ap is_none none in
      let k = prefix_len (λ (entry : Entry). is_none (taken_by_act entry.act)) (reverse part) in
      ap (λ (xs : List Entry). reverse (drop (prefix_len (λ (entry : Entry). is_none (taken_by_act entry.act)) xs) xs)) onward
      ∙ ap (λ (yes : Bool). reverse (drop (cond yes (1 + k) 0) (entry ∷ reverse part))) quiet
      ∙ ap (λ (n : ℕ). reverse (drop n (entry ∷ reverse part))) (one-add k)

  upto-some : (message : Message)
      → taken_by entry ≡ Some message
      → upto_last_take (part ++ entry ∷ []) ≡ part ++ entry ∷ []
  upto-some message some =
      ap (λ (xs : List Entry). reverse (drop (prefix_len (λ (entry : Entry). is_none (taken_by_act entry.act)) xs) xs)) onward
      ∙ (rw some (ap reverse (sym onward)))
      ∙ reverse-reverse (part ++ entry ∷ [])

-- what each replica is known to have is no more than this one has, and each that may lack some is known to have
module _ (setup : Setup) (replica : ℕ) (part : List Entry) (origin : ℕ) where
  known_all-have : known_all setup replica part origin ≤ have replica part origin
  known_all-have = least_of-le (have replica part origin ∷ map (λ peer. known part peer origin) (may_lack setup replica origin)) 0 (omega arith)

  known_all-known : (peer : ℕ)
      → peer < setup.replicas
      → (peer ≡ origin → ⊥)
      → (peer ≡ replica → ⊥)
      → known_all setup replica part origin ≤ known part peer origin
  known_all-known = least_of-may_lack setup replica origin (have replica part origin) (λ peer. known part peer origin)

-- so many of the first committed writes, each below what all are known to have
pub record IsGivenUp (setup : Setup) (replica : ℕ) (part : List Entry) (count : ℕ) : Type 0 where
  pub few : count ≤ length (committed setup replica part)
  pub known : All (λ (write : Write). write.index < known_all setup replica part write.origin) (take count (committed setup replica part))

IsGivenUp-longest : (setup : Setup) (replica : ℕ) (part : List Entry)
    → IsGivenUp setup replica part (longest setup replica part)
IsGivenUp-longest setup replica part =
    let test = λ (write : Write). nat_lt write.index (known_all setup replica part write.origin) in
    let writes = committed setup replica part in
    record {
      few = prefix_len-le-length test writes;
      known =
          All-weaker (λ (write : Write). test write ≡ true) (λ (write : Write). write.index < known_all setup replica part write.origin)
          (λ write passes. ltb-true write.index (known_all setup replica part write.origin) passes)
          (take (prefix_len test writes) writes) (prefix_len-each test writes);
    }

-- One more entry.
module _ (setup : Setup) (replica : ℕ) (part : List Entry) (entry : Entry) (is_part : IsPart setup replica (part ++ entry ∷ [])) where
  abbrev further : List Entry
  further = part ++ entry ∷ []

  pub point-rises : point setup replica part ≤ point setup replica further
  point-rises = parts.point-rises setup replica part entry is_part

  pub committed-kept : committed_to (point setup replica part) (seen setup replica further) ≡ committed setup replica part
  committed-kept = parts.committed-kept setup replica part entry is_part

  -- what is committed goes on
  pub committed-goes_on : IsPrefix (committed setup replica part) (committed setup replica further)
  committed-goes_on =
      let longer = committed_to_prefix_in_order (point setup replica part) (point setup replica further) (flat_map (log_of replica further) (replicas_of setup)) point-rises in
      (longer.0, longer.1 ∙ ap (λ (front : List Write). front ++ longer.0) committed-kept)

  -- what is known of a peer doesn't fall
  known-rises : (peer origin : ℕ) → known part peer origin ≤ known further peer origin
  known-rises peer origin = go (taken_by entry) refl
    where
      go : (taken : Option Message)
          → taken_by entry ≡ taken
          → known part peer origin ≤ known further peer origin
      go None none = le_of_eq (sym (known-push_none part entry peer origin none))
      go (Some message) some = ⊎_elim
          (λ (same : message.from ≡ peer). omega (arith, known-push_from part entry peer origin message some same))
          (λ (other : message.from ≡ peer → ⊥). omega (arith, known-push_other part entry peer origin message some other))
          (cases_eq message.from peer)

  have-rises : (origin : ℕ) → have replica part origin ≤ have replica further origin
  have-rises origin =
      let follows = parts.follows setup replica part entry is_part in
      subst (λ r. have r part origin ≤ have r further origin) follows.0 ((Grows-push setup part entry follows.1).have origin)

  known_all-rises : (origin : ℕ) → known_all setup replica part origin ≤ known_all setup replica further origin
  known_all-rises origin =
      least_of-rises (λ peer. known part peer origin) (λ peer. known further peer origin) (have replica part origin) (have replica further origin) (may_lack setup replica origin)
      (have-rises origin) (λ peer. known-rises peer origin)

  -- what was given up is so further on
  IsGivenUp-push : (count : ℕ)
      → IsGivenUp setup replica part count
      → IsGivenUp setup replica further count
  IsGivenUp-push count given_up =
      let (rest, is) = committed-goes_on in
      record {
        few = le_trans given_up.few (IsPrefix-length (committed setup replica part) (committed setup replica further) committed-goes_on);
        known =
            subst (All (λ (write : Write). write.index < known_all setup replica further write.origin))
            (sym (ap (take count) is ∙ take-append-le count (committed setup replica part) rest given_up.few))
            (All-weaker (λ (write : Write). write.index < known_all setup replica part write.origin) (λ (write : Write). write.index < known_all setup replica further write.origin)
            (λ write below. lt_of_lt_of_le below (known_all-rises write.origin)) (take count (committed setup replica part)) given_up.known);
      }

  pub dropped-same : taken_by entry ≡ None
      → dropped setup replica further ≡ dropped setup replica part
  dropped-same none = ap (longest setup replica) (upto-none part entry none)

  dropped-longest : (message : Message)
      → taken_by entry ≡ Some message
      → dropped setup replica further ≡ longest setup replica further
  dropped-longest message some = ap (longest setup replica) (upto-some part entry message some)

  IsGivenUp-further : IsGivenUp setup replica part (dropped setup replica part)
      → IsGivenUp setup replica further (dropped setup replica further)
  IsGivenUp-further given_up = go (taken_by entry) refl
    where
      go : (taken : Option Message)
          → taken_by entry ≡ taken
          → IsGivenUp setup replica further (dropped setup replica further)
      go None none = subst (IsGivenUp setup replica further) (sym (dropped-same none)) (IsGivenUp-push (dropped setup replica part) given_up)
      go (Some message) some = subst (IsGivenUp setup replica further) (sym (dropped-longest message some)) (IsGivenUp-longest setup replica further)

-- What is given up after a part that can be.
pub IsGivenUp-dropped : (setup : Setup) (replica : ℕ) (part : List Entry)
    → IsPart setup replica part
    → IsGivenUp setup replica part (dropped setup replica part)
IsGivenUp-dropped setup replica part = from_right (λ part. IsPart setup replica part → IsGivenUp setup replica part (dropped setup replica part))
    (λ is. IsGivenUp-longest setup replica [])
    (λ before entry earlier is.
    IsGivenUp-further setup replica before entry is
    (earlier (EachAfter-prefix (MayFollow setup replica) before (before ++ entry ∷ []) (IsPrefix-append before (entry ∷ [])) is)))
    part

module _ (setup : Setup) (replica : ℕ) (part : List Entry) (is_part : IsPart setup replica part) where
  abbrev given_up : IsGivenUp setup replica part (dropped setup replica part)
  given_up = IsGivenUp-dropped setup replica part is_part

  pub dropped-few : dropped setup replica part ≤ length (committed setup replica part)
  dropped-few = given_up.few

  dropped_of-known_all : (origin : ℕ) → dropped_of setup replica part origin ≤ known_all setup replica part origin
  dropped_of-known_all =
      past_of-within (known_all setup replica part) (take (dropped setup replica part) (committed setup replica part)) given_up.known

  pub dropped_of-have : (origin : ℕ)
      → origin < setup.replicas
      → dropped_of setup replica part origin ≤ have replica part origin
  dropped_of-have origin within = le_trans (dropped_of-known_all origin) (known_all-have setup replica part origin)

  pub dropped_of-known : (peer origin : ℕ)
      → peer < setup.replicas
      → origin < setup.replicas
      → (peer ≡ origin → ⊥)
      → (peer ≡ replica → ⊥)
      → dropped_of setup replica part origin ≤ known part peer origin
  dropped_of-known peer origin peer_in origin_in apart other =
      le_trans (dropped_of-known_all origin) (known_all-known setup replica part origin peer peer_in apart other)

-- With a message taken, so many more are given up: of what is committed then and was not given up, those at the front
-- that all are known to have.
pub dropped-taken : (setup : Setup) (replica : ℕ) (part : List Entry) (entry : Entry) (is_part : IsPart setup replica (part ++ entry ∷ [])) (message : Message)
    → taken_by entry ≡ Some message
    → dropped setup replica (part ++ entry ∷ [])
    ≡ dropped setup replica part + prefix_len (λ write. nat_lt write.index (known_all setup replica (part ++ entry ∷ []) write.origin))
    (drop (dropped setup replica part) (committed setup replica (part ++ entry ∷ [])))
dropped-taken setup replica part entry is_part message some =
    let further = part ++ entry ∷ [] in
    let test = λ (write : Write). nat_lt write.index (known_all setup replica further write.origin) in
    let count = dropped setup replica part in
    let writes = committed setup replica further in
    let earlier = EachAfter-prefix (MayFollow setup replica) part further (IsPrefix-append part (entry ∷ [])) is_part in
    let still = IsGivenUp-push setup replica part entry is_part count (IsGivenUp-dropped setup replica part earlier) in
    let passed : All (λ (write : Write). test write ≡ true) (take count writes) =
    All-weaker (λ (write : Write). write.index < known_all setup replica further write.origin) (λ (write : Write). test write ≡ true)
    (λ write below. lt-ltb write.index (known_all setup replica further write.origin) below) (take count writes) still.known in
    dropped-longest setup replica part entry is_part message some
    ∙ ap (prefix_len test) (sym (take-append-drop count writes))
    ∙ prefix_len-passed test (take count writes) (drop count writes) passed
    ∙ ap (λ n. n + prefix_len test (drop count writes)) (length-take-le count writes still.few)
