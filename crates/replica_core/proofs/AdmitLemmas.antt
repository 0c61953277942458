-- A write that goes to the end of its origin's log goes to its place among all writes in order.
use Rattle.std.proofs.Common.{◌≡◌, ℕ, zero, suc, ◌+◌, ◌*◌, ◌<◌, ◌≤◌, List, [], ◌∷◌, ◌++◌, length, get_or, set, flat_map}
use Rattle.std.proofs.Common.{All, inl, inr, ◌⊎◌, refl, sym, ap, ap₂, ◌∙◌, subst, ⊎_elim, arith, get_or-set_same}
use Rattle.std.proofs.Common.{get_or-set_other}
use Rattle.std.specs.List.{range_with_len}
use Rattle.std.proofs.lemmas.Bool.{cases_eq}
use Rattle.std.proofs.lemmas.List.{append_assoc, append-nil, length-append, length_push, length-set, set-set, set-get_or}
use Rattle.std.proofs.lemmas.List.Concat.{length-flat_map}
use Rattle.std.proofs.lemmas.List.FromFn.{length-range_with_len}
use Rattle.std.proofs.lemmas.List.Sums.{sum_by-le}
use Rattle.std.proofs.lemmas.List.Elements.{All-cons, All-head, All-tail, All-weaker}
use Rattle.std.proofs.lemmas.List.Sorted.{All-permutation, IsPermutation-sym}
use Rattle.tact_base.proofs.CompareLemmas.{AreApart}
use Rattle.tact_base.proofs.ListLemmas.{All-range, All-one, All-append_left, flat_map_agree}
use Rattle.tact_base.proofs.OrderLemmas.{IsPermutation-with_write, IsPermutation-in_order, in_order_middle, length-in_order}
use Rattle.tact_base.specs.WriteOrder.{with_write, in_order}
use Rattle.tact_base.specs.declared.conit_list.Weight.{Weight}
use Rattle.tact_base.specs.declared.limits.TheConstants.{HISTORY_MAX}
use Rattle.tact_base.specs.declared.write.Write.{Write}
use Rattle.commit_order.specs.Batches.{with_writes}
use Rattle.replica_core.specs.States.{joined, AreFew, AreNext}

-- of joined lists, of which one gets one more element
pub record GetsOne (before after : List Write) (write : Write) : Type 0 where
  pub front : List Write
  pub rest : List Write
  pub was : before ≡ front ++ rest
  pub is : after ≡ front ++ write ∷ rest

one_more_joined : (f g : ℕ → List Write) (at : ℕ) (write : Write)
    → g at ≡ f at ++ write ∷ []
    → ((i : ℕ) → (i ≡ at → ⊥) → g i ≡ f i)
    → (start len : ℕ)
    → start ≤ at
    → at < start + len
    → GetsOne (flat_map f (range_with_len start len)) (flat_map g (range_with_len start len)) write
one_more_joined f g at write here others start zero low high = absurd (omega arith)
one_more_joined f g at write here others start (suc len) low high =
    go (cases_eq start at) (λ other. one_more_joined f g at write here others (start + 1) len (omega (arith, other)) (omega arith))
  where
    go : (start ≡ at) ⊎ (start ≡ at → ⊥)
        → ((start ≡ at → ⊥) → GetsOne (flat_map f (range_with_len (start + 1) len)) (flat_map g (range_with_len (start + 1) len)) write)
        → GetsOne (f start ++ flat_map f (range_with_len (start + 1) len)) (g start ++ flat_map g (range_with_len (start + 1) len)) write
    go (inl same) later =
        let rest : flat_map g (range_with_len (start + 1) len) ≡ flat_map f (range_with_len (start + 1) len) =
        flat_map_agree g f (range_with_len (start + 1) len) (All-range (λ i. g i ≡ f i) (start + 1) len (λ i above below. others i (λ is. absurd (omega (arith, is, same, above))))) in
        let first : g start ≡ f start ++ write ∷ [] = subst (λ i. g i ≡ f i ++ write ∷ []) (sym same) here in
        record {
          front = f start;
          rest = flat_map f (range_with_len (start + 1) len);
          was = refl;
          is = ap₂ (λ (xs ys : List Write). xs ++ ys) first rest ∙ append_assoc (f start) (write ∷ []) (flat_map f (range_with_len (start + 1) len));
        }
    go (inr other) later =
        let gets = later other in
        record {
          front = f start ++ gets.front;
          rest = gets.rest;
          was = ap (λ xs. f start ++ xs) gets.was ∙ sym (append_assoc (f start) gets.front gets.rest);
          is = ap₂ (λ (xs ys : List Write). xs ++ ys) (others start other) gets.is ∙ sym (append_assoc (f start) gets.front (write ∷ gets.rest));
        }

-- in order, it is put into its place
pub in_order-one_more : (f g : ℕ → List Write) (at : ℕ) (write : Write) (len : ℕ)
    → at < len
    → g at ≡ f at ++ write ∷ []
    → ((i : ℕ) → (i ≡ at → ⊥) → g i ≡ f i)
    → All (λ (held : Write). AreApart held write) (flat_map f (range_with_len 0 len))
    → in_order (flat_map g (range_with_len 0 len)) ≡ with_write write (in_order (flat_map f (range_with_len 0 len)))
in_order-one_more f g at write len within here others apart =
    let gets = one_more_joined f g at write here others 0 len (omega arith) (omega (arith, within)) in
    let before : All (λ (held : Write). AreApart held write) gets.front =
    All-append_left (λ (held : Write). AreApart held write) gets.front gets.rest (subst (All (λ (held : Write). AreApart held write)) gets.was apart) in
    ap in_order gets.is ∙ in_order_middle gets.front write gets.rest before ∙ ap (λ ws. with_write write (in_order ws)) (sym gets.was)

-- writes that stand within the logs of their origins
abbrev pub ArePlaced : ℕ → List (List Write) → List Write → Type 0
ArePlaced replicas logs seen = All (λ (write : Write). (write.origin < replicas) × (write.index < length (get_or logs write.origin []))) seen

-- The next write of its origin.
module _ (replicas : ℕ) (logs : List (List Write)) (seen : List Write) (write : Write) (sized : length logs ≡ replicas) (among : write.origin < replicas)
    (next : write.index ≡ length (get_or logs write.origin []))
    (ordered : seen ≡ in_order (joined replicas logs)) (placed : ArePlaced replicas logs seen) where
  abbrev more : List (List Write)
  more = set logs write.origin (get_or logs write.origin [] ++ write ∷ [])

  log_here : get_or more write.origin [] ≡ get_or logs write.origin [] ++ write ∷ []
  log_here = get_or-set_same logs write.origin (get_or logs write.origin [] ++ write ∷ []) [] (omega (arith, among, sized))

  log_elsewhere : (origin : ℕ)
      → (origin ≡ write.origin → ⊥)
      → get_or more origin [] ≡ get_or logs origin []
  log_elsewhere origin other = get_or-set_other logs write.origin origin (get_or logs write.origin [] ++ write ∷ []) [] other

  -- no write that it has is this one
  apart : All (λ (held : Write). AreApart held write) (joined replicas logs)
  apart =
      let held : All (λ (held : Write). AreApart held write) seen =
      All-weaker (λ (held : Write). (held.origin < replicas) × (held.index < length (get_or logs held.origin []))) (λ (held : Write). AreApart held write)
      (λ held stands origin index. absurd (omega (arith, stands.1, index, next, ap (λ o. length (get_or logs o [])) origin))) seen placed in
      All-permutation (λ (held : Write). AreApart held write) (in_order (joined replicas logs)) (joined replicas logs)
      (IsPermutation-sym (joined replicas logs) (in_order (joined replicas logs)) (IsPermutation-in_order (joined replicas logs)))
      (subst (All (λ (held : Write). AreApart held write)) ordered held)

  pub admitted_ordered : with_write write seen ≡ in_order (joined replicas more)
  admitted_ordered =
      sym (in_order-one_more (λ origin. get_or logs origin []) (λ origin. get_or more origin []) write.origin write replicas among log_here log_elsewhere apart
      ∙ ap (with_write write) (sym ordered))

  longer : (origin : ℕ) → length (get_or logs origin []) ≤ length (get_or more origin [])
  longer origin = ⊎_elim
      (λ (same : origin ≡ write.origin). omega (
        arith,
        ap (λ o. length (get_or logs o [])) same,
        ap (λ o. length (get_or more o [])) same,
        ap length log_here,
        length_push (get_or logs write.origin []) write,
      ))
      (λ (other : origin ≡ write.origin → ⊥). omega (arith, ap length (log_elsewhere origin other)))
      (cases_eq origin write.origin)

  pub admitted_placed : ArePlaced replicas more (with_write write seen)
  admitted_placed =
      let P = λ (held : Write). (held.origin < replicas) × (held.index < length (get_or more held.origin [])) in
      let others : All P seen =
      All-weaker (λ (held : Write). (held.origin < replicas) × (held.index < length (get_or logs held.origin []))) P
      (λ held stands. (stands.0, omega (arith, stands.1, longer held.origin))) seen placed in
      All-permutation P (write ∷ seen) (with_write write seen) (IsPermutation-with_write write seen)
      (All-cons P write seen (among, omega (arith, next, ap length log_here, length_push (get_or logs write.origin []) write)) others)

-- The next writes of an origin, one after another.
pub record AreAdmitted (replicas : ℕ) (logs : List (List Write)) (seen : List Write) : Type 0 where
  pub sized : length logs ≡ replicas
  pub ordered : seen ≡ in_order (joined replicas logs)
  pub placed : ArePlaced replicas logs seen

admitted_one : (replicas : ℕ) (logs : List (List Write)) (seen : List Write) (origin : ℕ) (write : Write)
    → AreAdmitted replicas logs seen
    → origin < replicas
    → write.origin ≡ origin
    → write.index ≡ length (get_or logs origin [])
    → AreAdmitted replicas (set logs origin (get_or logs origin [] ++ write ∷ [])) (with_write write seen)
admitted_one replicas logs seen origin write before among is next =
    subst (λ (o : ℕ). AreAdmitted replicas (set logs o (get_or logs o [] ++ write ∷ [])) (with_write write seen)) is
    (let among' : write.origin < replicas = subst (λ (o : ℕ). o < replicas) (sym is) among in
    let next' : write.index ≡ length (get_or logs write.origin []) = next ∙ ap (λ (o : ℕ). length (get_or logs o [])) (sym is) in
    record {
      sized = length-set logs write.origin (get_or logs write.origin [] ++ write ∷ []) ∙ before.sized;
      ordered = admitted_ordered replicas logs seen write before.sized among' next' before.ordered before.placed;
      placed = admitted_placed replicas logs seen write before.sized among' next' before.ordered before.placed;
    })

pub admitted_all : (writes : List Write) (conits replicas : ℕ) (logs : List (List Write)) (seen : List Write) (origin : ℕ)
    → AreAdmitted replicas logs seen
    → origin < replicas
    → AreNext conits origin (length (get_or logs origin [])) writes
    → AreAdmitted replicas (set logs origin (get_or logs origin [] ++ writes)) (with_writes writes seen)
admitted_all [] conits replicas logs seen origin before among next =
    subst (λ (after : List (List Write)). AreAdmitted replicas after seen) (sym (ap (set logs origin) (append-nil (get_or logs origin [])) ∙ set-get_or logs origin [])) before
admitted_all (write ∷ writes) conits replicas logs seen origin before among next =
    let log = get_or logs origin [] in
    let here : write.index ≡ length log = ap (λ (ns : List ℕ). get_or ns 0 0) next.indices in
    let one = admitted_one replicas logs seen origin write before among (All-head (λ (w : Write). w.origin ≡ origin) write writes next.origins) here in
    let more = set logs origin (log ++ write ∷ []) in
    let grown : get_or more origin [] ≡ log ++ write ∷ [] = get_or-set_same logs origin (log ++ write ∷ []) [] (omega (arith, among, before.sized)) in
    let count : length (get_or more origin []) ≡ length log + 1 = ap length grown ∙ length_push log write in
    let later : AreNext conits origin (length (get_or more origin [])) writes = record {
      origins = All-tail (λ (w : Write). w.origin ≡ origin) write writes next.origins;
      indices = ap tail_of next.indices ∙ ap (λ (n : ℕ). range_with_len n (length writes)) (sym count);
      on_conits = All-tail (λ (w : Write). All (λ (weight : Weight). weight.conit < conits) w.weights) write writes next.on_conits;
      few = omega (arith, next.few, count);
    } in
    let all = admitted_all writes conits replicas more (with_write write seen) origin one among later in
    subst (λ (after : List (List Write)). AreAdmitted replicas after (with_writes writes (with_write write seen)))
    (ap (λ (front : List Write). set more origin (front ++ writes)) grown ∙ set-set logs origin (log ++ write ∷ []) _ ∙ ap (set logs origin) (append_assoc log (write ∷ []) writes)) all
  where
    tail_of : List ℕ → List ℕ
    tail_of [] = []
    tail_of (n ∷ ns) = ns

-- No log is longer than a history, so all that is seen is not too much to be summed.
pub seen-few : (replicas : ℕ) (logs : List (List Write)) (seen : List Write)
    → seen ≡ in_order (joined replicas logs)
    → ((origin : ℕ) → length (get_or logs origin []) ≤ HISTORY_MAX)
    → length seen ≤ replicas * HISTORY_MAX
seen-few replicas logs seen ordered short =
    let log = λ (origin : ℕ). get_or logs origin [] in
    omega (
      arith,
      ap length ordered,
      length-in_order (joined replicas logs),
      length-flat_map log (range_with_len 0 replicas),
      sum_by-le (λ origin. length (log origin)) HISTORY_MAX (range_with_len 0 replicas) (λ k d within. short _),
      length-range_with_len 0 replicas,
    )

-- one own write is the next, where an entry may follow
pub AreNext-own : (conits replica count : ℕ) (logs : List (List Write)) (write : Write)
    → write.origin ≡ replica
    → write.index ≡ length (get_or logs replica [])
    → All (λ (weight : Weight). weight.conit < conits) write.weights
    → AreFew replica count logs
    → count < HISTORY_MAX
    → AreNext conits replica (length (get_or logs replica [])) (write ∷ [])
AreNext-own conits replica count logs write is next on_conits few room = record {
  origins = All-one (λ (w : Write). w.origin ≡ replica) write is;
  indices = ap (λ (n : ℕ). n ∷ []) next;
  on_conits = All-one (λ (w : Write). All (λ (weight : Weight). weight.conit < conits) w.weights) write on_conits;
  few = omega (arith, few.own, room);
}

-- as an own write is counted with its entry, and as another origin's log grows
module _ (replica count : ℕ) (logs : List (List Write)) where
  pub AreFew-own : (writes : List Write)
      → replica < length logs
      → length writes ≡ 1
      → count < HISTORY_MAX
      → AreFew replica count logs
      → AreFew replica (count + 1) (set logs replica (get_or logs replica [] ++ writes))
  AreFew-own writes within one room few =
      let log = get_or logs replica [] in
      let grown : length (get_or (set logs replica (log ++ writes)) replica []) ≡ length log + 1 =
      omega (arith, ap length (get_or-set_same logs replica (log ++ writes) [] within), length-append log writes, one) in
      record {
        entries = omega (arith, room);
        own = omega (arith, grown, few.own);
        each = λ origin. ⊎_elim
            (λ (same : origin ≡ replica). omega (arith, ap (λ o. length (get_or (set logs replica (log ++ writes)) o [])) same, grown, few.own, room))
            (λ (other : origin ≡ replica → ⊥). omega (arith, ap length (get_or-set_other logs replica origin (log ++ writes) [] other), few.each origin))
            (cases_eq origin replica);
      }

  pub AreFew-other : (origin : ℕ) (writes : List Write)
      → origin < length logs
      → (origin ≡ replica → ⊥)
      → length (get_or logs origin []) + length writes ≤ HISTORY_MAX
      → AreFew replica count logs
      → AreFew replica count (set logs origin (get_or logs origin [] ++ writes))
  AreFew-other origin writes within other short few =
      let log = get_or logs origin [] in
      let grown : length (get_or (set logs origin (log ++ writes)) origin []) ≡ length log + length writes =
      omega (arith, ap length (get_or-set_same logs origin (log ++ writes) [] within), length-append log writes) in
      record {
        entries = few.entries;
        own = omega (arith, ap length (get_or-set_other logs origin replica (log ++ writes) [] (λ same. other (sym same))), few.own);
        each = λ one. ⊎_elim
            (λ (same : one ≡ origin). omega (arith, ap (λ o. length (get_or (set logs origin (log ++ writes)) o [])) same, grown, short))
            (λ (differ : one ≡ origin → ⊥). omega (arith, ap length (get_or-set_other logs origin one (log ++ writes) [] differ), few.each one))
            (cases_eq one origin);
      }

-- what is given up of an origin is in its log also as that grows
pub bases-grown : (replicas : ℕ) (bases : List ℕ) (logs : List (List Write)) (at : ℕ) (writes : List Write)
    → at < length logs
    → ((origin : ℕ) → origin < replicas → get_or bases origin 0 ≤ length (get_or logs origin []))
    → (origin : ℕ)
    → origin < replicas
    → get_or bases origin 0 ≤ length (get_or (set logs at (get_or logs at [] ++ writes)) origin [])
bases-grown replicas bases logs at writes inside held origin within =
    let log = get_or logs at [] in
    let grown = set logs at (log ++ writes) in
    ⊎_elim
    (λ (same : origin ≡ at).
    omega (
      arith,
      held origin within,
      ap (λ o. length (get_or logs o [])) same,
      ap (λ o. length (get_or grown o [])) same,
      ap length
          (get_or-set_same logs at (log ++ writes) [] inside),
      length-append log writes,
    ))
    (λ (other : origin ≡ at → ⊥). omega (arith, held origin within, ap length (get_or-set_other logs at origin (log ++ writes) [] other)))
    (cases_eq origin at)
