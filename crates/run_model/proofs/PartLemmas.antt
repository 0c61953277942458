-- What one more entry does to a history and to a part: to the entries of a replica, to its own writes, to the messages
-- that it sent and took, and to what it keeps.
use Rattle.std.proofs.Common.{◌≡◌, ℕ, ◌+◌, ◌≤◌, ◌==◌, max, Bool, true, false, cond, List, [], ◌∷◌, ◌++◌, length, map, fold, filter, All, Option, None, Some, refl, sym, ap, ◌∙◌, subst, ⊎_elim, arith}
use Rattle.std.specs.List.{cons_option}
use Rattle.std.proofs.lemmas.Bool.{cases_eq, eq-eqb, ne_eqb}
use Rattle.std.proofs.lemmas.List.{append-nil, length-append, map_push}
use Rattle.std.proofs.lemmas.List.Elements.{filter-append, filter_map-append, All-nil, All-cons, All-head, All-tail, All-weaker}
use Rattle.std.proofs.lemmas.List.Sums.{length-filter, count_by-le-length}
use Rattle.tact_base.proofs.ListLemmas.{fold-push}
use Rattle.tact_base.specs.declared.write.Write.{Write}
use Rattle.run_model.specs.Histories.{part_of, last_moment, sent_in, taken_in, taken_from, sent_by_act, taken_by_act, is_call_of, calls_in, greatest}
use Rattle.run_model.specs.OwnWrites.{own, accepted_by}
use Rattle.tact_base.specs.Covers.{no_cover}
use Rattle.run_model.specs.Taking.{origin_state, after_taking, known, told_have}
use Rattle.run_model.specs.declared.entry.Entry.{Entry}
use Rattle.run_model.specs.declared.entry.Message.{Message}

-- the write that an entry accepts, and the messages that it sends and takes, if it does
abbrev pub accepted_in : Entry → Option Write
accepted_in entry = accepted_by entry.replica entry.moment entry.act

abbrev pub sent_by : Entry → Option Message
sent_by entry = sent_by_act entry.act

abbrev pub taken_by : Entry → Option Message
taken_by entry = taken_by_act entry.act

-- the greatest of numbers
greatest_from : (n : ℕ) (numbers : List ℕ) → fold max n numbers ≡ max n (greatest numbers)
greatest_from n [] = omega arith
greatest_from n (x ∷ numbers) = omega (arith, greatest_from (max n x) numbers, greatest_from (max 0 x) numbers)

pub greatest-append : (xs ys : List ℕ) → greatest (xs ++ ys) ≡ max (greatest xs) (greatest ys)
greatest-append [] ys = omega (arith, greatest_from 0 ys)
greatest-append (x ∷ xs) ys =
    omega (arith, greatest_from (max 0 x) (xs ++ ys), greatest_from (max 0 x) xs, greatest-append xs ys)

pub greatest-is_most : (numbers : List ℕ) → All (λ n. n ≤ greatest numbers) numbers
greatest-is_most [] = All-nil (λ n. n ≤ 0)
greatest-is_most (x ∷ numbers) =
    let from = greatest_from (max 0 x) numbers in
    All-cons (λ n. n ≤ greatest (x ∷ numbers)) x numbers (omega (arith, from))
    (All-weaker (λ n. n ≤ greatest numbers) (λ n. n ≤ greatest (x ∷ numbers)) (λ n below. omega (arith, from, below)) numbers (greatest-is_most numbers))

pub greatest-is_least : (numbers : List ℕ) (most : ℕ)
    → All (λ n. n ≤ most) numbers
    → greatest numbers ≤ most
greatest-is_least [] most all = omega arith
greatest-is_least (x ∷ numbers) most all =
    omega (arith, greatest_from (max 0 x) numbers, All-head (λ n. n ≤ most) x numbers all, greatest-is_least numbers most (All-tail (λ n. n ≤ most) x numbers all))

-- One more entry of a history.
module _ (history : List Entry) (entry : Entry) (replica : ℕ) where
  pub part_of-push_same : entry.replica ≡ replica
      → part_of (history ++ entry ∷ []) replica ≡ part_of history replica ++ entry ∷ []
  part_of-push_same same =
      let test : (entry.replica == replica) ≡ true = eq-eqb entry.replica replica same in
      filter-append (λ (e : Entry). e.replica == replica) history (entry ∷ [])
      ∙ ap (λ yes. part_of history replica ++ cond yes (entry ∷ []) []) test

  pub part_of-push_other : (entry.replica ≡ replica → ⊥)
      → part_of (history ++ entry ∷ []) replica ≡ part_of history replica
  part_of-push_other other =
      let test : (entry.replica == replica) ≡ false = ne_eqb entry.replica replica other in
      filter-append (λ (e : Entry). e.replica == replica) history (entry ∷ [])
      ∙ ap (λ yes. part_of history replica ++ cond yes (entry ∷ []) []) test ∙ append-nil (part_of history replica)

-- what holds of the part that has the entry, and of those that don't, holds of each
pub part_of-push_cases : (history : List Entry) (entry : Entry) (Q : ℕ → List Entry → Type 0)
    → Q entry.replica (part_of history entry.replica ++ entry ∷ [])
    → ((replica : ℕ) → Q replica (part_of history replica))
    → (replica : ℕ)
    → Q replica (part_of (history ++ entry ∷ []) replica)
part_of-push_cases history entry Q here elsewhere replica = ⊎_elim
    (λ (same : entry.replica ≡ replica).
    subst (Q replica) (sym (part_of-push_same history entry replica same)) (subst (λ r. Q r (part_of history r ++ entry ∷ [])) same here))
    (λ (other : entry.replica ≡ replica → ⊥).
    subst (Q replica) (sym (part_of-push_other history entry replica other)) (elsewhere replica))
    (cases_eq entry.replica replica)

-- the length of a list that has an element or none
length-cond : {A : Type 0} (yes : Bool) (x : A) → length (cond yes (x ∷ []) []) ≡ cond yes 1 0
length-cond true x = refl
length-cond false x = refl

-- One more entry of a part.
module _ (part : List Entry) (entry : Entry) where
  pub own-push : own (part ++ entry ∷ []) ≡ own part ++ cons_option (accepted_in entry) []
  own-push = filter_map-append accepted_in part (entry ∷ [])

  pub sent_in-push : sent_in (part ++ entry ∷ []) ≡ sent_in part ++ cons_option (sent_by entry) []
  sent_in-push = filter_map-append sent_by part (entry ∷ [])

  pub taken_in-push : taken_in (part ++ entry ∷ []) ≡ taken_in part ++ cons_option (taken_by entry) []
  taken_in-push = filter_map-append taken_by part (entry ∷ [])

  pub last_moment-push : last_moment (part ++ entry ∷ []) ≡ entry.moment
  last_moment-push = fold-push (λ (before : ℕ) (e : Entry). e.moment) 0 part entry

  pub calls_in-push : (client : ℕ)
      → calls_in (part ++ entry ∷ []) client ≡ calls_in part client + cond (is_call_of client entry.act) 1 0
  calls_in-push client =
      ap length (filter-append (λ (e : Entry). is_call_of client e.act) part (entry ∷ []))
      ∙ length-append (filter (λ (e : Entry). is_call_of client e.act) part) (cond (is_call_of client entry.act) (entry ∷ []) [])
      ∙ ap (λ n. calls_in part client + n) (length-cond (is_call_of client entry.act) entry)

  -- where it accepts nothing, and where it accepts a write; the same of the messages
  pub own-push_none : accepted_in entry ≡ None → own (part ++ entry ∷ []) ≡ own part
  own-push_none none = own-push ∙ ap (λ o. own part ++ cons_option o []) none ∙ append-nil (own part)

  pub own-push_some : (write : Write)
      → accepted_in entry ≡ Some write
      → own (part ++ entry ∷ []) ≡ own part ++ write ∷ []
  own-push_some write some = own-push ∙ ap (λ o. own part ++ cons_option o []) some

  pub sent_in-push_none : sent_by entry ≡ None → sent_in (part ++ entry ∷ []) ≡ sent_in part
  sent_in-push_none none = sent_in-push ∙ ap (λ o. sent_in part ++ cons_option o []) none ∙ append-nil (sent_in part)

  pub sent_in-push_some : (message : Message)
      → sent_by entry ≡ Some message
      → sent_in (part ++ entry ∷ []) ≡ sent_in part ++ message ∷ []
  sent_in-push_some message some = sent_in-push ∙ ap (λ o. sent_in part ++ cons_option o []) some

  pub taken_in-push_none : taken_by entry ≡ None → taken_in (part ++ entry ∷ []) ≡ taken_in part
  taken_in-push_none none = taken_in-push ∙ ap (λ o. taken_in part ++ cons_option o []) none ∙ append-nil (taken_in part)

  pub taken_in-push_some : (message : Message)
      → taken_by entry ≡ Some message
      → taken_in (part ++ entry ∷ []) ≡ taken_in part ++ message ∷ []
  taken_in-push_some message some = taken_in-push ∙ ap (λ o. taken_in part ++ cons_option o []) some

  -- what is kept of an origin
  pub origin_state-push_none : (origin : ℕ)
      → taken_by entry ≡ None
      → origin_state (part ++ entry ∷ []) origin ≡ origin_state part origin
  origin_state-push_none origin none = ap (fold (after_taking origin) (record { log = []; cover = no_cover })) (taken_in-push_none none)

  pub origin_state-push_some : (origin : ℕ) (message : Message)
      → taken_by entry ≡ Some message
      → origin_state (part ++ entry ∷ []) origin ≡ after_taking origin (origin_state part origin) message
  origin_state-push_some origin message some =
      ap (fold (after_taking origin) (record { log = []; cover = no_cover })) (taken_in-push_some message some)
      ∙ fold-push (after_taking origin) (record { log = []; cover = no_cover }) (taken_in part) message

  -- what a peer is known to have
  pub known-push_none : (peer origin : ℕ)
      → taken_by entry ≡ None
      → known (part ++ entry ∷ []) peer origin ≡ known part peer origin
  known-push_none peer origin none =
      ap (λ messages. greatest (map (λ (m : Message). told_have m origin) (filter (λ (m : Message). m.from == peer) messages))) (taken_in-push_none none)

  taken_from-push : (peer : ℕ) (message : Message)
      → taken_by entry ≡ Some message
      → taken_from (part ++ entry ∷ []) peer ≡ taken_from part peer ++ cond (message.from == peer) (message ∷ []) []
  taken_from-push peer message some =
      ap (filter (λ (m : Message). m.from == peer)) (taken_in-push_some message some)
      ∙ filter-append (λ (m : Message). m.from == peer) (taken_in part) (message ∷ [])

  pub known-push_from : (peer origin : ℕ) (message : Message)
      → taken_by entry ≡ Some message
      → message.from ≡ peer
      → known (part ++ entry ∷ []) peer origin ≡ max (known part peer origin) (told_have message origin)
  known-push_from peer origin message some from =
      let test : (message.from == peer) ≡ true = eq-eqb message.from peer from in
      let list : taken_from (part ++ entry ∷ []) peer ≡ taken_from part peer ++ message ∷ [] =
      taken_from-push peer message some ∙ ap (λ yes. taken_from part peer ++ cond yes (message ∷ []) []) test in
      let tells = λ (m : Message). told_have m origin in
      let step : known (part ++ entry ∷ []) peer origin ≡ max (known part peer origin) (max 0 (told_have message origin)) =
      ap (λ messages. greatest (map tells messages)) list
      ∙ ap greatest (map_push tells (taken_from part peer) message)
      ∙ greatest-append (map tells (taken_from part peer)) (told_have message origin ∷ []) in
      omega (arith, step)

  pub known-push_other : (peer origin : ℕ) (message : Message)
      → taken_by entry ≡ Some message
      → (message.from ≡ peer → ⊥)
      → known (part ++ entry ∷ []) peer origin ≡ known part peer origin
  known-push_other peer origin message some other =
      let test : (message.from == peer) ≡ false = ne_eqb message.from peer other in
      let list : taken_from (part ++ entry ∷ []) peer ≡ taken_from part peer =
      taken_from-push peer message some ∙ ap (λ yes. taken_from part peer ++ cond yes (message ∷ []) []) test ∙ append-nil (taken_from part peer) in
      ap (λ messages. greatest (map (λ (m : Message). told_have m origin) messages)) list

-- a part is no longer than the history
pub length-mine : (history : List Entry) (replica : ℕ)
    → length (part_of history replica) ≤ length history
length-mine history replica =
    let test = λ (entry : Entry). entry.replica == replica in
    omega (arith, length-filter test history, count_by-le-length test history)
