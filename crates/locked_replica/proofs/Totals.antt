-- Totals by place, where one of them rises.
use Rattle.std.proofs.Common.{◌≡◌, ◌≢◌, ℕ, ◌+◌, ◌-◌, ◌*◌, ◌<◌, ◌≤◌, List, drop, length, get_or, set, sum, ap, ◌∙◌, arith, get_or-set_same, get_or-set_other}
use Rattle.std.proofs.lemmas.List.{length-set, length-drop, get_or-drop, drop-set-add, drop-set-lt}
use Rattle.std.proofs.lemmas.List.Sums.{sum_by-set, get_or-le-sum_by}
use Rattle.tact_base.specs.declared.limits.TheConstants.{CLIENTS}
use Rattle.locked_replica.specs.Locks.{turns_place, made_place, one_more_at}

-- the sum from a place on, and no number of these is above it
pub sum_from-more : (from i : ℕ) (totals : List ℕ)
    → from + i < length totals
    → sum (drop from (one_more_at (from + i) totals)) ≡ sum (drop from totals) + 1
sum_from-more from i totals within =
    let there = get_or totals (from + i) 0 in
    let rest = drop from totals in
    let moved : drop from (one_more_at (from + i) totals) ≡ set rest i (there + 1) = drop-set-add from totals i (there + 1) in
    let size : length rest ≡ length totals - from = length-drop from totals in
    let sums = sum_by-set (λ (n : ℕ). n) rest i (there + 1) 0 (omega (arith, size, within)) in
    let same : get_or rest i 0 ≡ there = get_or-drop from totals i 0 in
    omega (arith, ap sum moved, sums, same)

pub sum_from-le : (from i : ℕ) (totals : List ℕ)
    → from + i < length totals
    → get_or totals (from + i) 0 ≤ sum (drop from totals)
sum_from-le from i totals within =
    let size : length (drop from totals) ≡ length totals - from = length-drop from totals in
    omega (arith, get_or-le-sum_by (λ (n : ℕ). n) (drop from totals) i 0 (omega (arith, size, within)), get_or-drop from totals i 0)

-- One more turn of a client, and one more entry made for it.
module _ (conits client : ℕ) (totals : List ℕ) (places : length totals ≡ conits + 2 * CLIENTS) (among : client < CLIENTS) where
  abbrev pub counted : List ℕ
  counted = one_more_at (made_place conits client) (one_more_at (turns_place conits client) totals)

  abbrev turned : List ℕ
  turned = one_more_at (turns_place conits client) totals

  pub counted-places : length counted ≡ conits + 2 * CLIENTS
  counted-places =
      length-set turned (made_place conits client) _ ∙ length-set totals (turns_place conits client) _ ∙ places

  -- elsewhere they are what they were
  pub counted-else : (place : ℕ)
      → place ≢ turns_place conits client
      → place ≢ made_place conits client
      → get_or counted place 0 ≡ get_or totals place 0
  counted-else place not_turns not_made =
      get_or-set_other turned (made_place conits client) place _ 0 not_made
      ∙ get_or-set_other totals (turns_place conits client) place _ 0 not_turns

  pub counted-turns : get_or counted (turns_place conits client) 0 ≡ get_or totals (turns_place conits client) 0 + 1
  counted-turns =
      get_or-set_other turned (made_place conits client) (turns_place conits client) _ 0 (λ same. absurd (omega (arith, same)))
      ∙ get_or-set_same totals (turns_place conits client) _ 0 (omega (arith, places, among))

  pub counted-made : sum (drop (conits + CLIENTS) counted) ≡ sum (drop (conits + CLIENTS) totals) + 1
  counted-made =
      sum_from-more (conits + CLIENTS) client turned (omega (arith, length-set totals (turns_place conits client) (get_or totals (turns_place conits client) 0 + 1), places, among))
      ∙ ap (λ rest. sum rest + 1) (drop-set-lt (conits + CLIENTS) totals (turns_place conits client) _ (omega (arith, among)))

-- The same with another total on a conit.
module _ (conits client : ℕ) (totals : List ℕ) (places : length totals ≡ conits + 2 * CLIENTS) (among : client < CLIENTS) (conit number : ℕ) (here : conit < conits) where
  abbrev pub answered : List ℕ
  answered = set (counted conits client totals places among) conit number

  pub answered-places : length answered ≡ conits + 2 * CLIENTS
  answered-places = length-set (counted conits client totals places among) conit number ∙ counted-places conits client totals places among

  pub answered-conit : get_or answered conit 0 ≡ number
  answered-conit = get_or-set_same (counted conits client totals places among) conit number 0 (omega (arith, counted-places conits client totals places among, here))

  pub answered-else : (place : ℕ) → place ≢ conit → get_or answered place 0 ≡ get_or (counted conits client totals places among) place 0
  answered-else place other = get_or-set_other (counted conits client totals places among) conit place number 0 other

  pub answered-made : sum (drop (conits + CLIENTS) answered) ≡ sum (drop (conits + CLIENTS) totals) + 1
  answered-made =
      ap sum (drop-set-lt (conits + CLIENTS) (counted conits client totals places among) conit number (omega (arith, here)))
      ∙ counted-made conits client totals places among

-- One more entry made for a client, and no turn.
module _ (conits client : ℕ) (totals : List ℕ) (places : length totals ≡ conits + 2 * CLIENTS) (among : client < CLIENTS) where
  abbrev pub entered : List ℕ
  entered = one_more_at (made_place conits client) totals

  pub entered-places : length entered ≡ conits + 2 * CLIENTS
  entered-places = length-set totals (made_place conits client) _ ∙ places

  pub entered-else : (place : ℕ)
      → place ≢ made_place conits client
      → get_or entered place 0 ≡ get_or totals place 0
  entered-else place other = get_or-set_other totals (made_place conits client) place _ 0 other

  pub entered-made : sum (drop (conits + CLIENTS) entered) ≡ sum (drop (conits + CLIENTS) totals) + 1
  entered-made = sum_from-more (conits + CLIENTS) client totals (omega (arith, places, among))
