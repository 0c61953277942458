-- The five places of each client.
use Rattle.std.proofs.Common.{◌≡◌, ◌≢◌, ℕ, zero, suc, ◌+◌, ◌*◌, ◌<◌, List, [], ◌∷◌, All, map, replicate, get_or, refl, sym, ap, ◌∙◌, arith}
use Rattle.std.proofs.lemmas.List.{get_or-replicate, get_or-append-add}
use Rattle.tact_base.specs.declared.limits.TheConstants.{CLIENTS}
use Rattle.weight_ledger.specs.Amounts.{zeros, all_owned, IsMoved, IsLeft}
use Rattle.weight_ledger.specs.Seen.{TallyView}
use Rattle.weight_ledger.proofs.Places.{get_or-zeros, length-zeros}
use Rattle.replica_lock.specs.Rosters.{HasNumbers, no_numbers}
use Rattle.replica_lock.specs.Sessions.{HasPlacesOf, place_of}

-- what holds of five numbers holds of each below 5
pub each-below : (P : ℕ → Type 0) → P 0 → P 1 → P 2 → P 3 → P 4 → (k : ℕ) → k < 5 → P k
each-below P p0 p1 p2 p3 p4 zero within = p0
each-below P p0 p1 p2 p3 p4 (suc zero) within = p1
each-below P p0 p1 p2 p3 p4 (suc (suc zero)) within = p2
each-below P p0 p1 p2 p3 p4 (suc (suc (suc zero))) within = p3
each-below P p0 p1 p2 p3 p4 (suc (suc (suc (suc zero)))) within = p4
each-below P p0 p1 p2 p3 p4 (suc (suc (suc (suc (suc k))))) within = absurd (omega arith)

abbrev pub own_places : ℕ → ℕ → List ℕ
own_places conits client = map (place_of conits client) (0 ∷ 1 ∷ 2 ∷ 3 ∷ 4 ∷ [])

-- what holds of each of a client's places holds of the list of them, and the other way round
pub all-places : (P : ℕ → Type 0) (conits client : ℕ)
    → ((k : ℕ) → k < 5 → P (place_of conits client k))
    → All P (own_places conits client)
all-places P conits client each k d within =
    each-below (λ j. P (get_or (own_places conits client) j d))
    (each 0 (omega arith)) (each 1 (omega arith)) (each 2 (omega arith)) (each 3 (omega arith)) (each 4 (omega arith)) k within

pub at-place : (P : ℕ → Type 0) (conits client : ℕ)
    → All P (own_places conits client)
    → (k : ℕ)
    → k < 5
    → P (place_of conits client k)
at-place P conits client all =
    each-below (λ k. P (place_of conits client k))
    (all 0 0 (omega arith)) (all 1 0 (omega arith)) (all 2 0 (omega arith)) (all 3 0 (omega arith)) (all 4 0 (omega arith))

-- two clients have no place in common
pub places-apart : (conits one other k j : ℕ)
    → one < CLIENTS
    → other < CLIENTS
    → other ≢ one
    → place_of conits other j ≢ place_of conits one k
places-apart conits one other k j one_among other_among apart same = apart (omega arith)

-- a client that did nothing has 0 at each of its places
pub nothing-at : (k : ℕ) → get_or no_numbers k 0 ≡ 0
nothing-at zero = refl
nothing-at (suc zero) = refl
nothing-at (suc (suc zero)) = refl
nothing-at (suc (suc (suc zero))) = refl
nothing-at (suc (suc (suc (suc zero)))) = refl
nothing-at (suc (suc (suc (suc (suc k))))) = refl

-- what the first tally has of a client
pub numbers-first : (conits client : ℕ) (tally : TallyView)
    → tally.amounts ≡ zeros (conits + 5 * CLIENTS)
    → HasNumbers conits client no_numbers tally
numbers-first conits client tally amounts k within =
    ap (λ t. get_or t (place_of conits client k) 0) amounts ∙ get_or-zeros (conits + 5 * CLIENTS) (place_of conits client k) ∙ sym (nothing-at k)

-- a client's places in the first tally
pub places-first : (conits client : ℕ) (tally : TallyView)
    → client < CLIENTS
    → tally.amounts ≡ zeros (conits + 5 * CLIENTS)
    → tally.owns ≡ all_owned conits (5 * CLIENTS)
    → HasPlacesOf conits client no_numbers tally
places-first conits client tally among amounts owns =
    let owned = λ (i : ℕ) (within : i < 5 * CLIENTS).
    ap (λ t. get_or t (conits + i) 0) owns
    ∙ ap (λ n. get_or (all_owned conits (5 * CLIENTS)) (n + i) 0) (sym (length-zeros conits))
    ∙ get_or-append-add (zeros conits) (replicate (5 * CLIENTS) 1) i 0
    ∙ get_or-replicate (5 * CLIENTS) i 1 0 within in
    record {
      owns = λ k within none.
          let place : place_of conits client k ≡ conits + (k * CLIENTS + client) = omega arith in
          absurd (omega (arith, owned (k * CLIENTS + client) (omega arith), ap (λ p. get_or tally.owns p 0) place, none));
      amounts = numbers-first conits client tally amounts;
    }

-- a client's places are its own: what moves there goes to it alone
pub places-moved : (conits client : ℕ) (before left gone : TallyView) (numbers : List ℕ)
    → HasPlacesOf conits client numbers before
    → All (IsMoved before left gone) (own_places conits client)
    → HasPlacesOf conits client numbers gone × HasNumbers conits client no_numbers left
places-moved conits client before left gone numbers has moved =
    let at = at-place (IsMoved before left gone) conits client moved in (
      record {
        owns = λ k within none. has.owns k within (sym (at k within).got ∙ none);
        amounts = λ k within. (at k within).all ∙ has.amounts k within;
      },
      λ k within. (at k within).none ∙ sym (nothing-at k),
    )

-- elsewhere nothing moves
pub away : (conits client : ℕ) (before left gone : TallyView)
    → ((p : ℕ) → All (λ q. q ≢ p) (own_places conits client) → IsLeft before left gone p)
    → (p : ℕ)
    → ((k : ℕ) → k < 5 → p ≢ place_of conits client k)
    → IsLeft before left gone p
away conits client before left gone others p elsewhere =
    others p (all-places (λ q. q ≢ p) conits client (λ k within same. elsewhere k within (sym same)))

-- what another client has is left to it
module _ (conits client : ℕ) (before after : TallyView) (other : ℕ) (among : other < CLIENTS) (client_among : client < CLIENTS) (apart : other ≢ client)
    (elsewhere : (p : ℕ) → ((k : ℕ) → k < 5 → p ≢ place_of conits client k)
    → (get_or after.amounts p 0 ≡ get_or before.amounts p 0) × (get_or before.owns p 0 ≢ 0 → get_or after.owns p 0 ≢ 0)) where
  there : (j : ℕ) → (get_or after.amounts (place_of conits other j) 0 ≡ get_or before.amounts (place_of conits other j) 0)
      × (get_or before.owns (place_of conits other j) 0 ≢ 0 → get_or after.owns (place_of conits other j) 0 ≢ 0)
  there j = elsewhere (place_of conits other j) (λ k within. places-apart conits client other k j client_among among apart)

  pub numbers-left : (numbers : List ℕ) → HasNumbers conits other numbers before → HasNumbers conits other numbers after
  numbers-left numbers has k within = (there k).0 ∙ has k within

  pub places-left : (numbers : List ℕ) → HasPlacesOf conits other numbers before → HasPlacesOf conits other numbers after
  places-left numbers has = record {
    owns = λ k within. (there k).1 (has.owns k within);
    amounts = numbers-left numbers has.amounts;
  }
