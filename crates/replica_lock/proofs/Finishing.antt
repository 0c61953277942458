-- How a node ends with the sessions of all its clients: their places are given back, one client after another.
use Rattle.std.proofs.Common.{◌≡◌, ◌≢◌, ℕ, suc, ◌+◌, ◌<◌, List, [], ◌∷◌, ◌++◌, All, AllPairs, Contains, ⊎_elim, length, map, get_or, set, sum, sum_by, refl, sym, ap, ◌∙◌, subst, arith, get_or-set_same, get_or-set_other}
use Rattle.std.proofs.lemmas.Bool.{cases_eq}
use Rattle.std.proofs.lemmas.List.{get_or-map, length-map, length-set, map-append}
use Rattle.std.proofs.lemmas.List.Elements.{All-head, All-tail, All-cons, All-nil, All-push, Contains-append_right}
use Rattle.std.proofs.lemmas.List.Sums.{sum_by-set, sum_by-cons}
use Rattle.tact_base.proofs.ElementLemmas.{AllPairs-first, AllPairs-rest, Contains-cases, Contains-first, Contains-none}
use Rattle.tact_base.specs.declared.limits.TheConstants.{CLIENTS}
use Rattle.weight_ledger.specs.Amounts.{IsMoved}
use Rattle.weight_ledger.specs.Seen.{TallyView}
use Rattle.replica_lock.specs.Rosters.{HasNumbers, no_numbers}
use Rattle.replica_lock.specs.Sessions.{HasPlacesOf, KeepsSession, SessionView, numbers_of, place_of}
use Rattle.replica_lock.proofs.Opening.{not_before, not_itself}
use Rattle.replica_lock.proofs.Places.{at-place, nothing-at, numbers-left, own_places, places-left}

-- numbers that are all 0 add up to nothing
pub sum-nothing : (numbers : List ℕ)
    → ((place : ℕ) → place < length numbers → get_or numbers place 0 ≡ 0)
    → sum numbers ≡ 0
sum-nothing [] none = refl
sum-nothing (number ∷ numbers) none =
    omega (arith, sum_by-cons (λ (n : ℕ). n) number numbers, none 0 (omega arith), sum-nothing numbers (λ place within. none (suc place) (omega arith)))

-- numbers of which each stands at a place of its own, and 0 elsewhere, add up to the sum of the list
module _ {A : Type 0} (place_of count : A → ℕ) where
  pub sum-placed : (items : List A) (numbers : List ℕ)
      → All (λ item. (place_of item < length numbers) × (get_or numbers (place_of item) 0 ≡ count item)) items
      → AllPairs (λ (one other : A). place_of one ≢ place_of other) items
      → ((place : ℕ) → place < length numbers → (Contains (map place_of items) place → ⊥) → get_or numbers place 0 ≡ 0)
      → sum numbers ≡ sum_by count items
  sum-placed [] numbers placed apart none = sum-nothing numbers (λ place within. none place within (Contains-none place))
  sum-placed (item ∷ items) numbers placed apart none =
      let Stands = λ (numbers : List ℕ) (item : A). (place_of item < length numbers) × (get_or numbers (place_of item) 0 ≡ count item) in
      let here : Stands numbers item = All-head (Stands numbers) item items placed in
      let place = place_of item in
      let rest = set numbers place 0 in
      let size : length rest ≡ length numbers = length-set numbers place 0 in
      let later = AllPairs-first (λ (one other : A). place_of one ≢ place_of other) item items apart in
      let behind : All (Stands rest) items =
      λ k d within.
      (let stands = All-tail (Stands numbers) item items placed k d within in (
        subst (λ n. place_of (get_or items k d) < n) (sym size) stands.0,
        get_or-set_other numbers place (place_of (get_or items k d)) 0 0 (λ same. later k d within (sym same)) ∙ stands.1,
      )) in
      let nothing = λ (at : ℕ) (within : at < length rest) (out : Contains (map place_of items) at → ⊥).
      ⊎_elim (λ (same : at ≡ place). ap (λ p. get_or rest p 0) same ∙ get_or-set_same numbers place 0 0 here.0)
      (λ (other : at ≢ place).
      get_or-set_other numbers place at 0 0 other
      ∙ none at (subst (λ n. at < n) size within) (λ among. ⊎_elim (λ (same : place ≡ at). other (sym same)) out (Contains-cases place at (map place_of items) among)))
      (cases_eq at place) in
      let less = sum-placed items rest behind (AllPairs-rest (λ (one other : A). place_of one ≢ place_of other) item items apart) nothing in
      omega (arith, sum_by-set (λ (n : ℕ). n) numbers place 0 0 here.0, here.1, less, sum_by-cons count item items)

-- a fact of each pair of what a list gives is one of the list's pairs
pub AllPairs-from_map : {X Y : Type 0} (R : Y → Y → Type 0) (f : X → Y) (xs : List X)
    → AllPairs R (map f xs)
    → AllPairs (λ (one other : X). R (f one) (f other)) xs
AllPairs-from_map R f xs all i j d less within =
    subst (λ y. R y (f (get_or xs j d))) (get_or-map f xs i d (f d) (omega arith))
    (subst (R (get_or (map f xs) i (f d))) (get_or-map f xs j d (f d) within) (all i j (f d) less (omega (arith, length-map xs f, within))))

-- what holds of all elements holds of one
pub All-contains : {X : Type 0} (P : X → Type 0) (xs : List X) (x : X)
    → All P xs
    → Contains xs x
    → P x
All-contains P xs x all (k, within, is) = subst P is (all k x within)

-- what no element of a list gives isn't in the list of what they give
pub Contains-map_none : {X Y : Type 0} (f : X → Y) (xs : List X) (y : Y)
    → All (λ x. f x ≢ y) xs
    → Contains (map f xs) y
    → ⊥
Contains-map_none f [] y none among = Contains-none y among
Contains-map_none f (x ∷ xs) y none among =
    ⊎_elim (λ (same : f x ≡ y). All-head (λ x. f x ≢ y) x xs none same)
    (λ (later : Contains (map f xs) y). Contains-map_none f xs y (All-tail (λ x. f x ≢ y) x xs none) later)
    (Contains-cases (f x) y (map f xs) among)

-- of pairs that all keep a fact, each element before another keeps it with that one
pub AllPairs-before : {X : Type 0} (R : X → X → Type 0) (before : List X) (x : X) (after : List X)
    → AllPairs R (before ++ x ∷ after)
    → All (λ one. R one x) before
AllPairs-before R [] x after all = All-nil (λ one. R one x)
AllPairs-before R (one ∷ before) x after all =
    All-cons (λ one. R one x) one before
    (All-contains (R one) (before ++ x ∷ after) x (AllPairs-first R one (before ++ x ∷ after) all) (Contains-append_right before (x ∷ after) x (Contains-first x x after refl)))
    (AllPairs-before R before x after (AllPairs-rest R one (before ++ x ∷ after) all))

-- the places of a session's client are given to a tally that has nothing of it
pub places-given : (session : SessionView) (tally before left gone after : TallyView)
    → KeepsSession session before
    → HasNumbers session.conits session.client no_numbers tally
    → All (IsMoved before left gone) (own_places session.conits session.client)
    → ((p : ℕ) → get_or after.amounts p 0 ≡ get_or tally.amounts p 0 + get_or gone.amounts p 0)
    → ((p : ℕ) → get_or after.owns p 0 ≡ get_or tally.owns p 0 + get_or gone.owns p 0)
    → HasPlacesOf session.conits session.client (numbers_of session) after
places-given session tally before left gone after keeps nothing moved amounts owns =
    let place = λ (k : ℕ). place_of session.conits session.client k in
    let at = at-place (IsMoved before left gone) session.conits session.client moved in record {
      owns = λ k within none. keeps.places.owns k within (omega (arith, owns (place k), (at k within).got, none));
      amounts = λ k within.
          omega (arith, amounts (place k), nothing k within, nothing-at k, (at k within).all, keeps.places.amounts k within);
    }

-- One more session has given its places.
module _ (conits : ℕ) (clients : List ℕ) (done : List SessionView) (session : SessionView) (rest : List SessionView) (old new : TallyView)
    (whole : map (λ (s : SessionView). s.client) (done ++ session ∷ rest) ≡ clients)
    (apart : AllPairs (λ (one other : ℕ). one ≢ other) clients)
    (among : session.client < CLIENTS)
    (elsewhere : (p : ℕ) → ((k : ℕ) → k < 5 → p ≢ place_of conits session.client k)
    → (get_or new.amounts p 0 ≡ get_or old.amounts p 0) × (get_or old.owns p 0 ≢ 0 → get_or new.owns p 0 ≢ 0)) where
  others : All (λ (s : SessionView). s.client ≢ session.client) done
  others =
      AllPairs-before (λ (one other : SessionView). one.client ≢ other.client) done session rest
      (AllPairs-from_map (λ (one other : ℕ). one ≢ other) (λ (s : SessionView). s.client) (done ++ session ∷ rest) (subst (AllPairs (λ (one other : ℕ). one ≢ other)) (sym whole) apart))

  pub not_done : Contains (map (λ (s : SessionView). s.client) done) session.client → ⊥
  not_done = Contains-map_none (λ (s : SessionView). s.client) done session.client others

  pub is_listed : Contains clients session.client
  is_listed =
      subst (λ cs. Contains cs session.client) whole
      (subst (λ cs. Contains cs session.client) (sym (map-append (λ (s : SessionView). s.client) done (session ∷ rest)))
      (Contains-append_right (map (λ (s : SessionView). s.client) done) (map (λ (s : SessionView). s.client) (session ∷ rest)) session.client
      (Contains-first session.client session.client (map (λ (s : SessionView). s.client) rest) refl)))

  pub places-more : All (λ (s : SessionView). s.client < CLIENTS) done
      → All (λ (s : SessionView). HasPlacesOf conits s.client (numbers_of s) old) done
      → HasPlacesOf conits session.client (numbers_of session) new
      → All (λ (s : SessionView). HasPlacesOf conits s.client (numbers_of s) new) (done ++ session ∷ [])
  places-more within placed mine =
      All-push (λ (s : SessionView). HasPlacesOf conits s.client (numbers_of s) new) done session
      (λ k d at. let s = get_or done k d in
      places-left conits session.client old new s.client (within k d at) among (others k d at) elsewhere (numbers_of s) (placed k d at))
      mine

  pub nothing-more : ((client : ℕ) → client < CLIENTS → (Contains (map (λ (s : SessionView). s.client) done) client → ⊥) → HasNumbers conits client no_numbers old)
      → (client : ℕ) → client < CLIENTS → (Contains (map (λ (s : SessionView). s.client) (done ++ session ∷ [])) client → ⊥) → HasNumbers conits client no_numbers new
  nothing-more nothing client within out =
      let free = λ (among_all : Contains (map (λ (s : SessionView). s.client) done ++ session.client ∷ []) client).
      out (subst (λ cs. Contains cs client) (sym (map-append (λ (s : SessionView). s.client) done (session ∷ []))) among_all) in
      numbers-left conits session.client old new client within among (not_itself _ session.client client free) elsewhere no_numbers
      (nothing client within (not_before _ session.client client free))

  pub free-more : ((client : ℕ) → client < CLIENTS → (Contains clients client → ⊥) → HasPlacesOf conits client no_numbers old)
      → (client : ℕ) → client < CLIENTS → (Contains clients client → ⊥) → HasPlacesOf conits client no_numbers new
  free-more free client within out =
      places-left conits session.client old new client within among (λ same. out (subst (Contains clients) (sym same) is_listed)) elsewhere no_numbers (free client within out)

-- what holds of what each element gives holds of each of the list of what they give
pub All-map : {X Y : Type 0} (P : Y → Type 0) (f : X → Y) (xs : List X)
    → All (λ x. P (f x)) xs
    → All P (map f xs)
All-map P f [] all = All-nil P
All-map P f (x ∷ xs) all = All-cons P (f x) (map f xs) (All-head (λ x. P (f x)) x xs all) (All-map P f xs (All-tail (λ x. P (f x)) x xs all))

pub All-unmap : {X Y : Type 0} (P : Y → Type 0) (f : X → Y) (xs : List X)
    → All P (map f xs)
    → All (λ x. P (f x)) xs
All-unmap P f xs all k d within = subst P (get_or-map f xs k d (f d) within) (all k (f d) (omega (arith, length-map xs f, within)))
