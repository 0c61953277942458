-- What a book has of all clients from a place on, where one of its numbers changes; and how many entries restarts drew,
-- where a client is owed something else.
use Rattle.std.proofs.Common.{◌≡◌, ℕ, ◌+◌, ◌-◌, ◌<◌, ◌≤◌, zero, suc, List, [], ◌∷◌, length, get_or, take, drop, set, refl, ap, ◌∙◌, arith}
use Rattle.std.proofs.lemmas.List.{drop-set-add, drop-set-lt, get_or-drop, get_or-take, length-drop, length-take, take-set-le}
use Rattle.std.proofs.lemmas.List.Sums.{get_or-le-sum_by, sum_by-set}
use Rattle.std.specs.Prelude.{sum}
use Rattle.tact_base.specs.declared.limits.TheConstants.{CLIENTS}
use Rattle.replica_lock.specs.Ledgers.{all_clients, all_kept, nothing_owed, owe_of}
use Rattle.replica_lock.specs.declared.owe.Owe.{Owe}

-- a number set within the front of a list, or before that front is taken
set-take : (n : ℕ) (xs : List ℕ) (i v : ℕ) → take n (set xs i v) ≡ set (take n xs) i v
set-take zero xs i v = refl
set-take (suc n) [] i v = refl
set-take (suc n) (x ∷ xs) zero v = refl
set-take (suc n) (x ∷ xs) (suc i) v = ap (λ (l : List ℕ). x ∷ l) (set-take n xs i v)

-- a number outside of it changes nothing
pub sums-before : (place p v : ℕ) (book : List ℕ) → p < place → all_clients place (set book p v) ≡ all_clients place book
sums-before place p v book before = ap (λ (l : List ℕ). sum (take CLIENTS l)) (drop-set-lt place book p v before)

pub sums-behind : (place p v : ℕ) (book : List ℕ) → place + CLIENTS ≤ p → all_clients place (set book p v) ≡ all_clients place book
sums-behind place p v book behind =
    let far = p - place in
    let same : p ≡ place + far = omega arith in
    ap (λ q. all_clients place (set book q v)) same
    ∙ ap (λ (l : List ℕ). sum (take CLIENTS l)) (drop-set-add place book far v)
    ∙ ap (λ (l : List ℕ). sum l) (take-set-le CLIENTS (drop place book) far v (omega arith))

-- one within it changes it as far as it goes itself
pub sums-at : (place client v : ℕ) (book : List ℕ)
    → client < CLIENTS
    → place + client < length book
    → all_clients place (set book (place + client) v) + get_or book (place + client) 0 ≡ all_clients place book + v
sums-at place client v book among within =
    let part = take CLIENTS (drop place book) in
    let long : client < length part = omega (arith, length-take CLIENTS (drop place book), length-drop place book) in
    let at : get_or part client 0 ≡ get_or book (place + client) 0 = get_or-take CLIENTS (drop place book) client 0 among ∙ get_or-drop place book client 0 in
    let now : all_clients place (set book (place + client) v) ≡ sum (set part client v) =
    ap (λ (l : List ℕ). sum (take CLIENTS l)) (drop-set-add place book client v) ∙ ap (λ (l : List ℕ). sum l) (set-take CLIENTS (drop place book) client v) in
    let sums : sum (set part client v) + get_or part client 0 ≡ sum part + v = sum_by-set (λ x. x) part client v 0 long in
    omega (arith, at, now, sums)

-- and no number within it is greater than the sum
pub sums-least : (place client : ℕ) (book : List ℕ)
    → client < CLIENTS
    → place + client < length book
    → get_or book (place + client) 0 ≤ all_clients place book
sums-least place client book among within =
    let part = take CLIENTS (drop place book) in
    let long : client < length part = omega (arith, length-take CLIENTS (drop place book), length-drop place book) in
    let at : get_or part client 0 ≡ get_or book (place + client) 0 = get_or-take CLIENTS (drop place book) client 0 among ∙ get_or-drop place book client 0 in
    let least : get_or part client 0 ≤ sum part = get_or-le-sum_by (λ x. x) part client 0 long in
    omega (arith, at, least)

pub kept-at : (owes : List Owe) (client : ℕ) (owe : Owe)
    → client < length owes
    → all_kept (set owes client owe) + (owe_of owes client).kept ≡ all_kept owes + owe.kept
kept-at owes client owe within = sum_by-set (λ (o : Owe). o.kept) owes client owe nothing_owed within

pub kept-least : (owes : List Owe) (client : ℕ) → client < length owes → (owe_of owes client).kept ≤ all_kept owes
kept-least owes client within = get_or-le-sum_by (λ (o : Owe). o.kept) owes client nothing_owed within
