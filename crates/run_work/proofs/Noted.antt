-- The clients of a replica, and the calls that clients' notes have seen, as clients are joined one by one.
use Rattle.std.proofs.Common.{◌≡◌, ℕ, ◌==◌, ◌&&◌, ◌||◌, Bool, true, false, List, [], ◌∷◌, ◌++◌, Contains, filter, length, map, if◌then◌else◌}
use Rattle.std.proofs.Common.{refl, ap, ◌∙◌, ⊎_elim, arith, eq-eqb, ne_eqb}
use Rattle.std.specs.List.{list_any}
use Rattle.std.proofs.lemmas.Bool.{cond-true, cond-false, eqb-true, false≢true, or_left, or_parts, or_right}
use Rattle.std.proofs.lemmas.List.{map-append}
use Rattle.std.proofs.lemmas.List.Elements.{filter-append}
use Rattle.tact_base.proofs.ElementLemmas.{Contains-cases, Contains-first, Contains-later, Contains-none}
use Rattle.run_model.specs.Histories.{calls_of}
use Rattle.run_history.specs.Seats.{NoteView}
use Rattle.work_load.specs.Clients.{is_of}
use Rattle.work_load.specs.declared.plan.Client.{Client}
use Rattle.run_work.specs.Ends.{clients_at, noted_calls}

-- the clients of a replica when one more is joined: with this one at its replica, and as before at others
pub clients_at-here : (clients : List Client) (client : Client) (replica : ℕ)
    → client.replica ≡ replica
    → clients_at (clients ++ client ∷ []) replica ≡ clients_at clients replica ++ client.client ∷ []
clients_at-here clients client replica here =
    let at : Client → Bool = λ client. client.replica == replica in
    let number : Client → ℕ = λ client. client.client in
    ap (map number) (filter-append at clients (client ∷ [])
    ∙ ap (λ (kept : List Client). filter at clients ++ kept) (cond-true (at client) (client ∷ []) [] (eq-eqb client.replica replica here)))
    ∙ map-append number (filter at clients) (client ∷ [])

pub clients_at-elsewhere : (clients : List Client) (client : Client) (replica : ℕ)
    → (client.replica ≡ replica → ⊥)
    → clients_at (clients ++ client ∷ []) replica ≡ clients_at clients replica
clients_at-elsewhere clients client replica elsewhere =
    let at : Client → Bool = λ client. client.replica == replica in
    let number : Client → ℕ = λ client. client.client in
    ap (map number) (filter-append at clients (client ∷ [])
    ∙ ap (λ (kept : List Client). filter at clients ++ kept) (cond-false (at client) (client ∷ []) [] (ne_eqb client.replica replica elsewhere)))
    ∙ map-append number (filter at clients) []
    ∙ nothing_more (map number (filter at clients))
  where
    nothing_more : (numbers : List ℕ) → numbers ++ [] ≡ numbers
    nothing_more [] = refl
    nothing_more (n ∷ numbers) = ap (λ (more : List ℕ). n ∷ more) (nothing_more numbers)

-- a number is among those of a replica's clients exactly where one of them is under it
pub is_of-among : (clients : List Client) (replica number : ℕ)
    → Contains (clients_at clients replica) number
    → list_any (is_of replica number) clients ≡ true
is_of-among [] replica number within = absurd (Contains-none number within)
is_of-among (client ∷ clients) replica number within =
    go (client.replica == replica) (list_any (is_of replica number) clients) (is_of-among clients replica number) within
  where
    go : (here any : Bool)
        → (Contains (clients_at clients replica) number → any ≡ true)
        → Contains (map (λ (one : Client). one.client)
        (if here then client ∷ filter (λ (one : Client). one.replica == replica) clients else filter (λ (one : Client). one.replica == replica) clients)) number
        → ((here && client.client == number) || any) ≡ true
    go true any rest within =
        ⊎_elim
        (λ (same : client.client ≡ number). or_left (client.client == number) any (eq-eqb client.client number same))
        (λ (later : Contains (clients_at clients replica) number). or_right (client.client == number) any (rest later))
        (Contains-cases client.client number (clients_at clients replica) within)
    go false any rest within = rest within

pub among-is_of : (clients : List Client) (replica number : ℕ)
    → list_any (is_of replica number) clients ≡ true
    → Contains (clients_at clients replica) number
among-is_of [] replica number any = absurd (false≢true any)
among-is_of (client ∷ clients) replica number any =
    go (client.replica == replica) (client.client == number) refl (list_any (is_of replica number) clients) (among-is_of clients replica number) any
  where
    go : (here same : Bool)
        → (client.client == number) ≡ same
        → (any : Bool)
        → (any ≡ true → Contains (clients_at clients replica) number)
        → ((here && same) || any) ≡ true
        → Contains (map (λ (one : Client). one.client)
        (if here then client ∷ filter (λ (one : Client). one.replica == replica) clients else filter (λ (one : Client). one.replica == replica) clients)) number
    go true true e any rest is = Contains-first client.client number (clients_at clients replica) (eqb-true client.client number e)
    go true false e any rest is = Contains-later client.client number (clients_at clients replica) (rest is)
    go false same e any rest is = rest is

-- what the notes have seen of a client's calls, when the note of one more is joined
pub noted_calls-before : (clients : List Client) (notes : List NoteView) (client : Client) (note : NoteView) (replica number : ℕ)
    → length notes ≡ length clients
    → list_any (is_of replica number) clients ≡ true
    → noted_calls (clients ++ client ∷ []) (notes ++ note ∷ []) replica number ≡ noted_calls clients notes replica number
noted_calls-before [] notes client note replica number size any = absurd (false≢true any)
noted_calls-before (first ∷ clients) [] client note replica number size any = absurd (omega (arith, size))
noted_calls-before (first ∷ clients) (of_first ∷ notes) client note replica number size any =
    go (is_of replica number first) (noted_calls-before clients notes client note replica number (omega (arith, size))) any
  where
    go : (here : Bool)
        → (list_any (is_of replica number) clients ≡ true
        → noted_calls (clients ++ client ∷ []) (notes ++ note ∷ []) replica number ≡ noted_calls clients notes replica number)
        → (here || list_any (is_of replica number) clients) ≡ true
        → (if here then calls_of of_first.seen replica number else noted_calls (clients ++ client ∷ []) (notes ++ note ∷ []) replica number)
        ≡ (if here then calls_of of_first.seen replica number else noted_calls clients notes replica number)
    go true rest any = refl
    go false rest any = rest any

pub noted_calls-new : (clients : List Client) (notes : List NoteView) (client : Client) (note : NoteView) (replica number : ℕ)
    → length notes ≡ length clients
    → list_any (is_of replica number) clients ≡ false
    → is_of replica number client ≡ true
    → noted_calls (clients ++ client ∷ []) (notes ++ note ∷ []) replica number ≡ calls_of note.seen replica number
noted_calls-new [] [] client note replica number size none new = cond-true (is_of replica number client) (calls_of note.seen replica number) [] new
noted_calls-new [] (other ∷ notes) client note replica number size none new = absurd (omega (arith, size))
noted_calls-new (first ∷ clients) [] client note replica number size none new = absurd (omega (arith, size))
noted_calls-new (first ∷ clients) (of_first ∷ notes) client note replica number size none new =
    let parts = or_parts (is_of replica number first) (list_any (is_of replica number) clients) none in
    cond-false (is_of replica number first) (calls_of of_first.seen replica number) (noted_calls (clients ++ client ∷ []) (notes ++ note ∷ []) replica number) parts.0
    ∙ noted_calls-new clients notes client note replica number (omega (arith, size)) parts.1 new

-- and none of a client that isn't there
pub noted_calls-none : (clients : List Client) (notes : List NoteView) (replica number : ℕ)
    → list_any (is_of replica number) clients ≡ false
    → noted_calls clients notes replica number ≡ []
noted_calls-none [] [] replica number none = refl
noted_calls-none [] (note ∷ notes) replica number none = refl
noted_calls-none (client ∷ clients) [] replica number none = refl
noted_calls-none (client ∷ clients) (note ∷ notes) replica number none =
    let parts = or_parts (is_of replica number client) (list_any (is_of replica number) clients) none in
    cond-false (is_of replica number client) (calls_of note.seen replica number) (noted_calls clients notes replica number) parts.0
    ∙ noted_calls-none clients notes replica number parts.1

-- a client is of its replica under its number
pub is_of-itself : (client : Client) → is_of client.replica client.client client ≡ true
is_of-itself client = ap (λ (same : Bool). same && client.client == client.client) (eq-eqb client.replica client.replica refl) ∙ eq-eqb client.client client.client refl
