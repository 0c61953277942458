-- How nodes and sessions begin.
use Rattle.std.proofs.Common.{◌≡◌, ◌≢◌, ◌==◌, ℕ, zero, suc, ◌+◌, ◌-◌, ◌*◌, ◌<◌, ◌≤◌, Bool, true, false, if◌then◌else◌, List, [], ◌∷◌, ◌++◌, All, AllPairs, Contains, ⊎_elim, None, Some, IsTrue, take, map, replicate, get_or, sum, sum_by, refl, sym, ap, ◌∙◌, subst, arith}
use Rattle.std.proofs.lemmas.Bool.{cases_eq}
use Rattle.std.proofs.lemmas.List.{drop-replicate, length-replicate}
use Rattle.std.proofs.lemmas.List.Elements.{All-contains_itself, Contains-push, Contains-append_left}
use Rattle.std.proofs.lemmas.List.Quantifiers.{all_pairs_push}
use Rattle.std.proofs.lemmas.List.Sums.{sum_by-cons, sum_by-take-le}
use Rattle.tact_base.specs.declared.limits.TheConstants.{CLIENTS, CONITS_MAX}
use Rattle.run_model.specs.Histories.{part_of, calls_in}
use Rattle.run_model.specs.declared.entry.Entry.{Entry}
use Rattle.run_history.specs.Ticks.{entries_of}
use Rattle.restart_journal.specs.Pieces.{piece_bytes}
use Rattle.entry_journal.specs.EntryJournals.{HasPiecesOf, JournalView}
use Rattle.locked_replica.specs.Journals.{DoubtMayCome, IsJournaled}
use Rattle.weight_ledger.specs.Seen.{TallyView}
use Rattle.weight_ledger.specs.Amounts.{IsLeft, IsMoved, zeros}
use Rattle.weight_ledger.proofs.Places.{get_or-zeros, length-zeros}
use Rattle.locked_replica.specs.Locks.{LockedView, made_place, part_in, turns_place}
use Rattle.replica_lock.specs.Ledgers.{IsAccounted, IsBooked, IsMarked, all_clients, nothing_owed, owe_of, owed_by, standing}
use Rattle.replica_lock.specs.Rosters.{HasNumbers, KeepsRoster, RosterView, no_numbers}
use Rattle.replica_lock.specs.Sessions.{HasPlacesOf, KeepsSession, SessionView, numbers_of, place_of}
use Rattle.replica_lock.specs.declared.owe.Owe.{Owe}
use Rattle.replica_lock.proofs.Places.{away, numbers-left, own_places, places-left, places-moved}

-- a session that begins
pub KeepsSession-new : (session : SessionView) (tally : TallyView)
    → session.client < CLIENTS
    → session.conits ≤ CONITS_MAX
    → numbers_of session ≡ no_numbers
    → part_of session.seen session.replica ≡ []
    → HasPlacesOf session.conits session.client no_numbers tally
    → KeepsSession session tally
KeepsSession-new session tally among few numbers none has =
    let calls : session.calls ≡ 0 = ap (λ ns. get_or ns 0 0) numbers in record {
      among = among;
      few = few;
      places = subst (λ ns. HasPlacesOf session.conits session.client ns tally) (sym numbers) has;
      calls = λ certain. ap (λ part. calls_in part session.client) none ∙ sym calls;
      least = omega (arith, calls);
    }

-- who isn't in a list with one more isn't that one, and wasn't in the list
pub not_itself : (clients : List ℕ) (client other : ℕ) → (Contains (clients ++ client ∷ []) other → ⊥) → other ≢ client
not_itself clients client other out same = out (subst (Contains (clients ++ client ∷ [])) (sym same) (Contains-push clients client))

pub not_before : (clients : List ℕ) (client other : ℕ) → (Contains (clients ++ client ∷ []) other → ⊥) → Contains clients other → ⊥
not_before clients client other out before = out (Contains-append_left clients (client ∷ []) other before)

-- clients that are apart are so with one more who isn't among them
pub apart-push : (clients : List ℕ) (client : ℕ)
    → (Contains clients client → ⊥)
    → AllPairs (λ (one other : ℕ). one ≢ other) clients
    → AllPairs (λ (one other : ℕ). one ≢ other) (clients ++ client ∷ [])
apart-push clients client out apart =
    all_pairs_push (λ (one other : ℕ). one ≢ other) clients client apart
    (λ k d within same. out (subst (Contains clients) same (All-contains_itself clients k d within)))

-- A roster of which the places of a client went to its session.
module _ (roster : RosterView) (client : ℕ) (seen : List Entry) (before left gone : TallyView)
    (keeps : KeepsRoster roster seen before)
    (among : client < CLIENTS)
    (out : Contains roster.clients client → ⊥)
    (moved : All (IsMoved before left gone) (own_places roster.conits client))
    (others : (p : ℕ) → All (λ q. q ≢ p) (own_places roster.conits client) → IsLeft before left gone p) where
  elsewhere : (p : ℕ) → ((k : ℕ) → k < 5 → p ≢ place_of roster.conits client k)
      → (get_or left.amounts p 0 ≡ get_or before.amounts p 0) × (get_or before.owns p 0 ≢ 0 → get_or left.owns p 0 ≢ 0)
  elsewhere p apart =
      let is_left = away roster.conits client before left gone others p apart in
      (is_left.all, λ owned none. owned (sym is_left.kept ∙ none))

  pub places-given_out : HasPlacesOf roster.conits client no_numbers gone
  places-given_out = (places-moved roster.conits client before left gone no_numbers (keeps.free client among out) moved).0

  pub nothing-left : (other : ℕ) → other < CLIENTS → HasNumbers roster.conits other no_numbers left
  nothing-left other within =
      ⊎_elim {C = HasNumbers roster.conits other no_numbers left}
      (λ (same : other ≡ client). rw same (places-moved roster.conits client before left gone no_numbers (keeps.free client among out) moved).1)
      (λ (differs : other ≢ client). numbers-left roster.conits client before left other within among differs elsewhere no_numbers (keeps.nothing other within))
      (cases_eq other client)

  pub free-left : (other : ℕ) → other < CLIENTS → (Contains (roster.clients ++ client ∷ []) other → ⊥) → HasPlacesOf roster.conits other no_numbers left
  free-left other within free =
      places-left roster.conits client before left other within among (not_itself roster.clients client other free) elsewhere no_numbers
      (keeps.free other within (not_before roster.clients client other free))

-- zeros add up to nothing, from any place on
sum-zeros : (n : ℕ) → sum (zeros n) ≡ 0
sum-zeros zero = refl
sum-zeros (suc n) = omega (arith, sum_by-cons (λ (x : ℕ). x) 0 (zeros n), sum-zeros n)

take-zeros : (m n : ℕ) → sum (take m (zeros n)) ≡ 0
take-zeros m n = omega (arith, sum_by-take-le (λ (x : ℕ). x) (zeros n) m, sum-zeros n)

all-nothing : (place size : ℕ) → all_clients place (zeros size) ≡ 0
all-nothing place size = ap (λ xs. sum (take CLIENTS xs)) (drop-replicate place size 0) ∙ take-zeros CLIENTS (size - place)

-- nothing is owed to anybody
none-owed : (n client : ℕ) → get_or (replicate n nothing_owed) client nothing_owed ≡ nothing_owed
none-owed zero client = refl
none-owed (suc n) zero = refl
none-owed (suc n) (suc client) = none-owed n client

owed-nothing : (f : Owe → ℕ) (n : ℕ) → f nothing_owed ≡ 0 → sum_by f (replicate n nothing_owed) ≡ 0
owed-nothing f zero none = refl
owed-nothing f (suc n) none = omega (arith, sum_by-cons f nothing_owed (replicate n nothing_owed), none, owed-nothing f n none)

owed-none : (same : Bool) → ◌≡◌ {A = ℕ} (if same then 0 else 0) 0
owed-none true = refl
owed-none false = refl

-- a book of nothing, beside totals of nothing
booked-new : (conits : ℕ) → IsBooked conits (zeros (conits + 2 * CLIENTS)) (zeros (conits + 5 * CLIENTS)) (replicate CLIENTS nothing_owed)
booked-new conits = record {
  totals_sized = length-zeros (conits + 2 * CLIENTS);
  book_sized = length-zeros (conits + 5 * CLIENTS);
  owes_sized = length-replicate CLIENTS nothing_owed;
  amounts = λ conit within.
      omega (arith, none conit, nought conit, owed-nothing (owed_by conit) CLIENTS (owed-none (0 == conit)));
  turns = λ client within. none (turns_place conits client) ∙ sym (ap (λ owe. standing owe) (none-owed CLIENTS client)) ∙ sym (plus (turns_place conits client) (standing (owe_of owes client)));
  made = λ client within. none (made_place conits client) ∙ sym (ap (λ (owe : Owe). owe.kept) (none-owed CLIENTS client)) ∙ sym (plus (made_place conits client) (owe_of owes client).kept);
  certain = λ client within certain.
      (ap (λ (owe : Owe). owe.stands) (none-owed CLIENTS client), ap (λ (owe : Owe). owe.amount) (none-owed CLIENTS client));
  within = λ client among some. absurd (some (ap (λ (owe : Owe). owe.amount) (none-owed CLIENTS client)));
}
  where
    owes : List Owe
    owes = replicate CLIENTS nothing_owed

    none : (place : ℕ) → get_or (zeros (conits + 2 * CLIENTS)) place 0 ≡ 0
    none place = get_or-zeros (conits + 2 * CLIENTS) place

    nought : (place : ℕ) → get_or (zeros (conits + 5 * CLIENTS)) place 0 ≡ 0
    nought place = get_or-zeros (conits + 5 * CLIENTS) place

    plus : (place more : ℕ) → get_or (zeros (conits + 5 * CLIENTS)) place 0 + more ≡ more
    plus place more = omega (arith, nought place)

marked-new : (conits : ℕ) (journal : JournalView) → journal.doubt ≡ None → IsMarked conits journal (zeros (conits + 5 * CLIENTS)) (replicate CLIENTS nothing_owed)
marked-new conits journal certain = record {
  faults = λ short. omega (arith, all-nothing (conits + 2 * CLIENTS) (conits + 5 * CLIENTS));
  halts = λ some. absurd (some (all-nothing (conits + 3 * CLIENTS) (conits + 5 * CLIENTS)));
  kept = λ none. owed-nothing (λ (owe : Owe). owe.kept) CLIENTS refl;
  doubt = λ entry is. absurd (differ (sym certain ∙ is));
}
  where
    differ : {entry : Entry} → None ≡ Some entry → ⊥
    differ same = cc

-- a journal that has no piece and isn't halted is that of a node that made no entry
pub IsJournaled-new : (state : LockedView) (journal : JournalView)
    → state.stored ≡ []
    → (IsTrue journal.tells → journal.pieces ≡ [])
    → journal.halted ≡ false
    → journal.doubt ≡ None
    → IsJournaled state journal
IsJournaled-new state journal none empty going certain = record {
  pieces = λ told.
      subst (λ doubt. HasPiecesOf journal.pieces (part_in state) doubt) (sym certain)
      (empty told ∙ sym (ap (λ stored. map piece_bytes (entries_of stored)) none));
  next = subst (λ doubt. DoubtMayCome state doubt) (sym certain) tt;
  certain = λ going. certain;
  counted = λ halted. absurd (differ (sym going ∙ halted));
}
  where
    differ : false ≡ true → ⊥
    differ same = cc

-- a node that begins: the totals and the book are 0 everywhere, nothing is owed, and none is in doubt
pub IsAccounted-new : (state : LockedView) (journal : JournalView) (book : List ℕ) (owes : List Owe)
    → state.totals ≡ zeros (state.core.setup.conits + 2 * CLIENTS)
    → book ≡ zeros (state.core.setup.conits + 5 * CLIENTS)
    → owes ≡ replicate CLIENTS nothing_owed
    → journal.doubt ≡ None
    → IsAccounted state journal book owes
IsAccounted-new state journal book owes totals booked owed certain =
    let conits = state.core.setup.conits in record {
      booked =
          subst (λ t. IsBooked conits t book owes) (sym totals)
          (subst (λ b. IsBooked conits (zeros (conits + 2 * CLIENTS)) b owes) (sym booked)
          (subst (λ o. IsBooked conits (zeros (conits + 2 * CLIENTS)) (zeros (conits + 5 * CLIENTS)) o) (sym owed) (booked-new conits)));
      marked =
          subst (λ b. IsMarked conits journal b owes) (sym booked)
          (subst (λ o. IsMarked conits journal (zeros (conits + 5 * CLIENTS)) o) (sym owed) (marked-new conits journal certain));
    }
