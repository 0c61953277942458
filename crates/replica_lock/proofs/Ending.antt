-- What a node that has ended has of the sessions of all its clients.
use Rattle.std.proofs.Common.{◌≡◌, ◌≢◌, ℕ, suc, ◌+◌, ◌*◌, ◌<◌, Bool, true, false, IsTrue, Option, None, Some, if◌then◌else◌, List, [], ◌∷◌, All, AllPairs, Contains, drop, take, length, map, get_or, sum, sum_by, refl, sym, ap, ◌∙◌, subst, arith}
use Rattle.std.proofs.lemmas.List.{get_or-drop, get_or-take, length-drop, length-map, length-take}
use Rattle.std.proofs.lemmas.List.Sums.{sum_by-cons}
use Rattle.tact_base.specs.declared.limits.TheConstants.{CLIENTS}
use Rattle.run_model.specs.Histories.{calls_in}
use Rattle.run_model.specs.Runs.{IsDue, WasSent}
use Rattle.run_model.specs.declared.entry.Entry.{Entry}
use Rattle.run_history.specs.Seats.{ClerkView}
use Rattle.run_history.specs.Ticks.{entries_of}
use Rattle.entry_journal.specs.EntryJournals.{HasPiecesOf, JournalView}
use Rattle.weight_ledger.specs.Seen.{TallyView}
use Rattle.locked_replica.specs.Journals.{DoubtMayCome, IsJournaled, LeavesJournal, MayComeNext}
use Rattle.locked_replica.specs.Locks.{IsLocked, LockedView, part_in, turns_place}
use Rattle.replica_lock.specs.Ledgers.{IsAccounted, all_clients, all_kept, nothing_owed, owe_of, standing}
use Rattle.replica_lock.specs.Rosters.{AreAllSessions, no_numbers}
use Rattle.replica_lock.specs.Sessions.{HasPlacesOf, SessionView, numbers_of, own_calls, place_of}
use Rattle.replica_lock.specs.declared.owe.Owe.{Owe}
use Rattle.replica_lock.proofs.Finishing.{AllPairs-from_map, All-unmap, sum-placed}
use Rattle.replica_lock.proofs.Places.{nothing-at}

-- numbers that are, at each place, those of a list and what items add, add up to both sums
pub sum-added : {A : Type 0} (f : A → ℕ) (none : A) (items : List A) (sums numbers : List ℕ)
    → length sums ≡ length items
    → length numbers ≡ length items
    → ((place : ℕ) → place < length items → get_or sums place 0 ≡ get_or numbers place 0 + f (get_or items place none))
    → sum sums ≡ sum numbers + sum_by f items
sum-added f none [] [] [] size_sums size_numbers each = omega arith
sum-added f none [] (s ∷ sums) numbers size_sums size_numbers each = absurd (omega arith)
sum-added f none [] [] (n ∷ numbers) size_sums size_numbers each = absurd (omega arith)
sum-added f none (item ∷ items) [] numbers size_sums size_numbers each = absurd (omega arith)
sum-added f none (item ∷ items) (s ∷ sums) [] size_sums size_numbers each = absurd (omega arith)
sum-added f none (item ∷ items) (s ∷ sums) (n ∷ numbers) size_sums size_numbers each =
    let less = sum-added f none items sums numbers (omega arith) (omega arith) (λ place within. each (suc place) (omega arith)) in
    omega (arith, sum_by-cons (λ (x : ℕ). x) s sums, sum_by-cons (λ (x : ℕ). x) n numbers, sum_by-cons f item items, each 0 (omega arith), less)

-- an entry is in doubt on a halted node alone
halted_in : (halted : Bool) (doubt : Option Entry) (entry : Entry) → (halted ≡ false → doubt ≡ None) → doubt ≡ Some entry → halted ≡ true
halted_in true doubt entry certain is = refl
halted_in false doubt entry certain is = let never : None ≡ Some entry = sym (certain refl) ∙ is in absurd cc

-- what a node's value leaves of its journal, where these parts are had out of both
pub leaves_journal : (state : LockedView) (journal : JournalView) (clerk : ClerkView) (pairs : List (ℕ × Entry)) (tells : Bool) (pieces : List (List ℕ)) (faults : ℕ)
    → IsLocked state
    → IsJournaled state journal
    → clerk ≡ state.clerk
    → pairs ≡ state.stored
    → journal.tells ≡ tells
    → pieces ≡ journal.pieces
    → faults ≡ journal.faults
    → LeavesJournal state.core.setup clerk tells pieces faults (entries_of pairs)
leaves_journal state journal clerk pairs tells pieces faults kept journaled clerk_is pairs_is tells_is pieces_is faults_is = record {
  left = record {
    doubt = journal.doubt;
    has = λ told.
        subst (λ (all : List (List ℕ)). HasPiecesOf all (entries_of pairs) journal.doubt) (sym pieces_is)
        (subst (λ (own : List (ℕ × Entry)). HasPiecesOf journal.pieces (entries_of own) journal.doubt) (sym pairs_is) (journaled.pieces (subst IsTrue (sym tells_is) told)));
    failed = λ entry is told none.
        journaled.counted (halted_in journal.halted journal.doubt entry journaled.certain is) (subst IsTrue (sym tells_is) told) (sym faults_is ∙ none);
  };
  next = λ entry is.
      let come : MayComeNext state entry = subst (DoubtMayCome state) is journaled.next in
      record {
        replica = come.replica ∙ sym kept.replica ∙ ap (λ (k : ClerkView). k.replica) (sym clerk_is);
        due = subst (λ (own : List (ℕ × Entry)). IsDue state.core.setup (entries_of own) entry) (sym pairs_is) come.due;
        sent = subst (λ (k : ClerkView). WasSent k.seen entry.act) (sym clerk_is) come.sent;
      };
}

-- A node's value, where a tally with the places of all clients agrees with its book.
module _ (locked : LockedView) (journal : JournalView) (book : List ℕ) (owes : List Owe) (clients : List ℕ) (sessions : List SessionView) (tally : TallyView)
    (kept : IsLocked locked)
    (accounted : IsAccounted locked journal book owes)
    (agrees : (p : ℕ) → get_or tally.owns p 0 ≢ 0 → get_or book p 0 ≡ get_or tally.amounts p 0)
    (placed : All (λ (s : SessionView). HasPlacesOf locked.core.setup.conits s.client (numbers_of s) tally) sessions)
    (seen : All (λ (s : SessionView). s.doubt ≡ false → s.calls ≡ length (own_calls s)) sessions)
    (whole : map (λ (s : SessionView). s.client) sessions ≡ clients)
    (among : All (λ (client : ℕ). client < CLIENTS) clients)
    (apart : AllPairs (λ (one other : ℕ). one ≢ other) clients)
    (others : (client : ℕ) → client < CLIENTS → (Contains clients client → ⊥) → HasPlacesOf locked.core.setup.conits client no_numbers tally) where
  abbrev conits : ℕ
  conits = locked.core.setup.conits

  within : All (λ (s : SessionView). s.client < CLIENTS) sessions
  within = All-unmap (λ (client : ℕ). client < CLIENTS) (λ (s : SessionView). s.client) sessions (subst (All (λ (client : ℕ). client < CLIENTS)) (sym whole) among)

  -- the book has a client's numbers
  booked : (client : ℕ) (numbers : List ℕ) → HasPlacesOf conits client numbers tally → (k : ℕ) → k < 5 → get_or book (place_of conits client k) 0 ≡ get_or numbers k 0
  booked client numbers has k few = agrees (place_of conits client k) (has.owns k few) ∙ has.amounts k few

  -- a client that isn't in doubt made the calls that the book has of it
  called : (client : ℕ) (numbers : List ℕ)
      → client < CLIENTS
      → HasPlacesOf conits client numbers tally
      → get_or numbers 4 0 ≡ 0
      → calls_in (part_in locked) client ≡ get_or numbers 0 0
  called client numbers few has certain =
      let stands : standing (owe_of owes client) ≡ 0 =
      ap (λ b. if b then 1 else 0) (accounted.booked.certain client few (booked client numbers has 4 (omega arith) ∙ certain)).0 in
      let place : turns_place conits client ≡ place_of conits client 0 = omega arith in
      omega (arith, kept.turns client few, accounted.booked.turns client few, stands, ap (λ p. get_or book p 0) place, booked client numbers has 0 (omega arith))

  -- the book's numbers of all clients are those of the sessions
  abbrev column : ℕ → List ℕ
  column k = take CLIENTS (drop (conits + k * CLIENTS) book)

  width : (k : ℕ) → k < 5 → length (column k) ≡ CLIENTS
  width k few =
      length-take CLIENTS (drop (conits + k * CLIENTS) book)
      ∙ omega (arith, length-drop (conits + k * CLIENTS) book, accounted.booked.book_sized)

  column-at : (k place : ℕ) → place < CLIENTS → get_or (column k) place 0 ≡ get_or book (place_of conits place k) 0
  column-at k place few =
      get_or-take CLIENTS (drop (conits + k * CLIENTS) book) place 0 few ∙ get_or-drop (conits + k * CLIENTS) book place 0

  summed : (k : ℕ) → k < 5 → all_clients (conits + k * CLIENTS) book ≡ sum_by (λ (s : SessionView). get_or (numbers_of s) k 0) sessions
  summed k few =
      sum-placed (λ (s : SessionView). s.client) (λ (s : SessionView). get_or (numbers_of s) k 0) sessions (column k)
      (λ j d at. let s = get_or sessions j d in (
        omega (arith, width k few, within j d at),
        column-at k s.client (within j d at) ∙ booked s.client (numbers_of s) (placed j d at) k few,
      ))
      (AllPairs-from_map (λ (one other : ℕ). one ≢ other) (λ (s : SessionView). s.client) sessions (subst (AllPairs (λ (one other : ℕ). one ≢ other)) (sym whole) apart))
      (λ place at out.
      let small : place < CLIENTS = omega (arith, width k few, at) in
      column-at k place small
      ∙ booked place no_numbers (others place small (λ in_it. out (subst (λ cs. Contains cs place) (sym whole) in_it))) k few
      ∙ nothing-at k)

  -- the entries are those of the sessions, and those that restarts drew
  entries : length (part_in locked) ≡ sum_by (λ (s : SessionView). s.made) sessions + all_kept owes
  entries =
      length-map locked.stored (λ pair. pair.1) ∙ sym kept.made
      ∙ sum-added (λ (owe : Owe). owe.kept) nothing_owed owes (drop (conits + CLIENTS) locked.totals) (column 1)
      (omega (arith, length-drop (conits + CLIENTS) locked.totals, accounted.booked.totals_sized, accounted.booked.owes_sized))
      (width 1 (omega arith) ∙ sym accounted.booked.owes_sized)
      (λ place at.
      let few : place < CLIENTS = omega (arith, accounted.booked.owes_sized, at) in
      omega (arith, get_or-drop (conits + CLIENTS) locked.totals place 0, accounted.booked.made place few, column-at 1 place few))
      ∙ ap (λ n. n + all_kept owes) (summed 1 (omega arith))

  pub all-sessions : AreAllSessions clients sessions (part_in locked) journal.tells journal.faults
  all-sessions = record {
    calls = λ k d at certain.
        let s = get_or sessions k d in
        called s.client (numbers_of s) (within k d at) (placed k d at) (ap (λ b. if b then 1 else 0) certain) ∙ seen k d at certain;
    others = λ client few out. called client no_numbers few (others client few out) refl;
    kept = all_kept owes;
    made = entries;
    drawn = λ none. accounted.marked.kept (summed 2 (omega arith) ∙ none);
    faults = λ short. omega (arith, accounted.marked.faults short, summed 2 (omega arith));
    halts = λ some tells. accounted.marked.halts (λ none. some (sym (summed 3 (omega arith)) ∙ none)) tells;
  }
