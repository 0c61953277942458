-- How many entries a run makes: for the sessions of its clients, as these come back and as the replicas are settled; and so
-- what its clerks drew.
use Rattle.std.proofs.Common.{◌≡◌, ◌≢◌, ℕ, ◌+◌, ◌*◌, ◌<◌, ◌≤◌, ◌==◌, ◌||◌, zero, suc, Bool, true, false, cond, List, [], ◌∷◌, ◌++◌, All, AllPairs, Contains, filter, get_or, length, map, set, sum_by, OnOk, Result, Ok, Err, refl, sym, ap, ◌∙◌, subst, ⊎_elim, arith}
use Rattle.std.specs.List.{list_any}
use Rattle.std.proofs.lemmas.Bool.{and_parts, cases_eq, cond-true, cond-false, eq-eqb, eqb-true, false≢true, false_from_ne_true, ne_eqb, or_left, or_right}
use Rattle.std.proofs.lemmas.List.{append-nil}
use Rattle.std.proofs.lemmas.List.Elements.{Contains-get_or, filter-append}
use Rattle.std.proofs.lemmas.List.Folds.{list_any-append}
use Rattle.std.proofs.lemmas.List.Kept.{AllPairs-cons}
use Rattle.std.proofs.lemmas.List.Sums.{sum_by-cons, sum_by-le, sum_by_push}
use Rattle.tact_base.proofs.ElementLemmas.{AllPairs-first, AllPairs-nil, AllPairs-rest}
use Rattle.tact_base.proofs.PeerSums.{sum_by-each, sum_by-plus}
use Rattle.tact_base.specs.declared.limits.TheConstants.{HISTORY_MAX}
use Rattle.run_model.specs.Histories.{calls_in, is_call_of, part_of}
use Rattle.run_model.specs.declared.entry.Act.{Act}
use Rattle.run_model.specs.declared.entry.Act.TheVariants as act
use Rattle.run_model.specs.declared.entry.Entry.{Entry}
use Rattle.run_history.specs.Seats.{ClerkView, NoteView}
use Rattle.run_history.specs.Ticks.{entries_of}
use Rattle.replica_lock.specs.Sessions.{NodeView, SessionView, own_calls}
use Rattle.steady_node.specs.Going.{IsUnmarked}
use Rattle.work_load.specs.Attempts.{is_call, reach, settling}
use Rattle.work_load.specs.Clients.{is_of}
use Rattle.work_load.specs.Entries.{EachAfter}
use Rattle.work_load.specs.Ranges.{IsClientAfter}
use Rattle.work_load.specs.Workloads.{Workload}
use Rattle.work_load.specs.declared.plan.Client.{Client}
use Rattle.run_work.specs.Ends.{AreApart, AreBusy, AreCertain, AreEnds, AreFew, AreUnmarked, AreWhole, HasCome, IsBusy, IsFew, IsWhole, calls_by, clients_at, clients_by, items_of, made_by, noted_calls}
use Rattle.run_work.specs.Settling.{AreSettled, HasSameClients, HaveMadeFew, SettlingView}
use Rattle.run_work.specs.Sites.{SitesView}
use Rattle.run_work.specs.Working.{IsBusyFor}
use Rattle.run_work.specs.declared.seat.End.{End}
use Rattle.run_work.proofs.Coming.{OfEach-before, OfEach-come}
use Rattle.run_work.proofs.Ended.{AreLeft, IsLeft}
use Rattle.run_work.proofs.Noted.{is_of-among, is_of-itself}
use Rattle.run_work.proofs.Settled.{some_element}

-- a sum over what a function tells of elements
sum_by-told : {A B : Type 0} (f : A → B) (amount : B → ℕ) (xs : List A)
    → sum_by amount (map f xs) ≡ sum_by (λ x. amount (f x)) xs
sum_by-told f amount [] = refl
sum_by-told f amount (x ∷ xs) =
    omega (arith, sum_by-cons amount (f x) (map f xs), sum_by-cons (λ y. amount (f y)) x xs, sum_by-told f amount xs)

-- a sum of nothing
sum_by-none : {A : Type 0} (amount : A → ℕ) (xs : List A)
    → ((x : A) → amount x ≡ 0)
    → sum_by amount xs ≡ 0
sum_by-none amount xs none = omega (arith, sum_by-le amount 0 xs (λ at d within. omega (arith, none (get_or xs at d))))

-- one where a test passes
abbrev counted : Bool → ℕ
counted passes = cond passes 1 0

-- what a filter keeps of a list, by its first
kept-first : {A : Type 0} (test : A → Bool) (x : A) (xs : List A)
    → length (filter test (x ∷ xs)) ≡ counted (test x) + length (filter test xs)
kept-first test x xs = go (test x)
  where
    go : (passes : Bool) → length (cond passes (x ∷ filter test xs) (filter test xs)) ≡ counted passes + length (filter test xs)
    go true = omega arith
    go false = omega arith

-- numbers that differ
abbrev Differ : List ℕ → Type 0
Differ numbers = AllPairs (λ (one other : ℕ). one ≢ other) numbers

-- of numbers that differ at most one is a given one
once : (caller : ℕ) (numbers : List ℕ)
    → Differ numbers
    → sum_by (λ (number : ℕ). counted (caller == number)) numbers ≤ 1
once caller [] apart = omega arith
once caller (number ∷ numbers) apart =
    let is : ℕ → ℕ = λ n. counted (caller == n) in
    ⊎_elim
    (λ (same : caller ≡ number).
    let rest : sum_by is numbers ≤ length numbers * 0 =
    sum_by-le is 0 numbers
    (λ at d within.
    let off : (caller == get_or numbers at d) ≡ false =
    ne_eqb caller (get_or numbers at d) (λ here. AllPairs-first (λ (one other : ℕ). one ≢ other) number numbers apart at d within (sym same ∙ here)) in
    omega (arith, ap counted off)) in
    let one : is number ≡ 1 = ap counted (eq-eqb caller number same) in
    omega (arith, one, rest, sum_by-cons is number numbers))
    (λ (other : caller ≡ number → ⊥).
    let none : is number ≡ 0 = ap counted (ne_eqb caller number other) in
    omega (arith, none, sum_by-cons is number numbers, once caller numbers (AllPairs-rest (λ (one other : ℕ). one ≢ other) number numbers apart)))
    (cases_eq caller number)

-- an act is a call of at most one of clients that differ
call-once : (numbers : List ℕ) (done : Act)
    → Differ numbers
    → sum_by (λ (number : ℕ). counted (is_call_of number done)) numbers ≤ counted (is_call done)
call-once numbers (act.Call caller turn request reply) apart = once caller numbers apart
call-once numbers (act.Send message) apart = omega (arith, sum_by-none (λ (n : ℕ). 0) numbers (λ n. refl))
call-once numbers (act.Take message) apart = omega (arith, sum_by-none (λ (n : ℕ). 0) numbers (λ n. refl))
call-once numbers (act.Lend to conit amount) apart = omega (arith, sum_by-none (λ (n : ℕ). 0) numbers (λ n. refl))
call-once numbers (act.Back owner conit amount) apart = omega (arith, sum_by-none (λ (n : ℕ). 0) numbers (λ n. refl))
call-once numbers act.Restart apart = omega (arith, sum_by-none (λ (n : ℕ). 0) numbers (λ n. refl))

-- so a part's calls of such clients are at most its calls
calls_in-all : (numbers : List ℕ) (part : List Entry)
    → Differ numbers
    → sum_by (calls_in part) numbers ≤ length (filter (λ (entry : Entry). is_call entry.act) part)
calls_in-all numbers [] apart = omega (arith, sum_by-none (λ (n : ℕ). calls_in [] n) numbers (λ n. refl))
calls_in-all numbers (entry ∷ part) apart =
    let here : ℕ → ℕ = λ n. counted (is_call_of n entry.act) in
    let rest : ℕ → ℕ = λ n. calls_in part n in
    let each : sum_by (λ (n : ℕ). calls_in (entry ∷ part) n) numbers ≡ sum_by (λ (n : ℕ). here n + rest n) numbers =
    sum_by-each (λ (n : ℕ). calls_in (entry ∷ part) n) (λ (n : ℕ). here n + rest n) numbers
    (λ at d within. kept-first (λ (e : Entry). is_call_of (get_or numbers at d) e.act) entry part) in
    omega (arith, each, sum_by-plus here rest numbers, call-once numbers entry.act apart, calls_in-all numbers part apart, kept-first (λ (e : Entry). is_call e.act) entry part)

-- at the start there are no sessions
AreBusy-none_back : (end : End) → clients_by end ≡ [] → IsBusy 0 0 end
AreBusy-none_back end none = go end.sessions.items none
  where
    go : (sessions : List SessionView)
        → map (λ (session : SessionView). session.client) sessions ≡ []
        → sum_by (λ (session : SessionView). session.made) sessions ≤ 24 * (0 + sum_by (λ (session : SessionView). length (own_calls session)) sessions) + 0
    go [] none = omega arith
    go (session ∷ sessions) none = absurd (omega (arith, ap length none))

pub AreBusy-none : (seated : List Client) (sites : SitesView) (ends : List End)
    → AreEnds seated [] [] sites ends
    → AreBusy [] 0 ends
AreBusy-none seated sites ends are = λ unmarked replica none within.
    let node : NodeView = some_element sites.nodes replica (omega (arith, within, are.count)) in
    AreBusy-none_back (get_or ends replica none) (are.each replica node none within).back_are

-- the items of a replica's clients when one more is joined
items_of-here : (clients : List Client) (client : Client) (replica : ℕ)
    → client.replica ≡ replica
    → items_of (clients ++ client ∷ []) replica ≡ items_of clients replica + length client.items
items_of-here clients client replica here =
    let at : Client → Bool = λ c. c.replica == replica in
    let items : Client → ℕ = λ c. length c.items in
    ap (sum_by items) (filter-append at clients (client ∷ [])
    ∙ ap (λ (kept : List Client). filter at clients ++ kept) (cond-true (at client) (client ∷ []) [] (eq-eqb client.replica replica here)))
    ∙ sum_by_push items (filter at clients) client

items_of-elsewhere : (clients : List Client) (client : Client) (replica : ℕ)
    → (client.replica ≡ replica → ⊥)
    → items_of (clients ++ client ∷ []) replica ≡ items_of clients replica
items_of-elsewhere clients client replica elsewhere =
    let at : Client → Bool = λ c. c.replica == replica in
    let items : Client → ℕ = λ c. length c.items in
    ap (sum_by items) (filter-append at clients (client ∷ [])
    ∙ ap (λ (kept : List Client). filter at clients ++ kept) (cond-false (at client) (client ∷ []) [] (ne_eqb client.replica replica elsewhere))
    ∙ append-nil (filter at clients))

-- one more session is back
pub AreBusy-come : (clients : List Client) (client : Client) (extra : ℕ) (session : SessionView) (before after : List End)
    → IsBusyFor (length client.items) session
    → client.replica < length before
    → HasCome session client.replica before after
    → AreBusy clients extra before
    → AreBusy (clients ++ client ∷ []) extra after
AreBusy-come clients client extra session before after busy_for there come are = λ unmarked replica none within.
    let inside : replica < length before = omega (arith, come.count, within) in
    let was : IsBusy (items_of clients replica) extra (get_or before replica none) =
    are (OfEach-before IsUnmarked session client.replica before after there come unmarked) replica none inside in
    let busy : session.made ≤ 24 * (length client.items + length (own_calls session)) = busy_for (OfEach-come IsUnmarked session client.replica before after there come none unmarked) in
    ⊎_elim
    (λ (here : replica ≡ client.replica).
    let made : SessionView → ℕ = λ s. s.made in
    let calls : SessionView → ℕ = λ s. length (own_calls s) in
    let sessions : List SessionView = (get_or before replica none).sessions.items in
    let more : (get_or after replica none).sessions.items ≡ sessions ++ session ∷ [] =
    subst (λ (r : ℕ). (get_or after r none).sessions.items ≡ (get_or before r none).sessions.items ++ session ∷ []) (sym here) (come.sessions none) in
    omega (
      arith,
      was,
      busy,
      items_of-here clients client replica (sym here),
      ap (sum_by made) more ∙ sum_by_push made sessions session,
      ap (sum_by calls) more ∙ sum_by_push calls sessions session,
    ))
    (λ (other : replica ≡ client.replica → ⊥).
    subst (λ (items : ℕ). IsBusy items extra (get_or after replica none)) (sym (items_of-elsewhere clients client replica (λ same. other (sym same))))
    (subst (IsBusy (items_of clients replica) extra) (sym (come.others replica none other)) was))
    (cases_eq replica client.replica)

-- an end's calls are those that its clients' notes have
calls_by-noted : (clients : List Client) (notes : List NoteView) (replica : ℕ) (node : NodeView) (end : End)
    → IsWhole clients notes replica node end
    → calls_by end ≡ sum_by (λ (number : ℕ). length (noted_calls clients notes replica number)) (clients_by end)
calls_by-noted clients notes replica node end is =
    let noted : ℕ → ℕ = λ number. length (noted_calls clients notes replica number) in
    sum_by-each (λ (s : SessionView). length (own_calls s)) (λ (s : SessionView). noted s.client) end.sessions.items (λ at d within. ap length (is.calls at d within))
    ∙ sym (sum_by-told (λ (s : SessionView). s.client) noted end.sessions.items)

-- so they stay, where it has the same clients
calls_by-stay : (clients : List Client) (notes : List NoteView) (replica : ℕ) (node other : NodeView) (before after : End)
    → IsWhole clients notes replica node before
    → IsWhole clients notes replica other after
    → HasSameClients before after
    → calls_by before ≤ calls_by after
calls_by-stay clients notes replica node other before after was is same =
    let noted : ℕ → ℕ = λ number. length (noted_calls clients notes replica number) in
    let one = calls_by-noted clients notes replica node before was in
    let two = calls_by-noted clients notes replica other after is in
    ⊎_elim
    (λ (kept : clients_by after ≡ clients_by before). omega (arith, one, two, ap (sum_by noted) kept))
    (λ (new : (clients_by before ≡ []) × (clients_by after ≡ 0 ∷ [])). omega (arith, one, ap (sum_by noted) new.0))
    same

-- the replicas are settled, for each of which so many more entries were made
pub AreBusy-settled : (noted clients : List Client) (notes : List NoteView) (extra more : ℕ) (before after : SettlingView)
    → AreWhole noted notes before.nodes before.ends
    → AreSettled before after
    → (AreUnmarked after.ends → (replica : ℕ) (none : End) → replica < length before.ends → made_by (get_or after.ends replica none) ≤ made_by (get_or before.ends replica none) + more)
    → AreBusy clients extra before.ends
    → AreBusy clients (extra + more) after.ends
AreBusy-settled noted clients notes extra more before after whole settled few busy = λ unmarked replica none within.
    let inside : replica < length before.ends = omega (arith, within, settled.count) in
    let node : NodeView = some_element before.nodes replica (omega (arith, inside, whole.count)) in
    let calls =
    calls_by-stay noted notes replica (get_or before.nodes replica node) (get_or after.nodes replica node) (get_or before.ends replica none) (get_or after.ends replica none)
    (whole.each replica node none inside) ((settled.ends noted notes whole).each replica node none within) (settled.clients replica none inside) in
    omega (arith, busy (settled.unmarked unmarked) replica none inside, few unmarked replica none inside, calls)

-- by so many rounds, where there are any
pub AreBusy-rounds : {A E : Type 0} (answer : Result A E) (noted clients : List Client) (notes : List NoteView) (rounds : ℕ) (before after : SettlingView)
    → (rounds ≡ 0 → ⊥)
    → AreWhole noted notes before.nodes before.ends
    → OnOk answer (AreSettled before after)
    → OnOk answer (AreUnmarked after.ends → HaveMadeFew rounds before after)
    → AreBusy clients 0 before.ends
    → OnOk answer (AreBusy clients (settling rounds) after.ends)
AreBusy-rounds (Ok end) noted clients notes rounds before after some whole settled few busy =
    let most : ℕ = 1024 + 21 * rounds in
    let is : settling rounds ≡ 0 + most = cond-false (rounds == 0) 0 most (ne_eqb rounds 0 some) ∙ omega arith in
    subst (λ (extra : ℕ). AreBusy clients extra after.ends) (sym is) (AreBusy-settled noted clients notes 0 most before after whole settled few busy)
AreBusy-rounds (Err fault) noted clients notes rounds before after some whole settled few busy = tt

-- and their clients still differ
pub AreApart-settled : (before after : SettlingView)
    → AreSettled before after
    → AreApart before.ends
    → AreApart after.ends
AreApart-settled before after settled apart = λ replica none within.
    let inside : replica < length before.ends = omega (arith, within, settled.count) in
    ⊎_elim
    (λ (kept : clients_by (get_or after.ends replica none) ≡ clients_by (get_or before.ends replica none)). subst Differ (sym kept) (apart replica none inside))
    (λ (new : (clients_by (get_or before.ends replica none) ≡ []) × (clients_by (get_or after.ends replica none) ≡ 0 ∷ [])).
    subst Differ (sym new.1) (λ i j d less below. absurd (omega arith)))
    (settled.clients replica none inside)

-- no client of a plan is of the replica and under the number of one before it
is_of-other : (replica number : ℕ) (before : List Client) (client : Client)
    → list_any (is_of replica number) before ≡ true
    → list_any (is_of client.replica client.client) before ≡ false
    → is_of replica number client ≡ false
is_of-other replica number before client any other =
    false_from_ne_true (is_of replica number client)
    (λ is.
    let parts = and_parts (client.replica == replica) (client.client == number) is in
    let there : list_any (is_of client.replica client.client) before ≡ true =
    subst (λ (r : ℕ). list_any (is_of r client.client) before ≡ true) (sym (eqb-true client.replica replica parts.0))
    (subst (λ (n : ℕ). list_any (is_of replica n) before ≡ true) (sym (eqb-true client.client number parts.1)) any) in
    false≢true (sym other ∙ there))

none_later : (replicas conits replica number : ℕ) (before clients : List Client)
    → list_any (is_of replica number) before ≡ true
    → EachAfter (IsClientAfter replicas conits) before clients
    → list_any (is_of replica number) clients ≡ false
none_later replicas conits replica number before [] any each = refl
none_later replicas conits replica number before (client ∷ clients) any each =
    let test : Client → Bool = is_of replica number in
    ap (λ (passes : Bool). passes || list_any test clients) (is_of-other replica number before client any each.0.other)
    ∙ none_later replicas conits replica number (before ++ client ∷ []) clients
    (list_any-append test before (client ∷ []) ∙ or_left (list_any test before) (list_any test (client ∷ [])) any) each.1

-- so the numbers of a replica's clients differ
clients_at-differ : (replicas conits replica : ℕ) (before clients : List Client)
    → EachAfter (IsClientAfter replicas conits) before clients
    → Differ (clients_at clients replica)
clients_at-differ replicas conits replica before [] each = AllPairs-nil (λ (one other : ℕ). one ≢ other)
clients_at-differ replicas conits replica before (client ∷ clients) each =
    let rest = clients_at-differ replicas conits replica (before ++ client ∷ []) clients each.1 in
    let numbers : List ℕ = clients_at clients replica in
    let kept : List Client = filter (λ (c : Client). c.replica == replica) clients in
    ⊎_elim
    (λ (here : client.replica ≡ replica).
    let test : Client → Bool = is_of replica client.client in
    let itself : test client ≡ true = subst (λ (r : ℕ). is_of r client.client client ≡ true) here (is_of-itself client) in
    let none : list_any test clients ≡ false =
    none_later replicas conits replica client.client (before ++ client ∷ []) clients
    (list_any-append test before (client ∷ []) ∙ or_right (list_any test before) (list_any test (client ∷ [])) (or_left (test client) false itself)) each.1 in
    subst Differ (sym (ap (map (λ (c : Client). c.client)) (cond-true (client.replica == replica) (client ∷ kept) kept (eq-eqb client.replica replica here))))
    (AllPairs-cons (λ (one other : ℕ). one ≢ other) client.client numbers
    (λ at d within same.
    false≢true (sym none ∙ is_of-among clients replica client.client (subst (Contains numbers) (sym same) (Contains-get_or numbers at d within))))
    rest))
    (λ (elsewhere : client.replica ≡ replica → ⊥).
    subst Differ (sym (ap (map (λ (c : Client). c.client)) (cond-false (client.replica == replica) (client ∷ kept) kept (ne_eqb client.replica replica elsewhere)))) rest)
    (cases_eq client.replica replica)

-- when all sessions are back, those of a replica are of different clients
pub AreApart-back : (replicas conits : ℕ) (clients : List Client) (notes : List NoteView) (sites : SitesView) (ends : List End)
    → EachAfter (IsClientAfter replicas conits) [] clients
    → AreEnds clients clients notes sites ends
    → AreApart ends
AreApart-back replicas conits clients notes sites ends each are = λ replica none within.
    let node : NodeView = some_element sites.nodes replica (omega (arith, within, are.count)) in
    subst Differ (sym (are.each replica node none within).back_are) (clients_at-differ replicas conits replica [] clients each)

-- what a node's clerk drew
IsFew-left : (items extra : ℕ) (node : NodeView) (end : End) (clerk : ClerkView)
    → IsLeft node end clerk
    → All IsUnmarked end.sessions.items
    → All (λ (session : SessionView). session.doubt ≡ false) end.sessions.items
    → Differ (clients_by end)
    → IsBusy items extra end
    → IsFew items extra (entries_of clerk.pairs)
IsFew-left items extra node end clerk left unmarked certain apart busy =
    let part : List Entry = entries_of clerk.pairs in
    let seen : sum_by (λ (s : SessionView). calls_in part s.client) end.sessions.items ≡ calls_by end =
    sum_by-each (λ (s : SessionView). calls_in part s.client) (λ (s : SessionView). length (own_calls s)) end.sessions.items
    (λ at d within. left.sessions.calls at d within (certain at d within)) in
    omega (arith, left.sessions.made unmarked, busy, seen, sum_by-told (λ (s : SessionView). s.client) (calls_in part) end.sessions.items, calls_in-all (clients_by end) part apart)

pub AreFew-left : (clients : List Client) (extra : ℕ) (nodes : List NodeView) (ends : List End) (clerks : List ClerkView)
    → length clerks ≡ length nodes
    → length ends ≡ length nodes
    → AreLeft nodes ends clerks
    → AreUnmarked ends
    → AreCertain ends
    → AreBusy clients extra ends
    → AreApart ends
    → AreFew clients extra clerks
AreFew-left clients extra nodes ends clerks size count left unmarked certain busy apart = λ replica none within.
    let there : replica < length ends = omega (arith, size, count, within) in
    let node : NodeView = some_element nodes replica (omega (arith, size, within)) in
    let end : End = some_element ends replica there in
    IsFew-left (items_of clients replica) extra (get_or nodes replica node) (get_or ends replica end) (get_or clerks replica none)
    (left replica node end none within) (unmarked replica end there) (certain replica end there) (apart replica end there) (busy unmarked replica end there)

-- the first clerk has seen more
pub AreFew-heard : (clients : List Client) (extra : ℕ) (clerks : List ClerkView) (after : ClerkView)
    → 0 < length clerks
    → ((none : ClerkView) → after ≡ record (get_or clerks 0 none) { seen = after.seen })
    → AreFew clients extra clerks
    → AreFew clients extra (set clerks 0 after)
AreFew-heard clients extra clerks after some same few = λ replica none within. go clerks replica none some same few within
  where
    go : (clerks : List ClerkView) (replica : ℕ) (none : ClerkView)
        → 0 < length clerks
        → ((none : ClerkView) → after ≡ record (get_or clerks 0 none) { seen = after.seen })
        → AreFew clients extra clerks
        → replica < length (set clerks 0 after)
        → IsFew (items_of clients replica) extra (entries_of (get_or (set clerks 0 after) replica none).pairs)
    go [] replica none some same few within = absurd (omega (arith, some))
    go (first ∷ clerks) zero none some same few within =
        subst (λ (clerk : ClerkView). IsFew (items_of clients 0) extra (entries_of clerk.pairs)) (sym (same none)) (few 0 none some)
    go (first ∷ clerks) (suc replica) none some same few within = few (suc replica) none within

-- a full replica reached what the plan asks for
pub reached_by : (plan : Workload) (history part : List Entry) (replica : ℕ)
    → part_of history replica ≡ part
    → length (part_of history replica) ≡ HISTORY_MAX
    → IsFew (items_of plan.clients replica) (settling plan.settle) part
    → HISTORY_MAX ≤ reach plan history replica
unfolding reach
reached_by plan history part replica same full few =
    let drawn : IsFew (items_of plan.clients replica) (settling plan.settle) (part_of history replica) =
    subst (IsFew (items_of plan.clients replica) (settling plan.settle)) (sym same) few in
    omega (arith, full, drawn)
