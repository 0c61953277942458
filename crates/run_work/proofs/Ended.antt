-- What nodes leave when they end.
use Rattle.std.proofs.Common.{◌≡◌, ℕ, ◌+◌, ◌<◌, ◌≤◌, ◌⊎◌, inl, inr, Bool, false, List, [], ◌∷◌, ◌++◌, All, Contains, drop, length, get_or, map, refl, sym, ap, ◌∙◌, subst, ⊎_elim, arith}
use Rattle.std.specs.List.{list_any}
use Rattle.std.specs.Prelude.{IsTrue, sum_by}
use Rattle.std.proofs.lemmas.Bool.{cases_eq, cases_lt, false_from_ne_true}
use Rattle.std.proofs.lemmas.List.{append-nil, drop-drop, get_or-drop, get_or_append_left, get_or_at, get_or_push, length-append, length_push, nil_from_length}
use Rattle.std.proofs.lemmas.List.Elements.{All-cons, All-head, All-nil, All-tail}
use Rattle.std.proofs.lemmas.List.Sums.{sum_by-cons, sum_by-le}
use Rattle.tact_base.proofs.ElementLemmas.{Contains-cases, Contains-first, Contains-later, Contains-none}
use Rattle.tact_base.specs.declared.limits.TheConstants.{CLIENTS, REPLICAS_MAX}
use Rattle.run_model.specs.Histories.{calls_in}
use Rattle.run_model.specs.declared.entry.Entry.{Entry}
use Rattle.run_history.specs.Seats.{ClerkView, DeskView, NoteView}
use Rattle.run_history.specs.Ticks.{entries_of}
use Rattle.replica_lock.specs.Rosters.{AreAllSessions}
use Rattle.replica_lock.specs.Sessions.{NodeView, SessionView, own_calls}
use Rattle.steady_node.specs.Going.{IsUnmarked}
use Rattle.work_load.specs.Clients.{is_of}
use Rattle.work_load.specs.declared.plan.Client.{Client}
use Rattle.run_work.specs.Ends.{AreCertain, AreDrawn, AreWhole, HaveDrawn, IsWhole, noted_calls}
use Rattle.run_work.specs.Sites.{AreNumbered, IsNodeAt}
use Rattle.run_work.specs.declared.closing.Drawn.{Drawn}
use Rattle.run_work.specs.declared.seat.End.{End}
use Rattle.run_work.proofs.Noted.{among-is_of, noted_calls-none}

-- The sessions of a node that has ended: of the client of each that isn't in doubt the part has as many calls as the
-- session has seen, of others none; and where none is marked the entries are those made for all sessions.
pub record AreAll (clients : List ℕ) (sessions : List SessionView) (part : List Entry) : Type 0 where
  pub calls : All (λ (session : SessionView). session.doubt ≡ false → calls_in part session.client ≡ length (own_calls session)) sessions
  pub others : (client : ℕ) → client < CLIENTS → (Contains clients client → ⊥) → calls_in part client ≡ 0
  pub made : All IsUnmarked sessions → length part ≡ sum_by (λ (session : SessionView). session.made) sessions

-- sums of nothing, and what is of no sum
sum_of_none : (amount : SessionView → ℕ) (sessions : List SessionView)
    → All (λ (session : SessionView). amount session ≡ 0) sessions
    → sum_by amount sessions ≡ 0
sum_of_none amount sessions none = omega (arith, sum_by-le amount 0 sessions (λ at d within. omega (arith, none at d within)))

none_of_sum : (amount : SessionView → ℕ) (sessions : List SessionView)
    → sum_by amount sessions ≡ 0
    → All (λ (session : SessionView). amount session ≡ 0) sessions
none_of_sum amount [] none = All-nil (λ (session : SessionView). amount session ≡ 0)
none_of_sum amount (session ∷ sessions) none =
    let parts = sum_by-cons amount session sessions in
    All-cons (λ (one : SessionView). amount one ≡ 0) session sessions (omega (arith, none, parts)) (none_of_sum amount sessions (omega (arith, none, parts)))

pub AreAll-of : (clients : List ℕ) (sessions : List SessionView) (part : List Entry) (tells : Bool) (count : ℕ)
    → AreAllSessions clients sessions part tells count
    → AreAll clients sessions part
AreAll-of clients sessions part tells count are = record {
  calls = are.calls;
  others = are.others;
  made = λ unmarked.
      let none : sum_by (λ (session : SessionView). session.faults) sessions ≡ 0 =
      sum_of_none (λ (session : SessionView). session.faults) sessions (λ at d within. (unmarked at d within).0) in
      omega (arith, are.made, are.drawn none);
}

-- over a journal that counted no fault no session marked one, and where it tells its pieces none is marked
pub faultless_of : (clients : List ℕ) (sessions : List SessionView) (part : List Entry) (tells : Bool)
    → AreAllSessions clients sessions part tells 0
    → All (λ (session : SessionView). session.faults ≡ 0) sessions
faultless_of clients sessions part tells are =
    none_of_sum (λ (session : SessionView). session.faults) sessions (omega (arith, are.faults (omega arith)))

pub unmarked_of : (clients : List ℕ) (sessions : List SessionView) (part : List Entry) (tells : Bool)
    → AreAllSessions clients sessions part tells 0
    → IsTrue tells
    → All IsUnmarked sessions
unmarked_of clients sessions part tells are told =
    let halts : sum_by (λ (session : SessionView). session.halts) sessions ≡ 0 =
    ⊎_elim
    (λ (none : sum_by (λ (session : SessionView). session.halts) sessions ≡ 0). none)
    (λ (some : sum_by (λ (session : SessionView). session.halts) sessions ≡ 0 → ⊥). absurd (are.halts some told refl))
    (cases_eq (sum_by (λ (session : SessionView). session.halts) sessions) 0) in
    λ at d within.
    (faultless_of clients sessions part tells are at d within, none_of_sum (λ (session : SessionView). session.halts) sessions halts at d within)

-- the clerk that a node left, and of which calls its part is
pub record IsLeft (node : NodeView) (end : End) (clerk : ClerkView) : Type 0 where
  pub table : clerk.table ≡ node.desk.table
  pub replica : clerk.replica ≡ node.replica
  pub sessions : AreAll end.roster.clients end.sessions.items (entries_of clerk.pairs)

-- one of each of the first nodes
abbrev pub AreLeft : List NodeView → List End → List ClerkView → Type 0
AreLeft nodes ends clerks = (replica : ℕ) (no_node : NodeView) (no_end : End) (none : ClerkView) → replica < length clerks
    → IsLeft (get_or nodes replica no_node) (get_or ends replica no_end) (get_or clerks replica none)

-- an element after some others, and those behind it
pub stands_at : {A : Type 0} (before : List A) (one : A) (after all : List A) (d : A)
    → before ++ one ∷ after ≡ all
    → get_or all (length before) d ≡ one
stands_at before one after all d whole = ap (λ (xs : List _). get_or xs (length before) d) (sym whole) ∙ get_or_at before one after d (length before) refl

pub count_at : {A : Type 0} (before : List A) (one : A) (after all : List A)
    → before ++ one ∷ after ≡ all
    → length before < length all
count_at before one after all whole = omega (arith, ap length whole, length-append before (one ∷ after))

-- all were there when none is left
pub all_there : {A : Type 0} (before rest all : List A)
    → before ++ rest ≡ all
    → length rest ≡ 0
    → before ≡ all
all_there before rest all whole none =
    sym (append-nil before) ∙ ap (λ (items : List _). before ++ items) (sym (nil_from_length rest none)) ∙ whole

-- the first that are left behind some, and the others
pub first_dropped : {A : Type 0} (all : List A) (at : ℕ) (one : A) (rest : List A) (d : A)
    → one ∷ rest ≡ drop at all
    → get_or all at d ≡ one
first_dropped all at one rest d is =
    let here : at ≡ at + 0 = omega arith in
    ap (λ (k : ℕ). get_or all k d) here ∙ sym (get_or-drop at all 0 d) ∙ ap (λ (xs : List _). get_or xs 0 d) (sym is)

pub rest_dropped : {A : Type 0} (all : List A) (at : ℕ) (one : A) (rest : List A)
    → one ∷ rest ≡ drop at all
    → rest ≡ drop (at + 1) all
rest_dropped all at one rest is = ap (drop 1) is ∙ drop-drop 1 at all

-- what holds of each element of a list and of one more holds of each of the longer list
pub at_push : {A : Type 0} (P : ℕ → A → Type 0) (xs : List A) (x : A)
    → ((k : ℕ) (d : A) → k < length xs → P k (get_or xs k d))
    → P (length xs) x
    → (k : ℕ) (d : A) → k < length (xs ++ x ∷ []) → P k (get_or (xs ++ x ∷ []) k d)
at_push P xs x each last k d within =
    ⊎_elim
    (λ (below : k < length xs). subst (P k) (sym (get_or_append_left xs (x ∷ []) d k below)) (each k d below))
    (λ above.
    let here : k ≡ length xs = omega (arith, length_push xs x, within, above) in
    subst (λ (at : ℕ). P at (get_or (xs ++ x ∷ []) at d)) (sym here) (subst (P (length xs)) (sym (get_or_push xs x d (length xs) refl)) last))
    (cases_lt k (length xs))

-- one more node has left its clerk
pub AreLeft-more : (nodes : List NodeView) (ends : List End) (clerks : List ClerkView) (node : NodeView) (end : End) (clerk : ClerkView)
    → length clerks ≡ length nodes
    → ((d : End) → get_or ends (length nodes) d ≡ end)
    → IsLeft node end clerk
    → AreLeft nodes ends clerks
    → AreLeft (nodes ++ node ∷ []) ends (clerks ++ clerk ∷ [])
AreLeft-more nodes ends clerks node end clerk size stands one are =
    λ replica no_node no_end none within.
    ⊎_elim
    (λ (below : replica < length clerks).
    let inside : replica < length nodes = omega (arith, size, below) in
    subst (λ (n : NodeView). IsLeft n (get_or ends replica no_end) (get_or (clerks ++ clerk ∷ []) replica none)) (sym (get_or_append_left nodes (node ∷ []) no_node replica inside))
    (subst (IsLeft (get_or nodes replica no_node) (get_or ends replica no_end)) (sym (get_or_append_left clerks (clerk ∷ []) none replica below))
    (are replica no_node no_end none below)))
    (λ above.
    let here : replica ≡ length nodes = omega (arith, size, length_push clerks clerk, within, above) in
    let same : replica ≡ length clerks = here ∙ sym size in
    subst (λ (n : NodeView). IsLeft n (get_or ends replica no_end) (get_or (clerks ++ clerk ∷ []) replica none)) (sym (get_or_push nodes node no_node replica (sym here)))
    (subst (λ (e : End). IsLeft node e (get_or (clerks ++ clerk ∷ []) replica none)) (sym (ap (λ (k : ℕ). get_or ends k no_end) here ∙ stands no_end))
    (subst (IsLeft node end) (sym (get_or_push clerks clerk none replica (sym same))) one)))
    (cases_lt replica (length clerks))

-- a number is among others or not
found : (numbers : List ℕ) (number : ℕ) → Contains numbers number ⊎ (Contains numbers number → ⊥)
found [] number = inr (Contains-none number)
found (first ∷ numbers) number =
    ⊎_elim
    (λ (same : first ≡ number). inl (Contains-first first number numbers same))
    (λ (other : first ≡ number → ⊥).
    ⊎_elim
    (λ (behind : Contains numbers number). inl (Contains-later first number numbers behind))
    (λ (none : Contains numbers number → ⊥). inr (λ within. ⊎_elim other none (Contains-cases first number numbers within)))
    (found numbers number))
    (cases_eq first number)

-- what holds of each session holds of one that has a number
of_number : (P : SessionView → Type 0) (sessions : List SessionView) (number : ℕ)
    → All P sessions
    → Contains (map (λ (session : SessionView). session.client) sessions) number
    → (session : SessionView) × (session.client ≡ number) × P session
of_number P [] number all within = absurd (Contains-none number within)
of_number P (first ∷ sessions) number all within =
    ⊎_elim
    (λ (same : first.client ≡ number). (first, same, All-head P first sessions all))
    (λ (behind : Contains (map (λ (session : SessionView). session.client) sessions) number). of_number P sessions number (All-tail P first sessions all) behind)
    (Contains-cases first.client number (map (λ (session : SessionView). session.client) sessions) within)

-- of each client the part has the calls that the client's note has seen
calls_drawn : (clients : List Client) (notes : List NoteView) (replica : ℕ) (node : NodeView) (end : End) (part : List Entry)
    → IsWhole clients notes replica node end
    → All (λ (session : SessionView). session.doubt ≡ false) end.sessions.items
    → AreAll end.roster.clients end.sessions.items part
    → (number : ℕ) → number < CLIENTS
    → calls_in part number ≡ length (noted_calls clients notes replica number)
calls_drawn clients notes replica node end part whole certain are number below =
    let HasCalls : SessionView → Type 0 = λ session.
    (calls_in part session.client ≡ length (own_calls session)) × (own_calls session ≡ noted_calls clients notes replica session.client) in
    ⊎_elim
    (λ (within : Contains end.roster.clients number).
    let one = of_number HasCalls end.sessions.items number (λ k d inside. (are.calls k d inside (certain k d inside), whole.calls k d inside))
    (subst (λ (numbers : List ℕ). Contains numbers number) (sym whole.whole) within) in
    subst (λ (n : ℕ). calls_in part n ≡ length (noted_calls clients notes replica n)) one.1 (one.2.0 ∙ ap length one.2.1))
    (λ (none : Contains end.roster.clients number → ⊥).
    are.others number below none
    ∙ sym (ap length (noted_calls-none clients notes replica number
    (false_from_ne_true (list_any (is_of replica number) clients) (λ any. none (whole.among number (among-is_of clients replica number any)))))))
    (found end.roster.clients number)

-- an element of a list that has one at a place
some_of : {A : Type 0} (xs : List A) (at : ℕ) → at < length xs → A
some_of [] at within = absurd (omega (arith, within))
some_of (x ∷ xs) at within = x

-- so the clerks that nodes left are drawn
pub AreDrawn-left : (desk : DeskView) (nodes : List NodeView) (ends : List End) (drawn : Drawn)
    → length drawn.clerks.items ≡ length nodes
    → length ends ≡ length nodes
    → length nodes ≡ desk.setup.replicas
    → ((replica : ℕ) (none : NodeView) → replica < length nodes → IsNodeAt desk replica (get_or nodes replica none))
    → map (λ part. part.items) drawn.parts.items ≡ map (λ (clerk : ClerkView). clerk.pairs) drawn.clerks.items
    → AreLeft nodes ends drawn.clerks.items
    → AreDrawn desk drawn
AreDrawn-left desk nodes ends drawn size count replicas at parts left =
    let each : (replica : ℕ) (none : ClerkView) → replica < length drawn.clerks.items
    → ((get_or drawn.clerks.items replica none).table ≡ desk.table) × ((get_or drawn.clerks.items replica none).replica ≡ replica) =
    λ replica none within.
    let inside : replica < length nodes = omega (arith, size, within) in
    let node : NodeView = some_of nodes replica inside in
    let end : End = some_of ends replica (omega (arith, inside, count)) in
    let is = left replica node end none within in
    let stands = at replica node inside in
    (is.table ∙ ap (λ (d : DeskView). d.table) stands.0, is.replica ∙ stands.1) in
    record {
      count = size ∙ replicas;
      table = λ replica none within. (each replica none within).0;
      replica_is = λ replica none within. (each replica none within).1;
      parts = parts;
    }

-- and of each client that has the calls that the client's note has seen, where no session is in doubt
pub HaveDrawn-left : (clients : List Client) (notes : List NoteView) (nodes : List NodeView) (ends : List End) (drawn : Drawn)
    → length drawn.clerks.items ≡ length nodes
    → AreWhole clients notes nodes ends
    → AreLeft nodes ends drawn.clerks.items
    → AreCertain ends
    → HaveDrawn clients notes drawn
HaveDrawn-left clients notes nodes ends drawn size whole left certain = λ replica number none within below.
    let inside : replica < length nodes = omega (arith, size, within) in
    let there : replica < length ends = omega (arith, inside, whole.count) in
    let node : NodeView = some_of nodes replica inside in
    let end : End = some_of ends replica there in
    calls_drawn clients notes replica (get_or nodes replica node) (get_or ends replica end) (entries_of (get_or drawn.clerks.items replica none).pairs)
    (whole.each replica node end there) (certain replica end there) (left replica node end none within).sessions number below

-- a clerk is that of the replica of its place
pub numbered_left : (nodes before after : List NodeView) (ends : List End) (clerks : List ClerkView)
    → before ++ after ≡ nodes
    → AreNumbered nodes
    → length clerks ≡ length before
    → AreLeft before ends clerks
    → length before ≤ length ends
    → (replica : ℕ) (none : ClerkView) → replica < length clerks
    → (get_or clerks replica none).replica ≡ replica
numbered_left nodes before after ends clerks whole numbered size left enough replica none within =
    let inside : replica < length before = omega (arith, size, within) in
    let node : NodeView = some_of before replica inside in
    let end : End = some_of ends replica (omega (arith, inside, enough)) in
    let here : replica < length nodes = omega (arith, inside, ap length whole, length-append before after) in
    let stands : get_or nodes replica node ≡ get_or before replica node =
    ap (λ (all : List NodeView). get_or all replica node) (sym whole) ∙ get_or_append_left before after node replica inside in
    (left replica node end none within).replica ∙ ap (λ (n : NodeView). n.replica) (sym stands) ∙ numbered.number replica node here

-- the node at a place has its number
pub number_at : (nodes before after : List NodeView) (node : NodeView)
    → before ++ node ∷ after ≡ nodes
    → AreNumbered nodes
    → (node.replica ≡ length before) × (length before < REPLICAS_MAX)
number_at nodes before after node whole numbered =
    let inside : length before < length nodes = count_at before node after nodes whole in
    (ap (λ (n : NodeView). n.replica) (sym (stands_at before node after nodes node whole)) ∙ numbered.number (length before) node inside, omega (arith, inside, numbered.few))
