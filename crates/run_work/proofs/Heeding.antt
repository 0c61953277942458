-- Calls that wait, and the messages that follow them.
use Rattle.std.proofs.Common.{◌≡◌, ◌≢◌, ◌⊎◌, ℕ, ◌<◌, ◌==◌, true, List, [], ◌∷◌, ◌++◌, IfSome, Option, Some, None, filter, length, drop, refl, sym, ap, ap₂, ◌∙◌, subst, inl, inr, ⊎_elim, arith}
use Rattle.std.specs.Prelude.{Err, IfOk, Ok, OnErr, OnOk, Result}
use Rattle.std.proofs.lemmas.Bool.{eq-eqb}
use Rattle.std.proofs.lemmas.List.{append_assoc, append_cancel_left, append_cancel_right, length-append, nil_from_length}
use Rattle.std.proofs.lemmas.List.Elements.{filter-append}
use Rattle.tact_base.proofs.ListLemmas.{All-one, filter_all}
use Rattle.tact_base.specs.Setup.{Setup, IsSetup}
use Rattle.anti_entropy.specs.Wishes.{wish_of}
use Rattle.run_model.specs.Histories.{IsPrefix, calls_of, is_call_of, part_of}
use Rattle.run_model.specs.declared.call.Reply.{Reply}
use Rattle.run_model.specs.declared.call.Reply.TheVariants as reply
use Rattle.run_model.specs.declared.call.Request.{Request}
use Rattle.run_model.specs.declared.entry.Act.TheVariants as act
use Rattle.run_model.specs.declared.entry.Entry.{Entry}
use Rattle.run_model.specs.declared.entry.Message.{Message}
use Rattle.run_model.proofs.PrefixLemmas.{IsPrefix-trans}
use Rattle.locked_replica.specs.Parcels.{ParcelView}
use Rattle.locked_replica.specs.declared.fault.NodeFault.{NodeFault}
use Rattle.replica_lock.specs.Sessions.{HasCalled, HasSent, NodeView, SessionView, call_after, entry_after, own_calls}
use Rattle.steady_node.specs.Answered.{IsAnswered}
use Rattle.steady_node.specs.Going.{GoesOn, IsUnmarked}
use Rattle.steady_node.proofs.Goings.{client-on, replica-on}
use Rattle.run_work.specs.Holding.{IsQuiet}
use Rattle.run_work.specs.Served.{IsSending, wish_in}
use Rattle.run_work.specs.Serving.{AreHeededBut, HasSentTo, IsHeededBut, IsOther, Owes, owed_by}
use Rattle.run_work.specs.Trying.{tried_by}
use Rattle.run_work.specs.declared.trying.Tried.{Tried}
use Rattle.run_work.specs.declared.trying.Tried.TheVariants.{Final}
use Rattle.run_work.proofs.Wishes.{wish-more}

-- an element of two lists joined stands in the first or in the second
pub split_cases : {A : Type 0} (xs ys front rest : List A) (x : A)
    → xs ++ ys ≡ front ++ x ∷ rest
    → ((more : List A) × (xs ≡ front ++ x ∷ more) × (rest ≡ more ++ ys))
    ⊎ ((more : List A) × (front ≡ xs ++ more) × (ys ≡ more ++ x ∷ rest))
split_cases [] ys front rest x is = inr (front, refl, is)
split_cases {A} (first ∷ xs) ys [] rest x is =
    let head : first ≡ x = cc in
    inl (xs, ap (λ (y : A). y ∷ xs) head, sym (ap (λ (list : List A). drop 1 list) is))
split_cases {A} (first ∷ xs) ys (one ∷ front) rest x is =
    let head : first ≡ one = cc in
    ⊎_elim
    (λ (here : (more : List A) × (xs ≡ front ++ x ∷ more) × (rest ≡ more ++ ys)). inl (here.0, ap₂ (λ (y : A) (l : List A). y ∷ l) head here.1, here.2))
    (λ (there : (more : List A) × (front ≡ xs ++ more) × (ys ≡ more ++ x ∷ rest)). inr (there.0, ap₂ (λ (y : A) (l : List A). y ∷ l) (sym head) there.1, there.2))
    (split_cases xs ys front rest x (ap (λ (list : List A). drop 1 list) is))

-- the calls of a client in two histories, one after the other
pub calls_of-append : (seen more : List Entry) (replica client : ℕ)
    → calls_of (seen ++ more) replica client ≡ calls_of seen replica client ++ calls_of more replica client
calls_of-append seen more replica client =
    ap (filter (λ (entry : Entry). is_call_of client entry.act)) (filter-append (λ (entry : Entry). entry.replica == replica) seen more)
    ∙ filter-append (λ (entry : Entry). is_call_of client entry.act) (part_of seen replica) (part_of more replica)

-- a call is among them
one_call : (call : Entry) (replica client : ℕ)
    → call.replica ≡ replica
    → is_call_of client call.act ≡ true
    → calls_of (call ∷ []) replica client ≡ call ∷ []
one_call call replica client at own =
    ap (filter (λ (entry : Entry). is_call_of client entry.act))
    (filter_all (λ (entry : Entry). entry.replica == replica) (call ∷ []) (All-one (λ (entry : Entry). entry.replica == replica ≡ true) call (eq-eqb call.replica replica at)))
    ∙ filter_all (λ (entry : Entry). is_call_of client entry.act) (call ∷ []) (All-one (λ (entry : Entry). is_call_of client entry.act ≡ true) call own)

pub has_call : (front rest : List Entry) (call : Entry) (replica client : ℕ)
    → call.replica ≡ replica
    → is_call_of client call.act ≡ true
    → calls_of (front ++ call ∷ rest) replica client ≡ []
    → ⊥
has_call front rest call replica client at own none =
    let all : calls_of (front ++ call ∷ rest) replica client ≡ calls_of front replica client ++ call ∷ calls_of rest replica client =
    calls_of-append front (call ∷ rest) replica client
    ∙ ap (λ (calls : List Entry). calls_of front replica client ++ calls)
    (calls_of-append (call ∷ []) rest replica client ∙ ap (λ (calls : List Entry). calls ++ calls_of rest replica client) (one_call call replica client at own)) in
    absurd (omega (arith, ap length all, ap length none, length-append (calls_of front replica client) (call ∷ calls_of rest replica client)))

-- behind what has all calls of a client there is none
pub none_behind : (seen more : List Entry) (replica client : ℕ)
    → calls_of (seen ++ more) replica client ≡ calls_of seen replica client
    → calls_of more replica client ≡ []
none_behind seen more replica client same =
    nil_from_length (calls_of more replica client)
    (omega (arith, ap length (sym (calls_of-append seen more replica client) ∙ same), length-append (calls_of seen replica client) (calls_of more replica client)))

-- a sending stays where more follows
unfoldable pub IsSending-on : (history more : List Entry) (from to : ℕ) → IsSending history from to → IsSending (history ++ more) from to
IsSending-on history more from to sending = record {
  before = sending.before;
  sent = sending.sent;
  message = sending.message;
  after = sending.after ++ more;
  all = ap (λ (list : List Entry). list ++ more) sending.all ∙ append_assoc sending.before (sending.sent ∷ sending.after) more;
  by = sending.by;
  sends = sending.sends;
  addressed = sending.addressed;
}

-- What is heeded stays so where no more calls of the client follow.
pub AreHeeded-on : (owed : Option ℕ) (replica client : ℕ) (seen more : List Entry)
    → calls_of more replica client ≡ []
    → AreHeededBut owed replica client seen
    → AreHeededBut owed replica client (seen ++ more)
AreHeeded-on owed replica client seen more none heeded front rest call wish is at own names =
    ⊎_elim
    (λ (here : (between : List Entry) × (seen ≡ front ++ call ∷ between) × (rest ≡ between ++ more)).
    ⊎_elim
    (λ (sending : IsSending here.0 replica wish). inl (subst (λ (list : List Entry). IsSending list replica wish) (sym here.2) (IsSending-on here.0 more replica wish sending)))
    (λ (still : owed ≡ Some wish). inr still)
    (heeded front here.0 call wish here.1 at own names))
    (λ (there : (between : List Entry) × (front ≡ seen ++ between) × (more ≡ between ++ call ∷ rest)).
    absurd (has_call there.0 rest call replica client at own (ap (λ (list : List Entry). calls_of list replica client) (sym there.2) ∙ none)))
    (split_cases seen more front rest call is)

-- nothing is owed where there is no call
pub AreHeeded-none : (owed : Option ℕ) (replica client : ℕ) (seen : List Entry)
    → calls_of seen replica client ≡ []
    → AreHeededBut owed replica client seen
AreHeeded-none owed replica client seen none front rest call wish is at own names =
    absurd (has_call front rest call replica client at own (ap (λ (list : List Entry). calls_of list replica client) (sym is) ∙ none))

-- after one more call a message is owed to whom its reply names
AreHeeded-call : (replica client : ℕ) (seen : List Entry) (call : Entry)
    → AreHeededBut None replica client seen
    → AreHeededBut (wish_in call.act) replica client (seen ++ call ∷ [])
AreHeeded-call replica client seen call heeded front rest other wish is at own names =
    ⊎_elim
    (λ (here : (between : List Entry) × (seen ≡ front ++ other ∷ between) × (rest ≡ between ++ call ∷ [])).
    ⊎_elim
    (λ (sending : IsSending here.0 replica wish). inl (subst (λ (list : List Entry). IsSending list replica wish) (sym here.2) (IsSending-on here.0 (call ∷ []) replica wish sending)))
    (λ (never : None ≡ Some wish). absurd cc)
    (heeded front here.0 other wish here.1 at own names))
    (λ (there : (between : List Entry) × (front ≡ seen ++ between) × (call ∷ [] ≡ between ++ other ∷ rest)).
    inr (ap (λ (entry : Entry). wish_in entry.act) (only there.0 rest call other there.2) ∙ names))
    (split_cases seen (call ∷ []) front rest other is)
  where
    only : (front rest : List Entry) (x y : Entry) → x ∷ [] ≡ front ++ y ∷ rest → x ≡ y
    only [] rest x y is = cc
    only (first ∷ front) rest x y is = absurd (omega (arith, ap length is, length-append front (y ∷ rest)))

-- what a reply names is owed after it
owed-tried : (given : Reply) → owed_by (tried_by given) ≡ wish_of given
owed-tried (reply.Done index stamp) = refl
owed-tried reply.Granted = refl
owed-tried reply.Released = refl
owed-tried (reply.Value value sums) = refl
owed-tried (reply.TooHeavy conit peer weight share) = refl
owed-tried (reply.WaitHeld conit peer reserved weight share) = refl
owed-tried (reply.WaitShare conit peer missing reserved weight share) = refl
owed-tried (reply.WaitLent conit holder out total num) = refl
owed-tried (reply.WaitOrder conit replica tentative order) = refl
owed-tried (reply.WaitStale conit replica moment wanted) = refl
owed-tried (reply.NotHeld conit held amount) = refl

-- what a session that heeded its calls owes after one more
AreHeeded-called : (setup : Setup) (before after : SessionView) (moment : ℕ) (asked : Request) (given : Reply)
    → HasCalled setup before after moment asked given
    → IsHeededBut None before
    → IsHeededBut (wish_of given) after
AreHeeded-called setup before after moment asked given called heeded =
    subst (λ (s : SessionView). AreHeededBut (wish_of given) s.replica s.client after.seen) (sym called.counts)
    (subst (AreHeededBut (wish_of given) before.replica before.client) (sym called.seen)
    (AreHeeded-call before.replica before.client called.front call
    (let told = called.told in
    subst (AreHeededBut None before.replica before.client) (sym told.1)
    (AreHeeded-on None before.replica before.client before.seen told.0 (none_new told) heeded))))
  where
    call : Entry
    call = call_after before called.front moment asked given

    none_new : (told : IsPrefix before.seen called.front) → calls_of told.0 before.replica before.client ≡ []
    none_new told =
        none_behind before.seen told.0 before.replica before.client
        (ap (λ (list : List Entry). calls_of list before.replica before.client) (sym told.1) ∙ front_calls)
      where
        own_after : own_calls after ≡ calls_of called.front before.replica before.client ++ calls_of (call ∷ []) before.replica before.client
        own_after =
            ap (λ (s : SessionView). calls_of after.seen s.replica s.client) called.counts
            ∙ ap (λ (list : List Entry). calls_of list before.replica before.client) called.seen
            ∙ calls_of-append called.front (call ∷ []) before.replica before.client

        front_calls : calls_of called.front before.replica before.client ≡ own_calls before
        front_calls =
            append_cancel_right _ _ (call ∷ [])
            (ap (λ (calls : List Entry). calls_of called.front before.replica before.client ++ calls) (sym (one_call call before.replica before.client refl (eq-eqb before.client before.client refl)))
            ∙ sym own_after ∙ called.calls)

-- a session after a call that was answered
pub Owes-answered : (node : NodeView) (before after : SessionView)
    → IsSetup node.desk.setup
    → before.replica < node.desk.setup.replicas
    → (most : ℕ)
    → GoesOn most before after
    → (asked : Request) (given : Reply)
    → IsAnswered node before after asked given
    → Owes node.desk.setup (tried_by given) before after
Owes-answered node before after sound among most on asked given answered = record {
  other = subst (λ (owed : Option ℕ). IfSome owed (IsOther setup before.replica)) (sym (owed-tried given)) (named (wish_of given) refl);
  heeded = λ unmarked heeded.
      let called = answered.called unmarked in
      subst (λ (owed : Option ℕ). IsHeededBut owed after) (sym (owed-tried given))
      (AreHeeded-called setup before after called.0 asked given called.1 heeded);
}
  where
    setup : Setup
    setup = node.desk.setup

    same : after.replica ≡ before.replica
    same = replica-on most before after on

    named : (wish : Option ℕ) → wish_of given ≡ wish → IfSome wish (IsOther setup before.replica)
    named None is = tt
    named (Some to) is =
        subst (λ (replica : ℕ). (to < setup.replicas) × (to ≢ replica)) same
        (wish-more setup before after asked given to sound (subst (λ (replica : ℕ). replica < setup.replicas) (sym same) among) answered.more is)

-- a session that goes on without a call
pub IsHeeded-quiet : (owed : Option ℕ) (most : ℕ) (before after : SessionView)
    → IsQuiet most before after
    → IsHeededBut owed before
    → IsHeededBut owed after
IsHeeded-quiet owed most before after quiet heeded =
    let told = quiet.later.told in
    let replica = replica-on most before after quiet.later in
    let client = client-on most before after quiet.later in
    let same : calls_of after.seen before.replica before.client ≡ own_calls before =
    ap₂ (λ (r c : ℕ). calls_of after.seen r c) (sym replica) (sym client) ∙ quiet.calls in
    subst (λ (r : ℕ). AreHeededBut owed r after.client after.seen) (sym replica)
    (subst (λ (c : ℕ). AreHeededBut owed before.replica c after.seen) (sym client)
    (subst (AreHeededBut owed before.replica before.client) (sym told.1)
    (AreHeeded-on owed before.replica before.client before.seen told.0
    (none_behind before.seen told.0 before.replica before.client (ap (λ (list : List Entry). calls_of list before.replica before.client) (sym told.1) ∙ same)) heeded)))

-- so does a try that is no call, after which nothing is owed
pub Owes-quiet : (setup : Setup) (most : ℕ) (before after : SessionView) → IsQuiet most before after → Owes setup Final before after
Owes-quiet setup most before after quiet = record { other = tt; heeded = λ unmarked heeded. IsHeeded-quiet None most before after quiet heeded }

pub Owes-none : {E : Type 0} (answer : Result Tried E) (setup : Setup) (most : ℕ) (before after : SessionView)
    → IfOk answer (λ tried. tried ≡ Final)
    → IsQuiet most before after
    → IfOk answer (λ tried. Owes setup tried before after)
Owes-none (Ok tried) setup most before after final quiet = subst (λ (t : Tried). Owes setup t before after) (sym final) (Owes-quiet setup most before after quiet)
Owes-none (Err ending) setup most before after final quiet = tt

-- a message is sent behind all that the session had seen
pub HasSentTo-sent : (setup : Setup) (before after : SessionView) (moment to : ℕ) (message : Message)
    → HasSent setup before after moment to message
    → HasSentTo to before after
HasSentTo-sent setup before after moment to message sent = (
  record {
    before = sent.made.front;
    sent = entry_after before sent.made.front moment (act.Send message);
    message = message;
    after = [];
    all = sent.made.seen;
    by = refl;
    sends = refl;
    addressed = ap (λ (m : Message). m.to) sent.message_is;
  },
  sent.made.told,
)

-- so is one that was sent or refused, where the session isn't marked after a refusal
pub HasSentTo-after : {E : Type 0} (setup : Setup) (before between after : SessionView) (moment to : ℕ) (sent : Result ParcelView NodeFault) (result : Result (Unit {0}) E)
    → IfOk sent (λ (parcel : ParcelView). HasSent setup before between moment to parcel.message)
    → OnOk sent (after ≡ between)
    → OnErr sent (OnOk result (IsUnmarked after → ⊥))
    → OnOk result (IsUnmarked after → HasSentTo to before after)
HasSentTo-after setup before between after moment to sent (Err ending) made same marked = tt
HasSentTo-after setup before between after moment to (Ok parcel) (Ok done) made same marked =
    λ unmarked. subst (HasSentTo to before) (sym same) (HasSentTo-sent setup before between moment to parcel.message made)
HasSentTo-after setup before between after moment to (Err told) (Ok done) made same marked = λ unmarked. absurd (marked unmarked)

pub HasSentTo-later : (to most : ℕ) (before between after : SessionView)
    → IsQuiet most before between
    → HasSentTo to between after
    → HasSentTo to before after
HasSentTo-later to most before between after quiet (sending, behind) =
    subst (λ (r : ℕ). (sending : IsSending after.seen r to) × IsPrefix before.seen sending.before) (replica-on most before between quiet.later)
    (sending, IsPrefix-trans before.seen between.seen sending.before quiet.later.told behind)

-- then nothing is owed
pub IsHeeded-sent : (to most : ℕ) (before after : SessionView)
    → IsQuiet most before after
    → HasSentTo to before after
    → IsHeededBut (Some to) before
    → IsHeededBut None after
IsHeeded-sent to most before after quiet (sending, behind) heeded front rest call wish is at own names =
    ⊎_elim
    (λ (done : IsSending rest after.replica wish). inl done)
    (λ (owed : Some to ≡ Some wish).
    let same : to ≡ wish = cc in
    inl (subst (IsSending rest after.replica) same (subst (λ (r : ℕ). IsSending rest r to) (sym replica) (follows (split_cases before.seen told.0 front rest call (sym told.1 ∙ is))))))
    (IsHeeded-quiet (Some to) most before after quiet heeded front rest call wish is at own names)
  where
    told : IsPrefix before.seen after.seen
    told = quiet.later.told

    replica : after.replica ≡ before.replica
    replica = replica-on most before after quiet.later

    client : after.client ≡ before.client
    client = client-on most before after quiet.later

    same : calls_of after.seen before.replica before.client ≡ own_calls before
    same = ap₂ (λ (r c : ℕ). calls_of after.seen r c) (sym replica) (sym client) ∙ quiet.calls

    follows : ((more : List Entry) × (before.seen ≡ front ++ call ∷ more) × (rest ≡ more ++ told.0))
        ⊎ ((more : List Entry) × (front ≡ before.seen ++ more) × (told.0 ≡ more ++ call ∷ rest))
        → IsSending rest before.replica to
    follows (inr (more, is_front, is_told)) =
        absurd (has_call more rest call before.replica before.client (at ∙ replica) (subst (λ (c : ℕ). is_call_of c call.act ≡ true) client own)
        (ap (λ (list : List Entry). calls_of list before.replica before.client) (sym is_told)
        ∙ none_behind before.seen told.0 before.replica before.client (ap (λ (list : List Entry). calls_of list before.replica before.client) (sym told.1) ∙ same)))
    follows (inl (more, is_seen, is_rest)) = record {
      before = more ++ behind.0;
      sent = sending.sent;
      message = sending.message;
      after = sending.after;
      all = tail;
      by = sending.by;
      sends = sending.sends;
      addressed = sending.addressed;
    }
      where
        whole : (front ++ call ∷ []) ++ rest ≡ (front ++ call ∷ []) ++ ((more ++ behind.0) ++ sending.sent ∷ sending.after)
        whole =
            append_assoc front (call ∷ []) rest ∙ sym is ∙ sending.all
            ∙ ap (λ (list : List Entry). list ++ sending.sent ∷ sending.after) (behind.1 ∙ ap (λ (list : List Entry). list ++ behind.0) is_seen ∙ append_assoc front (call ∷ more) behind.0)
            ∙ append_assoc front (call ∷ (more ++ behind.0)) (sending.sent ∷ sending.after)
            ∙ sym (append_assoc front (call ∷ []) ((more ++ behind.0) ++ sending.sent ∷ sending.after))

        tail : rest ≡ (more ++ behind.0) ++ sending.sent ∷ sending.after
        tail = append_cancel_left (front ++ call ∷ []) _ _ whole
