-- What the tries of an item make of a client's calls.
use Rattle.std.proofs.Common.{◌≡◌, ◌⊎◌, ℕ, ◌+◌, ◌<◌, ◌≤◌, Bool, true, false, cond, List, [], ◌∷◌, ◌++◌, length, All, Option, Some, None, refl, sym, ap, ◌∙◌, subst, subst₂, inl, inr, arith}
use Rattle.std.specs.Prelude.{Err, IfOk, Ok, Result, unsigned_abs}
use Rattle.std.proofs.lemmas.Bool.{le-leb, lt-leb}
use Rattle.std.proofs.lemmas.List.{append-nil, append_assoc, length-append}
use Rattle.std.proofs.lemmas.List.Elements.{All-head, All-nil, All-push}
use Rattle.tact_base.proofs.ListLemmas.{All-append_left, All-append_right}
use Rattle.tact_base.specs.Setup.{Setup}
use Rattle.tact_base.specs.declared.conit_list.Weight.{Weight}
use Rattle.tact_base.specs.declared.write.Op.{Op}
use Rattle.anti_entropy.specs.Wishes.{wish_of}
use Rattle.run_model.specs.Call.{is_waiting}
use Rattle.run_model.specs.Missing.{granted_on, used_on, reserved}
use Rattle.run_model.specs.declared.call.Reply.{Reply}
use Rattle.run_model.specs.declared.call.Reply.TheVariants as reply
use Rattle.run_model.specs.declared.call.Request.{Request}
use Rattle.run_model.specs.declared.call.Request.TheVariants as request
use Rattle.run_model.specs.declared.entry.Act.{Act}
use Rattle.run_model.specs.declared.entry.Act.TheVariants as act
use Rattle.run_model.specs.declared.entry.Entry.{Entry}
use Rattle.run_model.proofs.PrefixLemmas.{right_cases}
use Rattle.work_load.specs.Attempts.{AreCallsFor, AreTries, AreWaitingFor, Asks, IsWaitingFor, asked, asked_with, waits}
use Rattle.work_load.specs.declared.plan.Item.{Item}
use Rattle.work_load.specs.declared.plan.Item.TheVariants as item
use Rattle.replica_lock.specs.Sessions.{SessionView, own_calls}
use Rattle.steady_node.specs.Settled.{HasCallMore}
use Rattle.run_work.specs.Trying.{HasAsked, HasDone, HasTried, HasWaited, IsTry, tried_by}
use Rattle.run_work.specs.declared.trying.Tried.{Tried}
use Rattle.run_work.specs.declared.trying.Tried.TheVariants.{Final, Waiting}
use Rattle.run_work.proofs.HoldingLemmas.{Moves, reserved-same}

-- one call with its reply is a try of what it asked for
pub IsTry-call : (call : Entry) (client number : ℕ) (wanted : Request) (given : Reply)
    → call.act ≡ act.Call client number wanted given
    → IsTry (Some wanted) (tried_by given) (call ∷ [])
IsTry-call call client number wanted given is = go (is_waiting given) refl
  where
    asks : Asks wanted call.act
    asks = subst (Asks wanted) (sym is) refl

    go : (yes : Bool)
        → is_waiting given ≡ yes
        → IsTry (Some wanted) (cond yes (Waiting (wish_of given)) Final) (call ∷ [])
    go true same = (call, refl, (asks, ap waits is ∙ same))
    go false same = (call, refl, asks, ap waits is ∙ same)

-- so is a further call of a session
pub HasAsked-more : (setup : Setup) (before after : SessionView) (wanted : Request) (given : Reply)
    → HasCallMore setup before after wanted given
    → HasAsked wanted (tried_by given) (own_calls before) (own_calls after)
HasAsked-more setup before after wanted given more =
    (more.entry ∷ [], more.calls, IsTry-call more.entry before.client more.number wanted given more.act_is)

-- what is asked for where an item asks for it
pub HasTried-asked : (item : Item) (wanted : Request) (tried : Tried) (before after : List Entry)
    → asked before item ≡ Some wanted
    → HasAsked wanted tried before after
    → HasTried item tried before after
HasTried-asked item wanted tried before after is (calls, all, try) = (calls, all, subst (λ w. IsTry w tried calls) (sym is) try)

-- an item that asks for no call is tried by none
pub HasTried-none : {E : Type 0} (answer : Result Tried E) (item : Item) (before after : List Entry)
    → asked before item ≡ None
    → IfOk answer (λ tried. tried ≡ Final)
    → after ≡ before
    → IfOk answer (λ tried. HasTried item tried before after)
HasTried-none (Ok tried) item before after none final same =
    ([], same ∙ sym (append-nil before), subst₂ (λ (wanted : Option Request) (t : Tried). IsTry wanted t []) (sym none) (sym final) refl)
HasTried-none (Err ending) item before after none final same = tt

-- what a held item asks for
pub asked-held : (calls : List Entry) (weight : Weight) (op : Op)
    → unsigned_abs weight.nweight ≤ reserved calls weight.conit
    → asked calls (item.Held weight op) ≡ Some (request.Held weight op)
asked-held calls weight op enough =
    ap (λ yes. Some (cond yes (request.Held weight op) (request.Write (weight ∷ []) op))) (le-leb (unsigned_abs weight.nweight) (reserved calls weight.conit) enough)

pub asked-short : (calls : List Entry) (weight : Weight) (op : Op)
    → reserved calls weight.conit < unsigned_abs weight.nweight
    → asked calls (item.Held weight op) ≡ Some (request.Write (weight ∷ []) op)
asked-short calls weight op short =
    ap (λ yes. Some (cond yes (request.Held weight op) (request.Write (weight ∷ []) op))) (lt-leb (unsigned_abs weight.nweight) (reserved calls weight.conit) short)

-- a request with a reply that waits moves nothing
granted_on-waiting : (conit : ℕ) (wanted : Request) (given : Reply) → is_waiting given ≡ true → granted_on conit wanted given ≡ 0
granted_on-waiting conit (request.Reserve at amount) reply.Granted waiting = cc
granted_on-waiting conit (request.Reserve at amount) (reply.NotHeld on held weight) waiting = refl
granted_on-waiting conit (request.Reserve at amount) (reply.Done index stamp) waiting = refl
granted_on-waiting conit (request.Reserve at amount) reply.Released waiting = refl
granted_on-waiting conit (request.Reserve at amount) (reply.Value value sums) waiting = refl
granted_on-waiting conit (request.Reserve at amount) (reply.TooHeavy on peer weight share) waiting = refl
granted_on-waiting conit (request.Reserve at amount) (reply.WaitHeld on peer held weight share) waiting = refl
granted_on-waiting conit (request.Reserve at amount) (reply.WaitShare on peer missing held weight share) waiting = refl
granted_on-waiting conit (request.Reserve at amount) (reply.WaitLent on holder out total num) waiting = refl
granted_on-waiting conit (request.Reserve at amount) (reply.WaitOrder on replica tentative order) waiting = refl
granted_on-waiting conit (request.Reserve at amount) (reply.WaitStale on replica moment wanted) waiting = refl
granted_on-waiting conit (request.Write weights op) given waiting = refl
granted_on-waiting conit (request.Read key needs) given waiting = refl
granted_on-waiting conit (request.Held weight op) given waiting = refl
granted_on-waiting conit (request.Release at amount) given waiting = refl

used_on-waiting : (conit : ℕ) (wanted : Request) (given : Reply) → is_waiting given ≡ true → used_on conit wanted given ≡ 0
used_on-waiting conit (request.Release at amount) reply.Released waiting = cc
used_on-waiting conit (request.Release at amount) (reply.NotHeld on held weight) waiting = refl
used_on-waiting conit (request.Release at amount) (reply.Done index stamp) waiting = refl
used_on-waiting conit (request.Release at amount) reply.Granted waiting = refl
used_on-waiting conit (request.Release at amount) (reply.Value value sums) waiting = refl
used_on-waiting conit (request.Release at amount) (reply.TooHeavy on peer weight share) waiting = refl
used_on-waiting conit (request.Release at amount) (reply.WaitHeld on peer held weight share) waiting = refl
used_on-waiting conit (request.Release at amount) (reply.WaitShare on peer missing held weight share) waiting = refl
used_on-waiting conit (request.Release at amount) (reply.WaitLent on holder out total num) waiting = refl
used_on-waiting conit (request.Release at amount) (reply.WaitOrder on replica tentative order) waiting = refl
used_on-waiting conit (request.Release at amount) (reply.WaitStale on replica moment wanted) waiting = refl
used_on-waiting conit (request.Held weight op) (reply.Done index stamp) waiting = cc
used_on-waiting conit (request.Held weight op) (reply.NotHeld on held weight') waiting = refl
used_on-waiting conit (request.Held weight op) reply.Granted waiting = refl
used_on-waiting conit (request.Held weight op) reply.Released waiting = refl
used_on-waiting conit (request.Held weight op) (reply.Value value sums) waiting = refl
used_on-waiting conit (request.Held weight op) (reply.TooHeavy on peer weight' share) waiting = refl
used_on-waiting conit (request.Held weight op) (reply.WaitHeld on peer held weight' share) waiting = refl
used_on-waiting conit (request.Held weight op) (reply.WaitShare on peer missing held weight' share) waiting = refl
used_on-waiting conit (request.Held weight op) (reply.WaitLent on holder out total num) waiting = refl
used_on-waiting conit (request.Held weight op) (reply.WaitOrder on replica tentative order) waiting = refl
used_on-waiting conit (request.Held weight op) (reply.WaitStale on replica moment wanted) waiting = refl
used_on-waiting conit (request.Write weights op) given waiting = refl
used_on-waiting conit (request.Read key needs) given waiting = refl
used_on-waiting conit (request.Reserve at amount) given waiting = refl

moves_nothing : (conit replica moment : ℕ) (done : Act)
    → waits done ≡ true
    → Moves conit 0 0 (record { replica = replica; moment = moment; act = done })
moves_nothing conit replica moment (act.Call client number wanted given) waiting = record {
  more_is = granted_on-waiting conit wanted given waiting;
  less_is = used_on-waiting conit wanted given waiting;
}
moves_nothing conit replica moment (act.Send message) waiting = cc
moves_nothing conit replica moment (act.Take message) waiting = cc
moves_nothing conit replica moment (act.Lend to at amount) waiting = cc
moves_nothing conit replica moment (act.Back owner at amount) waiting = cc
moves_nothing conit replica moment act.Restart waiting = cc

-- a call that waits leaves what is reserved, and so what an item asks for
reserved-waiting : (calls : List Entry) (call : Entry) (conit : ℕ)
    → waits call.act ≡ true
    → reserved (calls ++ call ∷ []) conit ≡ reserved calls conit
reserved-waiting calls call conit waiting = reserved-same calls call conit (moves_nothing conit call.replica call.moment call.act waiting)

pub asked-waiting : (calls : List Entry) (call : Entry) (item : Item)
    → waits call.act ≡ true
    → asked (calls ++ call ∷ []) item ≡ asked calls item
asked-waiting calls call (item.Write weights op) waiting = refl
asked-waiting calls call (item.Held weight op) waiting = ap (λ held. Some (asked_with held weight op)) (reserved-waiting calls call weight.conit waiting)
asked-waiting calls call (item.Reserve conit amount) waiting = refl
asked-waiting calls call (item.Release conit) waiting = ap (λ amount. Some (request.Release conit amount)) (reserved-waiting calls call conit waiting)
asked-waiting calls call (item.Read key needs) waiting = refl
asked-waiting calls call (item.Lend holder conit amount) waiting = refl
asked-waiting calls call (item.Back owner conit amount) waiting = refl
asked-waiting calls call item.Restart waiting = refl

-- So many tries of an item, each of which waits; it then asks for what it did.
pub record HaveWaited (tries : ℕ) (item : Item) (before after : List Entry) : Type 0 where
  pub calls : List Entry
  pub all : after ≡ before ++ calls
  pub count : length calls ≡ tries
  pub still : asked after item ≡ asked before item
  pub waiting : (wanted : Request) → asked before item ≡ Some wanted → All (IsWaitingFor wanted) calls
  pub none : asked before item ≡ None → calls ≡ []

pub HaveWaited-none : (item : Item) (before : List Entry) → HaveWaited 0 item before before
HaveWaited-none item before = record {
  calls = [];
  all = sym (append-nil before);
  count = refl;
  still = refl;
  waiting = λ wanted is. All-nil (IsWaitingFor wanted);
  none = λ is. refl;
}

-- one more try that waits
module _ (tries : ℕ) (item : Item) (before between after : List Entry) (wish : Option ℕ) (waited : HaveWaited tries item before between) where
  go : (wanted : Option Request)
      → asked between item ≡ wanted
      → (calls : List Entry)
      → after ≡ between ++ calls
      → IsTry wanted (Waiting wish) calls
      → HaveWaited (tries + 1) item before after
  go None is calls all try = absurd try
  go (Some wanted) is calls all (call, one, waiting) =
      let pushed : after ≡ between ++ call ∷ [] = all ∙ ap (λ (cs : List Entry). between ++ cs) one in
      let first : asked before item ≡ Some wanted = sym waited.still ∙ is in
      record {
        calls = waited.calls ++ call ∷ [];
        all = pushed ∙ ap (λ (cs : List Entry). cs ++ call ∷ []) waited.all ∙ append_assoc before waited.calls (call ∷ []);
        count = omega (arith, length-append waited.calls (call ∷ []), waited.count);
        still = ap (λ (cs : List Entry). asked cs item) pushed ∙ asked-waiting between call item waiting.1 ∙ waited.still;
        waiting = λ other same.
            let is_it : wanted ≡ other = cc in
            All-push (IsWaitingFor other) waited.calls call (waited.waiting other same) (subst (λ w. IsWaitingFor w call) is_it waiting);
        none = λ nothing. cc;
      }

  pub HaveWaited-more : HasTried item (Waiting wish) between after → HaveWaited (tries + 1) item before after
  HaveWaited-more (calls, all, try) = go (asked between item) refl calls all try

-- after tries that wait a last one, which is final
module _ (tries : ℕ) (item : Item) (before between after : List Entry) (most : ℕ) (few : tries < most) (waited : HaveWaited tries item before between) where
  done : (wanted : Option Request)
      → asked between item ≡ wanted
      → (calls : List Entry)
      → after ≡ between ++ calls
      → IsTry wanted Final calls
      → HasDone most item before after
  done None is calls all try =
      let nothing : asked before item ≡ None = sym waited.still ∙ is in (
        [],
        all ∙ ap (λ (cs : List Entry). between ++ cs) try ∙ append-nil between ∙ waited.all ∙ ap (λ (cs : List Entry). before ++ cs) (waited.none nothing),
        subst (λ wanted. AreCallsFor most wanted []) (sym nothing) refl,
      )
  done (Some wanted) is calls all (call, one, asks, ends) =
      let first : asked before item ≡ Some wanted = sym waited.still ∙ is in
      let tried : AreTries most wanted (waited.calls ++ call ∷ []) = record {
        front = waited.calls;
        last = call;
        all = refl;
        few = omega (arith, length-append waited.calls (call ∷ []), waited.count);
        waiting = waited.waiting wanted first;
        asks = asks;
        ends = inl ends;
      } in (
        waited.calls ++ call ∷ [],
        all ∙ ap (λ (cs : List Entry). between ++ cs) one ∙ ap (λ (cs : List Entry). cs ++ call ∷ []) waited.all ∙ append_assoc before waited.calls (call ∷ []),
        subst (λ wanted. AreCallsFor most wanted (waited.calls ++ call ∷ [])) (sym first) tried,
      )

  pub HasDone-final : HasTried item Final between after → HasDone most item before after
  HasDone-final (calls, all, try) = done (asked between item) refl calls all try

-- fewer tries than there may be, each of which waits
module _ (tries : ℕ) (item : Item) (before after : List Entry) (most : ℕ) (waited : HaveWaited tries item before after) where
  waiting_for : (wanted : Option Request) → asked before item ≡ wanted → tries < most → AreWaitingFor most wanted waited.calls
  waiting_for None is few = waited.none is
  waiting_for (Some wanted) is few = (omega (arith, waited.count, few), waited.waiting wanted is)

  pub HasWaited-tries : tries < most → HasWaited most item before after
  HasWaited-tries few = (waited.calls, waited.all, waiting_for (asked before item) refl few)

  -- as many as there may be: the last is the last try
  tried_all : (wanted : Option Request)
      → asked before item ≡ wanted
      → 0 < most
      → tries ≡ most
      → (waited.calls ≡ []) ⊎ ((front : List Entry) × (last : Entry) × (waited.calls ≡ front ++ last ∷ []))
      → AreCallsFor most wanted waited.calls
  tried_all None is some all ends = waited.none is
  tried_all (Some wanted) is some all (inl none) = absurd (omega (arith, ap length none, waited.count, all, some))
  tried_all (Some wanted) is some all (inr (front, last, ends)) =
      let each = subst (All (IsWaitingFor wanted)) ends (waited.waiting wanted is) in
      record {
        front = front;
        last = last;
        all = ends;
        few = omega (arith, waited.count, all);
        waiting = All-append_left (IsWaitingFor wanted) front (last ∷ []) each;
        asks = (All-head (IsWaitingFor wanted) last [] (All-append_right (IsWaitingFor wanted) front (last ∷ []) each)).0;
        ends = inr (waited.count ∙ all);
      }

  pub HasDone-tries : 0 < most → tries ≡ most → HasDone most item before after
  HasDone-tries some all = (waited.calls, waited.all, tried_all (asked before item) refl some all (right_cases waited.calls))
