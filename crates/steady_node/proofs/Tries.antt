-- A call that is tried until it is answered.
use Rattle.std.proofs.Common.{◌≡◌, ◌⊎◌, ℕ, ◌<◌, Bool, true, false, List, [], ◌∷◌, ◌++◌, refl, sym, ap, ◌∙◌, subst, inl, inr, ⊎_elim, arith}
use Rattle.tact_base.specs.Setup.{Setup}
use Rattle.run_model.specs.declared.call.Reply.{Reply}
use Rattle.run_model.specs.declared.call.Request.{Request}
use Rattle.run_model.specs.declared.entry.Act.TheVariants as act
use Rattle.run_model.specs.declared.entry.Entry.{Entry}
use Rattle.locked_replica.specs.declared.fault.NodeFault.{NodeFault}
use Rattle.replica_lock.specs.Allowances.{AllowanceView}
use Rattle.replica_lock.specs.Sessions.{HasCalled, HasHeard, IsSessionOf, NodeView, SessionView, call_after, failed_by, own_calls}
use Rattle.replica_lock.specs.declared.resuming.Resumed.{Resumed}
use Rattle.replica_lock.specs.declared.resuming.Resumed.TheVariants as resumed
use Rattle.std.specs.Prelude.{Option, None, Some, Result, Ok, Err, IfOk, option_map}
use Rattle.steady_node.specs.Answered.{HasFailed, IsAnswered, IsPlain, IsTakenFrom, IsTried}
use Rattle.steady_node.specs.Endings.{HasEnded}
use Rattle.steady_node.specs.Going.{GoesOn, IsUnmarked, entries_left}
use Rattle.steady_node.specs.Lost.{HasOtherBack, IsCallLost}
use Rattle.steady_node.specs.Settled.{HasCallMore, HasComeBack, IsOutcome}
use Rattle.steady_node.specs.declared.ending.Ending.{Ending}
use Rattle.steady_node.specs.declared.settling.Outcome.{Outcome}
use Rattle.steady_node.specs.declared.settling.Outcome.TheVariants as outcome
use Rattle.steady_node.proofs.Goings.{GoesOn-failed, GoesOn-marked, GoesOn-same, GoesOn-trans, IsAtNode-on, client-on, left-on, replica-on, unmarked-before}

-- a call that the node answered at once
pub IsAnswered-called : (node : NodeView) (before after : SessionView) (moment : ℕ) (asked : Request) (given : Reply)
    → before.doubt ≡ false
    → HasCalled node.desk.setup before after moment asked given
    → IsAnswered node before after asked given
IsAnswered-called node before after moment asked given certain called = record {
  certain = ap (λ (s : SessionView). s.doubt) called.counts ∙ certain;
  more = record {
    entry = call_after before called.front moment asked given;
    number = before.calls;
    act_is = refl;
    calls = called.calls;
    run = called.run;
    promised = called.promised;
  };
  called = λ unmarked. (moment, called);
}

-- one more call of a session is one of what it was before, where it had seen the same calls
HasCallMore-before : (setup : Setup) (before between after : SessionView) (asked : Request) (given : Reply)
    → between.client ≡ before.client
    → own_calls between ≡ own_calls before
    → HasCallMore setup between after asked given
    → HasCallMore setup before after asked given
HasCallMore-before setup before between after asked given client same more = record {
  entry = more.entry;
  number = more.number;
  act_is = more.act_is ∙ ap (λ (k : ℕ). act.Call k more.number asked given) client;
  calls = more.calls ∙ ap (λ (list : List Entry). list ++ more.entry ∷ []) same;
  run = more.run;
  promised = more.promised;
}

-- so it is with what came back of a call, and with one that is lost
HasComeBack-before : (setup : Setup) (before between after : SessionView) (told : Resumed)
    → between.client ≡ before.client
    → own_calls between ≡ own_calls before
    → HasComeBack setup between after told
    → HasComeBack setup before after told
HasComeBack-before setup before between after resumed.Nothing client same back = back
HasComeBack-before setup before between after (resumed.Stands asked given allowance) client same back =
    HasCallMore-before setup before between after asked given client same back
HasComeBack-before setup before between after (resumed.Dropped allowance) client same back = back ∙ same

IsCallLost-before : (node : NodeView) (asked : Request) (before between after : SessionView)
    → between.client ≡ before.client
    → own_calls between ≡ own_calls before
    → IsCallLost node asked between after
    → IsCallLost node asked before after
IsCallLost-before node asked before between after client same lost = record { marked = lost.marked; cause = go lost.cause }
  where
    go : (after.doubt ≡ true) ⊎ HasOtherBack node asked between after → (after.doubt ≡ true) ⊎ HasOtherBack node asked before after
    go (inl doubt) = inl doubt
    go (inr has) = inr (record { told = has.told; back = HasComeBack-before node.desk.setup before between after has.told client same has.back; other = has.other })

-- A call that was refused, and what became of it after the node began anew.
module _ (node : NodeView) (before refused after : SessionView) (told : NodeFault) (certain : before.doubt ≡ false)
    (heard : HasHeard node.desk.setup before (failed_by told before) refused) where
  abbrev setup : Setup
  setup = node.desk.setup

  refused-on : GoesOn 0 before refused
  refused-on = GoesOn-failed setup before refused 0 told heard

  pub GoesOn-later : GoesOn 1 refused after → GoesOn 1 before after
  GoesOn-later on = GoesOn-trans 0 1 before refused after refused-on on

  pub HasEnded-later : (tells : Bool) (ending : Ending) → HasEnded tells refused after ending → HasEnded tells before after ending
  HasEnded-later tells ending ended = record {
    cause = ended.cause;
    certain = ended.certain;
    calls = λ kept. ended.calls kept ∙ heard.calls certain;
  }

  pub IsCallLost-later : (asked : Request) → IsCallLost node asked refused after → IsCallLost node asked before after
  IsCallLost-later asked lost = IsCallLost-before node asked before refused after (client-on 0 before refused refused-on) (heard.calls certain) lost

  pub IsAnswered-later : (asked : Request) (given : Reply) (back : Option AllowanceView)
      → (IsUnmarked after → ⊥)
      → after.doubt ≡ false
      → IsOutcome setup asked refused after (outcome.Stands given back)
      → IsAnswered node before after asked given
  IsAnswered-later asked given back marked now_certain more = record {
    certain = now_certain;
    more = HasCallMore-before setup before refused after asked given (client-on 0 before refused refused-on) (heard.calls certain) more;
    called = λ unmarked. absurd (marked unmarked);
  }

  pub HasFailed-later : (asked : Request) (back : Option AllowanceView)
      → (IsUnmarked after → ⊥)
      → after.doubt ≡ false
      → entries_left after < entries_left refused
      → IsOutcome setup asked refused after (outcome.Dropped back)
      → HasFailed before after
  HasFailed-later asked back marked now_certain nearer same = record {
    certain = now_certain;
    calls = same ∙ heard.calls certain;
    marked = marked;
    nearer = omega (arith, nearer, left-on before refused refused-on.told (replica-on 0 before refused refused-on));
  }

  -- what became of it, in one
  module _ (asked : Request) (marked : IsUnmarked after → ⊥) (now_certain : after.doubt ≡ false)
      (nearer : entries_left after < entries_left refused) where
    pub IsTried-plain : (came : Outcome) (tried : Option Reply)
        → IsOutcome setup asked refused after came
        → IsPlain came tried
        → IsTried node asked before after tried
    IsTried-plain came (Some given) is plain = IsAnswered-later asked given None marked now_certain (subst (IsOutcome setup asked refused after) plain is)
    IsTried-plain came None is plain = HasFailed-later asked None marked now_certain nearer (subst (IsOutcome setup asked refused after) plain is)

    pub IsTried-taken : (came : Outcome) (one other : AllowanceView) (whole left : ℕ) (tried : Option Reply)
        → IsOutcome setup asked refused after came
        → IsTakenFrom came one other whole left tried
        → IsTried node asked before after tried
    IsTried-taken came one other whole left (Some given) is (back, same, amount) =
        IsAnswered-later asked given back marked now_certain (subst (IsOutcome setup asked refused after) same is)
    IsTried-taken came one other whole left None is (back, same, amount) =
        HasFailed-later asked back marked now_certain nearer (subst (IsOutcome setup asked refused after) same is)

-- what is told of a try, by its reply
pub tried_if : {A E : Type 0} (node : NodeView) (asked : Request) (before after : SessionView) (given : A → Reply) (answer : Result (Option A) E) (tried : Option Reply)
    → IfOk answer (λ (found : Option A). option_map given found ≡ tried)
    → IsTried node asked before after tried
    → IfOk answer (λ (found : Option A). IsTried node asked before after (option_map given found))
tried_if node asked before after given (Ok found) tried same is = subst (IsTried node asked before after) (sym same) is
tried_if node asked before after given (Err fault) tried same is = tt

-- after any number of tries that weren't made
pub record IsTrying (node : NodeView) (before now : SessionView) : Type 0 where
  pub on : GoesOn 0 before now
  pub of : IsSessionOf node now
  pub calls : own_calls now ≡ own_calls before
  pub first : (now ≡ before) ⊎ (IsUnmarked now → ⊥)

pub IsTrying-start : (node : NodeView) (session : SessionView) → IsSessionOf node session → IsTrying node session session
IsTrying-start node session of = record { on = GoesOn-same 0 session; of = of; calls = refl; first = inl refl }

module _ (node : NodeView) (before now after : SessionView) (trying : IsTrying node before now) (on : GoesOn 1 now after) where
  pub GoesOn-tried : GoesOn 1 before after
  GoesOn-tried = GoesOn-trans 0 1 before now after trying.on on

  pub IsTrying-more : HasFailed now after → IsTrying node before after
  IsTrying-more failed = record {
    on = GoesOn-marked 1 0 before after failed.marked GoesOn-tried;
    of = record { at = IsAtNode-on node 1 now after on trying.of.at; certain = failed.certain };
    calls = failed.calls ∙ trying.calls;
    first = inr failed.marked;
  }

  pub IsAnswered-tried : (asked : Request) (given : Reply) → IsAnswered node now after asked given → IsAnswered node before after asked given
  IsAnswered-tried asked given answered = record {
    certain = answered.certain;
    more = HasCallMore-before node.desk.setup before now after asked given (client-on 0 before now trying.on) trying.calls answered.more;
    called = λ unmarked.
        ⊎_elim
        (λ (same : now ≡ before).
        subst (λ (s : SessionView). (moment : ℕ) × HasCalled node.desk.setup s after moment asked given) same (answered.called unmarked))
        (λ (marked : IsUnmarked now → ⊥). absurd (marked (unmarked-before 1 now after on unmarked)))
        trying.first;
  }

  pub HasEnded-tried : (tells : Bool) (ending : Ending) → HasEnded tells now after ending → HasEnded tells before after ending
  HasEnded-tried tells ending ended = record {
    cause = ended.cause;
    certain = ended.certain;
    calls = λ kept. ended.calls kept ∙ trying.calls;
  }

  pub IsCallLost-tried : (asked : Request) → IsCallLost node asked now after → IsCallLost node asked before after
  IsCallLost-tried asked lost = IsCallLost-before node asked before now after (client-on 0 before now trying.on) trying.calls lost
