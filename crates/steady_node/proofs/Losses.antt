-- Why a call is lost.
use Rattle.std.proofs.Common.{◌≡◌, ◌≢◌, ℕ, ◌-◌, ◌≤◌, Bool, true, Option, Some, None, refl, sym, ap, ◌∙◌, subst, inl, inr, arith}
use Rattle.std.specs.Prelude.{Result, Ok, Err, IfErr}
use Rattle.std.proofs.lemmas.Bool.{false≢true}
use Rattle.run_model.specs.declared.call.Reply.{Reply}
use Rattle.run_model.specs.declared.call.Reply.TheVariants as reply
use Rattle.run_model.specs.declared.call.Request.{Request}
use Rattle.run_model.specs.declared.call.Request.TheVariants as request
use Rattle.locked_replica.specs.Asking.{conit_of, given_up, granted_to}
use Rattle.locked_replica.specs.Locks.{IsWriteOrRead}
use Rattle.locked_replica.specs.declared.fault.NodeFault.{NodeFault}
use Rattle.replica_lock.specs.Allowances.{AllowanceView, allowance_of, lost_with}
use Rattle.replica_lock.specs.Sessions.{NodeView, SessionView}
use Rattle.replica_lock.specs.declared.reserving.Reserving.TheVariants as reserving
use Rattle.replica_lock.specs.declared.resuming.Resumed.{Resumed}
use Rattle.steady_node.specs.Answered.{IsMadeUp, IsNoReserving, IsOtherThan, IsTakenFrom, MakesUp, with_amount}
use Rattle.steady_node.specs.Endings.{HasEnded, IsCause, IsLost}
use Rattle.steady_node.specs.Lost.{IsAnswerTo, IsCallLost, IsDueBack, moved_by}
use Rattle.steady_node.specs.Settled.{HasComeBack, IsOutcome, IsOutcomeOf, back_in, nothing_back, told_of}
use Rattle.steady_node.specs.declared.ending.Ending.{Ending}
use Rattle.steady_node.specs.declared.settling.Outcome.{Outcome}
use Rattle.steady_node.specs.declared.settling.Outcome.TheVariants as outcome

-- what is told where a call is lost, by why it is
pub if_lost : {A : Type 0} (answer : Result A Ending) (Why Lost : Type 0)
    → IfErr answer (λ (ending : Ending). IsLost ending × Why)
    → (Why → Lost)
    → IfErr answer (λ (ending : Ending). ending.lost ≡ true → Lost)
if_lost (Ok came) Why Lost is so = tt
if_lost (Err ending) Why Lost is so = λ lost. so is.1

pub always_lost : {A : Type 0} (answer : Result A Ending) (Lost : Type 0) → Lost → IfErr answer (λ (ending : Ending). ending.lost ≡ true → Lost)
always_lost (Ok came) Lost so = tt
always_lost (Err ending) Lost so = λ lost. so

-- a session whose last call is lost has ended
HasEnded-lost : (tells : Bool) (before after : SessionView) (ending : Ending) → IsLost ending → after.faults ≢ 0 → HasEnded tells before after ending
HasEnded-lost tells before after ending lost marked = record {
  cause = subst (IsCause tells after) (sym lost.0) marked;
  certain = λ kept. absurd (false≢true (sym kept ∙ lost.1));
  calls = λ kept. absurd (false≢true (sym kept ∙ lost.1));
}

pub ended_if : {A : Type 0} (answer : Result A Ending) (Why : Type 0) (tells : Bool) (before after : SessionView)
    → IfErr answer (λ (ending : Ending). IsLost ending × Why)
    → (Why → after.faults ≢ 0)
    → IfErr answer (HasEnded tells before after)
ended_if (Ok came) Why tells before after is so = tt
ended_if (Err ending) Why tells before after is so = HasEnded-lost tells before after ending is.0 (so is.1)

-- what is due of a write or a read has no allowance, and what is due of a reserve is an answer to it
plain-due : (node : NodeView) (asked : Request) (came : Outcome) → IsWriteOrRead asked → IsDueBack node asked (told_of asked came) → back_in came ≡ None
plain-due node (request.Write weights op) (outcome.Stands given back) plain due = due.2
plain-due node (request.Write weights op) (outcome.Dropped back) plain due = due
plain-due node (request.Read key needs) (outcome.Stands given back) plain due = due.2
plain-due node (request.Read key needs) (outcome.Dropped back) plain due = due
plain-due node other came plain due = absurd plain

reserve-due : (node : NodeView) (conit amount : ℕ) (came : Outcome)
    → IsDueBack node (request.Reserve conit amount) (told_of (request.Reserve conit amount) came)
    → IsNoReserving came conit amount
    → ⊥
reserve-due node conit amount (outcome.Stands reply.Granted back) due none =
    none (Some (reserving.Granted (allowance_of node conit amount))) (ap (outcome.Stands reply.Granted) due.2, refl, refl)
reserve-due node conit amount (outcome.Stands given back) due none =
    none (Some (reserving.Waiting given)) (ap (outcome.Stands given) due.2, λ granted. cc)
reserve-due node conit amount (outcome.Dropped back) due none = none None (ap outcome.Dropped due)

-- A call that was refused, and what came of it: where the node was halted it wasn't made, and nothing came back.
module _ (node : NodeView) (asked : Request) (before after : SessionView) (told : NodeFault) (came : Outcome)
    (failed : IsOutcomeOf told after came) (is : IsOutcome node.desk.setup asked before after came) where
  marked-came : (came ≡ nothing_back → ⊥) → after.faults ≢ 0
  marked-came some = go failed
    where
      go : IsOutcomeOf told after came → after.faults ≢ 0
      go (inl (halted, nothing)) = absurd (some nothing)
      go (inr (journal, marked)) = marked

  IsCallLost-came : after.faults ≢ 0 → (IsDueBack node asked (told_of asked came) → ⊥) → IsCallLost node asked before after
  IsCallLost-came marked other = record { marked = marked; cause = inr (record { told = told_of asked came; back = is; other = other }) }

  pub IsCallLost-plain : IsWriteOrRead asked → back_in came ≢ None → IsCallLost node asked before after
  IsCallLost-plain plain some =
      IsCallLost-came (marked-came (λ nothing. some (ap back_in nothing))) (λ due. some (plain-due node asked came plain due))

  -- one that is answered as it never is
  pub IsCallLost-answered : (one other : AllowanceView) (whole left : ℕ) (tried : Option Reply)
      → IsTakenFrom came one other whole left tried
      → IsOtherThan (IsAnswerTo asked) tried
      → IsCallLost node asked before after
  IsCallLost-answered one other whole left (Some given) (back, same, amount) not =
      IsCallLost-came (marked-came (λ nothing. let never : outcome.Stands given back ≡ nothing_back = sym same ∙ nothing in cc))
      (λ due. not (subst (λ (c : Outcome). IsDueBack node asked (told_of asked c)) same due).1)
  IsCallLost-answered one other whole left None taken not = absurd not

  -- one that takes of an allowance, where what comes back doesn't make up what is due then
  module _ (was hand : AllowanceView) (size whole left : ℕ) (up : given_up asked ≡ Some size)
      (granted : (given : Reply) → granted_to asked given ≡ None) (on : conit_of asked ≡ was.conit) (all : whole ≡ was.amount)
      (enough : size ≤ was.amount) (rest : left ≡ was.amount - size) where
    made_up-due : hand ≡ with_amount was (was.amount - size) → (one : Outcome) → IsDueBack node asked (told_of asked one) → IsMadeUp one hand whole left
    made_up-due less (outcome.Stands given back) due =
        subst (λ (b : Option AllowanceView). MakesUp hand b left) (sym (due.2 ∙ ap (moved_by node asked) (granted given)))
        (ap (λ (a : AllowanceView). a.amount) less ∙ sym rest)
    made_up-due less (outcome.Dropped back) due =
        subst (λ (b : Option AllowanceView). MakesUp hand b whole) (sym (due ∙ ap (moved_by node asked) up))
        (on ∙ sym (ap (λ (a : AllowanceView). a.conit) less), omega (arith, ap (λ (a : AllowanceView). a.amount) less))

    pub IsCallLost-taken : hand ≡ lost_with (Some size) told was → (IsMadeUp came hand whole left → ⊥) → IsCallLost node asked before after
    IsCallLost-taken less not = go failed
      where
        go : IsOutcomeOf told after came → IsCallLost node asked before after
        go (inl (halted, nothing)) =
            let same : hand ≡ was = subst (λ (t : NodeFault). hand ≡ lost_with (Some size) t was) halted less in
            absurd (not (subst (λ (c : Outcome). IsMadeUp c hand whole left) (sym nothing) (ap (λ (a : AllowanceView). a.amount) same ∙ sym all)))
        go (inr (journal, marked)) =
            IsCallLost-came marked
            (λ due. not (made_up-due (subst (λ (t : NodeFault). hand ≡ lost_with (Some size) t was) journal less) came due))

pub IsCallLost-reserve : (node : NodeView) (conit amount : ℕ) (before after : SessionView) (told : NodeFault) (came : Outcome)
    → IsOutcomeOf told after came
    → IsOutcome node.desk.setup (request.Reserve conit amount) before after came
    → IsNoReserving came conit amount
    → IsCallLost node (request.Reserve conit amount) before after
IsCallLost-reserve node conit amount before after told came failed is none =
    IsCallLost-came node (request.Reserve conit amount) before after told came failed is
    (marked-came node (request.Reserve conit amount) before after told came failed is (λ nothing. none None nothing))
    (λ due. reserve-due node conit amount came due none)

-- where another call came back
pub IsCallLost-told : (node : NodeView) (asked : Request) (before after : SessionView) (told : Resumed)
    → after.faults ≢ 0
    → HasComeBack node.desk.setup before after told
    → ((any : NodeView) → IsDueBack any asked told → ⊥)
    → IsCallLost node asked before after
IsCallLost-told node asked before after told marked back other =
    record { marked = marked; cause = inr (record { told = told; back = back; other = other node }) }
