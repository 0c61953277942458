-- How a session goes on without a call: by an entry that is none, by a refusal that it marks, and one after the other.
use Rattle.std.proofs.Common.{◌≡◌, ℕ, ◌+◌, ◌<◌, ◌≤◌, false, refl, sym, ap, ◌∙◌, subst, arith}
use Rattle.std.specs.Prelude.{IfErr, IfOk, OnOk, Result, Ok, Err}
use Rattle.atomic_table.specs.Seated.{TableId}
use Rattle.tact_base.specs.Setup.{Setup}
use Rattle.run_model.specs.declared.entry.Act.{Act}
use Rattle.run_model.specs.declared.entry.Act.TheVariants as act
use Rattle.run_model.specs.declared.entry.Message.{Message}
use Rattle.postbox.specs.Posts.{IsFor}
use Rattle.locked_replica.specs.Parcels.{ParcelView}
use Rattle.locked_replica.specs.declared.fault.NodeFault.{NodeFault}
use Rattle.locked_replica.specs.declared.fault.NodeFault.TheVariants as fault
use Rattle.locked_replica.specs.declared.fault.NodeLoanFault.{NodeLoanFault}
use Rattle.locked_replica.specs.declared.fault.NodeLoanFault.TheVariants as loan_fault
use Rattle.locked_replica.specs.declared.loan.Loan.{Loan}
use Rattle.replica_lock.specs.Ledgers.{risen}
use Rattle.replica_lock.specs.Loans.{IsLoanFaultSeen}
use Rattle.replica_lock.specs.Sessions.{HasHeard, HasMade, HasSent, IsFaultSeen, IsSessionOf, NodeView, SessionView, marked_by, marked_lent, own_calls}
use Rattle.steady_node.specs.Endings.{IsTold}
use Rattle.steady_node.specs.Going.{GoesOn, IsUnmarked, entries_left}
use Rattle.steady_node.proofs.Goings.{GoesOn-made, GoesOn-marked, GoesOn-same, GoesOn-trans, IsAtNode-on, going, left-on, replica-on, risen-least, risen-some}
use Rattle.run_work.specs.Holding.{IsQuiet}
use Rattle.run_work.specs.Trying.{IsLoanTold, is_refused}

-- with as many entries or more
pub GoesOn-weaker : (few most : ℕ) (before after : SessionView)
    → few ≤ most
    → GoesOn few before after
    → GoesOn most before after
GoesOn-weaker few most before after less on = record {
  value = on.value;
  told = on.told;
  faults = on.faults;
  halts = on.halts;
  few = λ unmarked.
      let made = on.few unmarked in
      omega (arith, less, made);
}

module _ (setup : Setup) (before after : SessionView) where
  -- a refusal that is marked
  pub GoesOn-heard : (most : ℕ) (told : NodeFault) → HasHeard setup before (marked_by told before) after → GoesOn most before after
  GoesOn-heard most fault.Halted heard =
      going most before after before.calls before.made before.faults (risen before.halts) before.doubt heard.value heard.told (omega arith) (risen-least before.halts) (omega arith)
  GoesOn-heard most fault.JournalFault heard =
      going most before after before.calls before.made (risen before.faults) before.halts before.doubt heard.value heard.told (risen-least before.faults) (omega arith) (omega arith)
  GoesOn-heard most (fault.Full count stamp) heard =
      going most before after before.calls before.made before.faults before.halts before.doubt heard.value heard.told (omega arith) (omega arith) (omega arith)
  GoesOn-heard most fault.NoMemory heard =
      going most before after before.calls before.made before.faults before.halts before.doubt heard.value heard.told (omega arith) (omega arith) (omega arith)

  doubt-heard : (told : NodeFault) → HasHeard setup before (marked_by told before) after → after.doubt ≡ before.doubt
  doubt-heard fault.Halted heard = ap (λ (s : SessionView). s.doubt) heard.value
  doubt-heard fault.JournalFault heard = ap (λ (s : SessionView). s.doubt) heard.value
  doubt-heard (fault.Full count stamp) heard = ap (λ (s : SessionView). s.doubt) heard.value
  doubt-heard fault.NoMemory heard = ap (λ (s : SessionView). s.doubt) heard.value

  -- and what it tells
  pub IsTold-heard : (told : NodeFault) → HasHeard setup before (marked_by told before) after → IsFaultSeen after told → IsTold told after
  IsTold-heard fault.Halted heard seen = λ none. risen-some before.halts (sym (ap (λ (s : SessionView). s.halts) heard.value) ∙ none)
  IsTold-heard fault.JournalFault heard seen = λ none. risen-some before.faults (sym (ap (λ (s : SessionView). s.faults) heard.value) ∙ none)
  IsTold-heard (fault.Full count stamp) heard seen = seen
  IsTold-heard fault.NoMemory heard seen = tt

  pub IsTold-if : {A : Type 0} (answer : Result A NodeFault)
      → IfErr answer (λ told. HasHeard setup before (marked_by told before) after)
      → IfErr answer (IsFaultSeen after)
      → IfErr answer (λ told. IsTold told after)
  IsTold-if (Ok given) heard seen = tt
  IsTold-if (Err told) heard seen = IsTold-heard told heard seen

  -- neither is a call
  module _ (certain : before.doubt ≡ false) where
    pub IsQuiet-made : (moment : ℕ) (done : Act) → HasMade setup before after moment done → IsQuiet 1 before after
    IsQuiet-made moment done made = record {
      later = GoesOn-made setup before after moment done made;
      calls = made.calls certain;
      doubt = ap (λ (s : SessionView). s.doubt) made.counts;
    }

    pub IsQuiet-heard : (most : ℕ) (told : NodeFault) → HasHeard setup before (marked_by told before) after → IsQuiet most before after
    IsQuiet-heard most told heard = record {
      later = GoesOn-heard most told heard;
      calls = heard.calls certain;
      doubt = doubt-heard told heard;
    }

-- the same where nothing was done
pub IsQuiet-same : (session : SessionView) (most : ℕ) → IsQuiet most session session
IsQuiet-same session most = record { later = GoesOn-same most session; calls = refl; doubt = refl }

pub IsQuiet-weaker : (few most : ℕ) (before after : SessionView)
    → few ≤ most
    → IsQuiet few before after
    → IsQuiet most before after
IsQuiet-weaker few most before after less quiet = record {
  later = GoesOn-weaker few most before after less quiet.later;
  calls = quiet.calls;
  doubt = quiet.doubt;
}

-- with any count of entries where it is marked
pub IsQuiet-marked : (few most : ℕ) (before after : SessionView)
    → (IsUnmarked after → ⊥)
    → IsQuiet few before after
    → IsQuiet most before after
IsQuiet-marked few most before after marked quiet = record {
  later = GoesOn-marked few most before after marked quiet.later;
  calls = quiet.calls;
  doubt = quiet.doubt;
}

pub IsQuiet-trans : (few more : ℕ) (before between after : SessionView)
    → IsQuiet few before between
    → IsQuiet more between after
    → IsQuiet (few + more) before after
IsQuiet-trans few more before between after first second = record {
  later = GoesOn-trans few more before between after first.later second.later;
  calls = second.calls ∙ first.calls;
  doubt = second.doubt ∙ first.doubt;
}

-- it may still be asked at its node
pub IsSessionOf-quiet : (node : NodeView) (most : ℕ) (before after : SessionView)
    → IsQuiet most before after
    → IsSessionOf node before
    → IsSessionOf node after
IsSessionOf-quiet node most before after quiet of = record {
  at = IsAtNode-on node most before after quiet.later of.at;
  certain = quiet.doubt ∙ of.certain;
}

-- A session goes on further without a call, and isn't in doubt then.
IsQuiet-then : (few more : ℕ) (before between after : SessionView)
    → before.doubt ≡ false
    → IsQuiet few before between
    → GoesOn more between after
    → own_calls after ≡ own_calls between
    → after.doubt ≡ false
    → IsQuiet (few + more) before after
IsQuiet-then few more before between after certain first on calls now = record {
  later = GoesOn-trans few more before between after first.later on;
  calls = calls ∙ first.calls;
  doubt = now ∙ sym certain;
}

-- A loan or a return that was made, or refused.
pub IsQuiet-lent : (setup : Setup) (before after : SessionView) (moment : ℕ) (done : Act) (answer : Result (Unit {0}) NodeLoanFault)
    → before.doubt ≡ false
    → OnOk answer (HasMade setup before after moment done)
    → IfErr answer (λ told. HasHeard setup before (marked_lent told before) after)
    → IsQuiet 1 before after
IsQuiet-lent setup before after moment done (Ok given) certain made heard = IsQuiet-made setup before after certain moment done made
IsQuiet-lent setup before after moment done (Err (loan_fault.Node told)) certain made heard = IsQuiet-heard setup before after certain 1 told heard
IsQuiet-lent setup before after moment done (Err (loan_fault.Home conit most)) certain made heard = IsQuiet-heard setup before after certain 1 fault.NoMemory heard
IsQuiet-lent setup before after moment done (Err (loan_fault.Free conit most)) certain made heard = IsQuiet-heard setup before after certain 1 fault.NoMemory heard

-- where it was refused, and not for its amount, the session goes on, and else nothing more is done
pub IsQuiet-loan : (setup : Setup) (before between after : SessionView) (moment : ℕ) (done : Act) (answer : Result (Unit {0}) NodeLoanFault)
    → before.doubt ≡ false
    → OnOk answer (HasMade setup before between moment done)
    → IfErr answer (λ told. HasHeard setup before (marked_lent told before) between)
    → (is_refused answer ≡ false → after ≡ between)
    → GoesOn 1 between after
    → own_calls after ≡ own_calls between
    → after.doubt ≡ false
    → IsQuiet 1 before after
IsQuiet-loan setup before between after moment done (Ok given) certain made heard same on calls now =
    subst (IsQuiet 1 before) (sym (same refl)) (IsQuiet-made setup before between certain moment done made)
IsQuiet-loan setup before between after moment done (Err (loan_fault.Node told)) certain made heard same on calls now =
    IsQuiet-then 0 1 before between after certain (IsQuiet-heard setup before between certain 0 told heard) on calls now
IsQuiet-loan setup before between after moment done (Err (loan_fault.Home conit most)) certain made heard same on calls now =
    IsQuiet-then 0 1 before between after certain (IsQuiet-heard setup before between certain 0 fault.NoMemory heard) on calls now
IsQuiet-loan setup before between after moment done (Err (loan_fault.Free conit most)) certain made heard same on calls now =
    IsQuiet-then 0 1 before between after certain (IsQuiet-heard setup before between certain 0 fault.NoMemory heard) on calls now

-- what its refusal tells
pub IsLoanTold-heard : (setup : Setup) (before after : SessionView) (one : Loan) (answer : Result (Unit {0}) NodeLoanFault)
    → IfErr answer (λ told. HasHeard setup before (marked_lent told before) after)
    → IfErr answer (IsLoanFaultSeen setup after one)
    → IsLoanTold answer after
IsLoanTold-heard setup before after one (Ok given) heard seen = tt
IsLoanTold-heard setup before after one (Err (loan_fault.Node told)) heard seen = IsTold-heard setup before after told heard seen
IsLoanTold-heard setup before after one (Err (loan_fault.Home conit most)) heard seen = tt
IsLoanTold-heard setup before after one (Err (loan_fault.Free conit most)) heard seen = tt

-- a refusal, after which the session went on
pub IsQuiet-mended : (setup : Setup) (before between after : SessionView) (told : NodeFault)
    → before.doubt ≡ false
    → HasHeard setup before (marked_by told before) between
    → GoesOn 1 between after
    → own_calls after ≡ own_calls between
    → after.doubt ≡ false
    → IsQuiet 1 before after
IsQuiet-mended setup before between after told certain heard on calls now =
    IsQuiet-then 0 1 before between after certain (IsQuiet-heard setup before between certain 0 told heard) on calls now

pub left-mended : (setup : Setup) (before between after : SessionView) (told : NodeFault)
    → HasHeard setup before (marked_by told before) between
    → entries_left after < entries_left between
    → entries_left after < entries_left before
left-mended setup before between after told heard nearer =
    omega (arith, nearer, left-on before between heard.told (replica-on 0 before between (GoesOn-heard setup before between 0 told heard)))

-- A message that was sent, or refused.
module _ (setup : Setup) (before between : SessionView) (moment to : ℕ) where
  -- the parcel is for the replica that it is sent to
  pub IsFor-sent : (desk : TableId) (sent : Result ParcelView NodeFault)
      → IfOk sent (λ (parcel : ParcelView). (parcel.desk ≡ desk) × (parcel.seen ≡ between.seen))
      → IfOk sent (λ (parcel : ParcelView). HasSent setup before between moment to parcel.message)
      → IfOk sent (IsFor desk to)
  IsFor-sent desk (Ok parcel) of made = (of.0, ap (λ (m : Message). m.to) made.message_is)
  IsFor-sent desk (Err told) of made = tt

  module _ (certain : before.doubt ≡ false) where
    pub IsQuiet-send : (sent : Result ParcelView NodeFault)
        → IfOk sent (λ (parcel : ParcelView). HasSent setup before between moment to parcel.message)
        → IfErr sent (λ told. HasHeard setup before (marked_by told before) between)
        → IsQuiet 1 before between
    IsQuiet-send (Ok parcel) made heard = IsQuiet-made setup before between certain moment (act.Send parcel.message) made.made
    IsQuiet-send (Err told) made heard = IsQuiet-heard setup before between certain 1 told heard

    -- where it was refused, the session goes on, and else nothing more is done
    pub IsQuiet-sent : (after : SessionView) (sent : Result ParcelView NodeFault)
        → IfOk sent (λ (parcel : ParcelView). HasSent setup before between moment to parcel.message)
        → IfErr sent (λ told. HasHeard setup before (marked_by told before) between)
        → OnOk sent (after ≡ between)
        → IsQuiet 1 between after
        → IsQuiet 1 before after
    IsQuiet-sent after (Ok parcel) made heard same quiet =
        subst (IsQuiet 1 before) (sym same) (IsQuiet-made setup before between certain moment (act.Send parcel.message) made.made)
    IsQuiet-sent after (Err told) made heard same quiet =
        IsQuiet-trans 0 1 before between after (IsQuiet-heard setup before between certain 0 told heard) quiet
