-- What a call that was refused leaves of a session, and what comes back of it when the node has begun anew.
use Rattle.std.proofs.Common.{◌≡◌, ◌≢◌, ◌⊎◌, ℕ, ◌+◌, ◌<◌, true, false, List, [], ◌∷◌, ◌++◌, Option, length, take, refl, sym, ap, ◌∙◌, inl, inr, arith}
use Rattle.tact_base.specs.Setup.{Setup}
use Rattle.run_model.specs.declared.entry.Act.TheVariants as act
use Rattle.run_model.specs.declared.entry.Entry.{Entry}
use Rattle.locked_replica.specs.declared.fault.NodeFault.{NodeFault}
use Rattle.locked_replica.specs.declared.fault.NodeFault.TheVariants as fault
use Rattle.replica_lock.specs.Resuming.{HasResumed}
use Rattle.replica_lock.specs.Allowances.{AllowanceView, lost_with}
use Rattle.replica_lock.specs.Sessions.{HasHeard, HasMade, IsFaultSeen, SessionView, failed_by, own_calls}
use Rattle.replica_lock.specs.declared.resuming.Resumed.{Resumed}
use Rattle.replica_lock.specs.declared.resuming.Resumed.TheVariants as resumed
use Rattle.steady_node.specs.Endings.{IsTold}
use Rattle.steady_node.specs.Going.{GoesOn, IsUnmarked, entries_left}
use Rattle.steady_node.specs.Settled.{HasComeBack, IsRefused, is_doubtful}
use Rattle.steady_node.proofs.Goings.{GoesOn-made, GoesOn-marked, GoesOn-trans, client-on, first_calls, going, left-made, left-on, replica-on, risen-some, unmarked-before}

module _ (setup : Setup) (before after : SessionView) where
  -- a session that was refused a call has marked why, and is in doubt where the journal failed
  told-failed : (told : NodeFault) → HasHeard setup before (failed_by told before) after → IsFaultSeen after told → IsTold told after
  told-failed fault.Halted heard seen = λ none. risen-some before.halts (sym (ap (λ (s : SessionView). s.halts) heard.value) ∙ none)
  told-failed fault.JournalFault heard seen = λ none. risen-some before.faults (sym (ap (λ (s : SessionView). s.faults) heard.value) ∙ none)
  told-failed (fault.Full count stamp) heard seen = seen
  told-failed fault.NoMemory heard seen = tt

  doubt-failed : (told : NodeFault) → before.doubt ≡ false → HasHeard setup before (failed_by told before) after → after.doubt ≡ is_doubtful told
  doubt-failed fault.Halted certain heard = ap (λ (s : SessionView). s.doubt) heard.value ∙ certain
  doubt-failed fault.JournalFault certain heard = ap (λ (s : SessionView). s.doubt) heard.value
  doubt-failed (fault.Full count stamp) certain heard = ap (λ (s : SessionView). s.doubt) heard.value ∙ certain
  doubt-failed fault.NoMemory certain heard = ap (λ (s : SessionView). s.doubt) heard.value ∙ certain

  count-failed : (told : NodeFault) → HasHeard setup before (failed_by told before) after → after.calls ≡ before.calls
  count-failed fault.Halted heard = ap (λ (s : SessionView). s.calls) heard.value
  count-failed fault.JournalFault heard = ap (λ (s : SessionView). s.calls) heard.value
  count-failed (fault.Full count stamp) heard = ap (λ (s : SessionView). s.calls) heard.value
  count-failed fault.NoMemory heard = ap (λ (s : SessionView). s.calls) heard.value

  pub IsRefused-failed : (told : NodeFault)
      → before.doubt ≡ false
      → before.calls ≡ length (own_calls before)
      → HasHeard setup before (failed_by told before) after
      → IsFaultSeen after told
      → IsRefused told after
  IsRefused-failed told certain counted heard seen = record {
    counted = count-failed told heard ∙ counted ∙ ap length (sym (heard.calls certain));
    doubt = doubt-failed told certain heard;
    told_is = told-failed told heard seen;
  }

  -- a session that resumes goes on
  pub resumed-on : (told : Resumed) → before.doubt ≡ true → HasResumed setup before after told → GoesOn 1 before after
  resumed-on resumed.Nothing doubt has = absurd (let never : true ≡ false = sym doubt ∙ has.0 in cc)
  resumed-on (resumed.Stands asked given allowance) doubt stood =
      going 1 before after (before.calls + 1) before.made before.faults before.halts false stood.value stood.settled.told (omega arith) (omega arith) (omega arith)
  resumed-on (resumed.Dropped allowance) doubt fallen =
      going 1 before after before.calls before.made before.faults before.halts false fallen.value fallen.settled.told (omega arith) (omega arith) (omega arith)

  pub resumed-certain : (told : Resumed) → before.doubt ≡ true → HasResumed setup before after told → after.doubt ≡ false
  resumed-certain resumed.Nothing doubt has = absurd (let never : true ≡ false = sym doubt ∙ has.0 in cc)
  resumed-certain (resumed.Stands asked given allowance) doubt stood = ap (λ (s : SessionView). s.doubt) stood.value
  resumed-certain (resumed.Dropped allowance) doubt fallen = ap (λ (s : SessionView). s.doubt) fallen.value

-- a session in doubt, after its node began anew any number of times
pub record IsDoubting (before now : SessionView) : Type 0 where
  pub on : GoesOn 1 before now
  pub doubt : now.doubt ≡ true
  pub calls : now.calls ≡ before.calls

-- what comes back of its call
pub HasComeBack-resumed : (setup : Setup) (before now after : SessionView) (told : Resumed)
    → before.calls ≡ length (own_calls before)
    → IsDoubting before now
    → HasResumed setup now after told
    → HasComeBack setup before after told
HasComeBack-resumed setup before now after resumed.Nothing counted doubting has =
    absurd (let never : true ≡ false = sym doubting.doubt ∙ has.0 in cc)
HasComeBack-resumed setup before now after (resumed.Stands asked given allowance) counted doubting stood = record {
  entry = stood.entry;
  number = stood.number;
  act_is = stood.call ∙ ap (λ (k : ℕ). act.Call k stood.number asked given) (client-on 1 before now doubting.on);
  calls =
      stood.calls
      ∙ ap (λ (n : ℕ). take n (own_calls now) ++ stood.entry ∷ []) doubting.calls
      ∙ ap (λ (list : List Entry). list ++ stood.entry ∷ [])
      (first_calls before now before.calls doubting.on.told (replica-on 1 before now doubting.on) (client-on 1 before now doubting.on) counted);
  run = stood.settled.run;
  promised = stood.settled.promised;
}
HasComeBack-resumed setup before now after (resumed.Dropped allowance) counted doubting fallen =
    fallen.calls
    ∙ ap (λ (n : ℕ). take n (own_calls now)) doubting.calls
    ∙ first_calls before now before.calls doubting.on.told (replica-on 1 before now doubting.on) (client-on 1 before now doubting.on) counted

-- a session in doubt, after its node began anew once more: it is marked
module _ (setup : Setup) (before now again : SessionView) (moment : ℕ) (marked : before.faults ≢ 0) (doubting : IsDoubting before now)
    (made : HasMade setup now again moment act.Restart) where
  stays_marked : (most : ℕ) (after : SessionView) → GoesOn most before after → IsUnmarked after → ⊥
  stays_marked most after on unmarked = marked (unmarked-before most before after on unmarked).0

  again-on : GoesOn 1 before again
  again-on =
      let on = GoesOn-trans 1 1 before now again doubting.on (GoesOn-made setup now again moment act.Restart made) in
      GoesOn-marked (1 + 1) 1 before again (stays_marked (1 + 1) again on) on

  IsDoubting-again : IsDoubting before again
  IsDoubting-again = record {
    on = again-on;
    doubt = ap (λ (s : SessionView). s.doubt) made.counts ∙ doubting.doubt;
    calls = ap (λ (s : SessionView). s.calls) made.counts ∙ doubting.calls;
  }

  -- and after it resumed
  module _ (after : SessionView) (told : Resumed) (has : HasResumed setup again after told) where
    last-on : GoesOn 1 again after
    last-on = resumed-on setup again after told IsDoubting-again.doubt has

    pub GoesOn-resumed : GoesOn 1 before after
    GoesOn-resumed =
        let on = GoesOn-trans 1 1 before again after again-on last-on in
        GoesOn-marked (1 + 1) 1 before after (stays_marked (1 + 1) after on) on

    pub nearer-resumed : entries_left after < entries_left before
    nearer-resumed =
        omega (
          arith,
          left-on again after last-on.told (replica-on 1 again after last-on),
          left-made setup now again moment act.Restart made,
          left-on before now doubting.on.told (replica-on 1 before now doubting.on),
        )

    pub HasComeBack-again : before.calls ≡ length (own_calls before) → HasComeBack setup before after told
    HasComeBack-again counted = HasComeBack-resumed setup before again after told counted IsDoubting-again has

-- where a node went on without a call, it was halted, if its journal hadn't failed
pub only-halted : {P : Type 0} (told : NodeFault)
    → (told ≡ fault.JournalFault → ⊥)
    → (told ≡ fault.Halted) ⊎ (told ≡ fault.JournalFault)
    → P
    → ((told ≡ fault.Halted) × P)
only-halted told other (inl halted) holds = (halted, holds)
only-halted told other (inr failed) holds = absurd (other failed)

-- an allowance is what it was after a fault that puts no session in doubt
pub lost_with-certain : (lost : Option ℕ) (told : NodeFault) (allowance : AllowanceView)
    → is_doubtful told ≡ false
    → lost_with lost told allowance ≡ allowance
lost_with-certain lost fault.JournalFault allowance certain = cc
lost_with-certain lost fault.Halted allowance certain = refl
lost_with-certain lost (fault.Full count stamp) allowance certain = refl
lost_with-certain lost fault.NoMemory allowance certain = refl
