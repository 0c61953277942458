-- What stays true behind the lock when an entry is made that is no call.
use Rattle.std.proofs.Common.{◌≡◌, ◌≢◌, ℕ, ◌+◌, ◌*◌, ◌<◌, ◌^◌, max, false, cond, List, [], ◌∷◌, ◌++◌, Contains, OnOk, Result, drop, length, get_or, replicate, sum, refl, sym, ap, ◌∙◌, subst, arith}
use Rattle.std.proofs.lemmas.List.{length_push}
use Rattle.std.proofs.lemmas.List.Elements.{Contains-push}
use Rattle.std.proofs.lemmas.List.FromFn.{length-range_with_len}
use Rattle.std.proofs.lemmas.List.Sums.{sum_by_push}
use Rattle.std.proofs.lemmas.Result.{on_ok_weaker}
use Rattle.std.proofs.lemmas.Simd.{splat_is_map}
use Rattle.tact_base.specs.Setup.{Setup, replicas_of}
use Rattle.tact_base.specs.declared.limits.TheConstants.{CLIENTS}
use Rattle.run_model.specs.Histories.{part_of, calls_in, is_call_of, moment_at, sent_by_act, sent_in, IsPrefix}
use Rattle.run_model.specs.Messages.{message_of}
use Rattle.run_model.specs.Missing.{granted_by, used_by, reserved}
use Rattle.run_model.specs.Ranges.{IsActInRange}
use Rattle.run_model.specs.Runs.{IsDue, IsRun}
use Rattle.run_model.specs.ScriptRuns.{zeros}
use Rattle.run_model.specs.declared.entry.Act.{Act}
use Rattle.run_model.specs.declared.entry.Act.TheVariants as act
use Rattle.run_model.specs.declared.entry.Entry.{Entry}
use Rattle.run_model.specs.declared.entry.Message.{Message}
use Rattle.run_model.proofs.PartLemmas.{calls_in-push, part_of-push_same, sent_in-push_some}
use Rattle.replica_core.specs.States.{Core, is_full}
use Rattle.replica_core.specs.Stands.{Stands, GoesOn, IsSameReplica}
use Rattle.replica_core.specs.Taking.{FitsAt}
use Rattle.replica_core.specs.Sending.{next_message}
use Rattle.replica_core.proofs.SendLemmas.{next_due}
use Rattle.replica_core.proofs.SentMessages.{sent_message_fits_core}
use Rattle.locked_replica.specs.Locks.{HasDrawn, HasEntered, IsLocked, LockedView, entry_in, made_place, part_in, turns_place}
use Rattle.locked_replica.specs.Parcels.{HasSending, message_to}
use Rattle.locked_replica.proofs.Entering.{part-after, replica-after, own-after, goes_on-due, has_room, HasEntered-learnt}
use Rattle.locked_replica.proofs.Totals.{entered, entered-places, entered-else, entered-made}

-- An act that is no call of a client, and neither reserves nor uses anything.
pub record IsQuietAct (done : Act) : Type 0 where
  pub calls : (one : ℕ) → is_call_of one done ≡ false
  pub grants : (conit : ℕ) → granted_by conit done ≡ 0
  pub uses : (conit : ℕ) → used_by conit done ≡ 0

pub quiet-send : (message : Message) → IsQuietAct (act.Send message)
quiet-send message = record { calls = λ one. refl; grants = λ conit. refl; uses = λ conit. refl }

pub quiet-take : (message : Message) → IsQuietAct (act.Take message)
quiet-take message = record { calls = λ one. refl; grants = λ conit. refl; uses = λ conit. refl }

pub quiet-lend : (holder conit amount : ℕ) → IsQuietAct (act.Lend holder conit amount)
quiet-lend holder conit amount = record { calls = λ one. refl; grants = λ at. refl; uses = λ at. refl }

pub quiet-back : (owner conit amount : ℕ) → IsQuietAct (act.Back owner conit amount)
quiet-back owner conit amount = record { calls = λ one. refl; grants = λ at. refl; uses = λ at. refl }

pub quiet-restart : IsQuietAct act.Restart
quiet-restart = record { calls = λ one. refl; grants = λ at. refl; uses = λ at. refl }

-- an entry as its parts spell it
abbrev pub made_entry : ℕ → ℕ → Act → Entry
made_entry replica moment done = record { replica = replica; moment = moment; act = done }

-- An act of the replica, by which it goes on.
module _ (before : LockedView) (new : Core) (handed : ℕ) (done : Act) (replica at : ℕ) (kept : IsLocked before)
    (goes : GoesOn before.core new handed (λ part. done)) (replica_is : replica ≡ before.core.replica) (at_is : at ≡ moment_at (part_in before) handed) where
  pub made-spelled : entry_in before handed done ≡ made_entry replica at done
  made-spelled = cc

  pub made-stands : Stands (part_in before ++ made_entry replica at done ∷ []) new
  made-stands = subst (λ (e : Entry). Stands (part_in before ++ e ∷ []) new) made-spelled (goes (part_in before) kept.stands)

  pub made-due : (setup : Setup) → setup ≡ new.setup → IsDue setup (part_in before) (made_entry replica at done)
  made-due setup same = goes_on-due setup (part_in before) (made_entry replica at done) new same made-stands

  pub made-room : (client : ℕ) → client < CLIENTS → get_or before.totals (made_place before.core.setup.conits client) 0 + 1 < 2 ^ 64
  made-room client among = (has_room before client kept among (made-due new.setup refl).room).1

-- One more entry that is no call, made for a client.
module _ (before after : LockedView) (setup : Setup) (client : ℕ) (entry : Entry)
    (kept : IsLocked before) (among : client < CLIENTS) (same : IsSameReplica before.core after.core)
    (drawn : HasDrawn setup before.clerk after.clerk entry) (stored : after.stored ≡ after.clerk.pairs) where
  pub IsLocked-made : IsQuietAct entry.act
      → Stands (part_in before ++ entry ∷ []) after.core
      → after.totals ≡ entered before.core.setup.conits client before.totals kept.places among
      → IsLocked after
  IsLocked-made quiet stands totals =
      let conits = before.core.setup.conits in
      let width : after.core.setup.conits ≡ conits = ap (λ (s : Setup). s.conits) same.0 in
      let grown = part-after before after setup client entry kept among same drawn stored in
      record {
        replica = replica-after before after setup client entry kept among same drawn stored;
        stands = subst (λ part. Stands part after.core) (sym grown) stands;
        drawn = sym stored;
        own = own-after before after setup client entry kept among same drawn stored;
        places = ap length totals ∙ entered-places conits client before.totals kept.places among ∙ ap (λ n. n + 2 * CLIENTS) (sym width);
        allowances = λ conit within.
            let here = entered-else conits client before.totals kept.places among conit (λ e. absurd (omega (arith, e, within, width))) in
            let were = kept.allowances conit (omega (arith, within, width)) in
            let grants = sum_by_push (λ (e : Entry). granted_by conit e.act) (part_in before) entry in
            let uses = sum_by_push (λ (e : Entry). used_by conit e.act) (part_in before) entry in
            let now : reserved (part_in before ++ entry ∷ []) conit ≡ reserved (part_in before) conit = omega (arith, grants, uses, quiet.grants conit, quiet.uses conit) in
            ap (λ t. get_or t conit 0) totals ∙ here ∙ were ∙ sym now ∙ sym (ap (λ part. reserved part conit) grown);
        turns = λ one within.
            let moved : get_or after.totals (turns_place after.core.setup.conits one) 0 ≡ get_or (entered conits client before.totals kept.places among) (turns_place conits one) 0 =
            ap (λ n. get_or after.totals (turns_place n one) 0) width ∙ ap (λ t. get_or t (turns_place conits one) 0) totals in
            let here = entered-else conits client before.totals kept.places among (turns_place conits one) (λ e. absurd (omega (arith, e, within))) in
            let pushed : calls_in (part_in after) one ≡ calls_in (part_in before) one + 0 =
            ap (λ part. calls_in part one) grown ∙ calls_in-push (part_in before) entry one ∙ ap (λ b. calls_in (part_in before) one + cond b 1 0) (quiet.calls one) in
            omega (arith, moved, here, pushed, kept.turns one within);
        made =
            ap (λ n. sum (drop (n + CLIENTS) after.totals)) width
            ∙ ap (λ t. sum (drop (conits + CLIENTS) t)) totals
            ∙ entered-made conits client before.totals kept.places among
            ∙ ap (λ n. n + 1) kept.made
            ∙ sym (ap length (stored ∙ drawn.pairs) ∙ length_push before.clerk.pairs (length drawn.front, entry) ∙ ap (λ pairs. length pairs + 1) kept.drawn);
      }

-- what was sent last was sent
pub sent-last : (front seen : List Entry) (entry : Entry) (message : Message)
    → seen ≡ front ++ entry ∷ []
    → entry.act ≡ act.Send message
    → message.from ≡ entry.replica
    → HasSending seen message
sent-last front seen entry message is sends from =
    let all : sent_in (part_of seen message.from) ≡ sent_in (part_of front message.from) ++ message ∷ [] =
    ap (λ h. sent_in (part_of h message.from)) is ∙ ap sent_in (part_of-push_same front entry message.from (sym from))
    ∙ sent_in-push_some (part_of front message.from) entry message (ap sent_by_act sends) in
    subst (λ sent. Contains sent message) (sym all) (Contains-push (sent_in (part_of front message.from)) message)

-- who is said to send what is sent
pub sender-due : (setup : Setup) (part : List Entry) (entry : Entry) (message : Message)
    → IsDue setup part entry
    → entry.act ≡ act.Send message
    → message.from ≡ entry.replica
sender-due setup part entry message due sends = (subst (IsActInRange setup entry.replica) sends due.in_range.act).1

-- the zeros that are handed as firsts
pub no_firsts : (setup : Setup) (firsts : List ℕ) → firsts ≡ replicate setup.replicas 0 → firsts ≡ zeros setup
no_firsts setup firsts is = is ∙ splat_is_map (replicas_of setup) setup.replicas 0 (length-range_with_len 0 setup.replicas)

-- a message that was sent to the replica fits it, unless it is full
pub fits-sent : (locked : LockedView) (setup : Setup) (message : Message)
    → IsLocked locked
    → locked.core.setup ≡ setup
    → IsRun setup locked.clerk.seen
    → message.to ≡ locked.core.replica
    → HasSending locked.clerk.seen message
    → is_full locked.core ≡ false
    → FitsAt locked.core message
fits-sent locked setup message kept of_setup run to sent free =
    sent_message_fits_core locked.clerk.seen message locked.core
    (subst (λ part. Stands part locked.core) (sym (ap (part_of locked.clerk.seen) to ∙ kept.own)) kept.stands)
    (subst (λ s. IsRun s locked.clerk.seen) (sym of_setup) run) sent (sym to) free

-- the message for which zeros were handed as firsts
pub message-firsts : (locked : LockedView) (firsts : List ℕ) (moment to : ℕ) (message : Message)
    → firsts ≡ replicate locked.core.setup.replicas 0
    → message ≡ message_of locked.core.setup locked.core.replica (part_in locked) (moment_at (part_in locked) moment) to firsts
    → message ≡ message_to locked.core.setup locked.core.replica (part_in locked) moment to
message-firsts locked firsts moment to message none is =
    is ∙ ap (message_of locked.core.setup locked.core.replica (part_in locked) (moment_at (part_in locked) moment) to) (no_firsts locked.core.setup firsts none)

-- of two parts for which a replica stands one message is due
pub one_message : (one two : List Entry) (core : Core) (handed to : ℕ) (given : List ℕ)
    → Stands one core
    → Stands two core
    → core.replica < core.setup.replicas
    → to < core.setup.replicas
    → to ≢ core.replica
    → message_of core.setup core.replica one (moment_at one handed) to given ≡ message_of core.setup core.replica two (moment_at two handed) to given
one_message one two core handed to given stands other among to_in apart = sym (told one stands) ∙ told two other
  where
    told : (part : List Entry)
        → Stands part core
        → next_message core (max handed core.counts.last) to given ≡ message_of core.setup core.replica part (moment_at part handed) to given
    told part stands =
        next_due part core stands among (max handed core.counts.last) to given to_in apart
        ∙ ap (λ (m : ℕ). message_of core.setup core.replica part m to given) (ap (max handed) stands.counts.last)

-- the same before the clerk learnt more, of an entry that was made
pub OnOk-learnt : {X F : Type 0} (result : Result X F) (before learnt after : LockedView) (known : List Entry) (moment : ℕ) (done : Act)
    → learnt ≡ record before { clerk = learnt.clerk }
    → IsPrefix before.clerk.seen learnt.clerk.seen
    → IsPrefix known learnt.clerk.seen
    → OnOk result (HasEntered learnt after learnt.clerk.seen (entry_in learnt moment done))
    → OnOk result (HasEntered before after known (entry_in before moment done))
OnOk-learnt result before learnt after known moment done value mine told entered =
    on_ok_weaker result
    (λ at. subst (HasEntered before after known) (ap (λ v. entry_in v moment done) value)
    (HasEntered-learnt before learnt after known (entry_in learnt moment done) value mine told at))
    entered
