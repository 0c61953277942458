-- What the replicas have seen of a round, a note has seen that took it in.
use Rattle.std.proofs.Common.{◌≡◌, ℕ, ◌+◌, ◌*◌, ◌<◌, ◌≤◌, List, None, Result, Ok, Err, OnOk, get_or, length, map, sym, ap, ◌∙◌, arith}
use Rattle.std.specs.Result.{result_err}
use Rattle.std.proofs.lemmas.List.{get_or-map}
use Rattle.std.proofs.lemmas.Option.{none-some}
use Rattle.tact_base.specs.Setup.{Setup}
use Rattle.run_model.specs.Histories.{IsPrefix}
use Rattle.run_model.specs.Runs.{IsRun}
use Rattle.run_model.specs.declared.entry.Entry.{Entry}
use Rattle.link_faults.specs.Inboxes.{InboxState}
use Rattle.link_faults.specs.Plans.{no_faults}
use Rattle.link_faults.specs.declared.plan.LinkPlan.{LinkPlan}
use Rattle.locked_replica.specs.Parcels.{ParcelView}
use Rattle.run_work.specs.Rounds.{HasArrived, HasSeenAt, lose_at, made_at}
use Rattle.run_work.specs.Ends.{made_by}
use Rattle.run_work.specs.Settling.{HasMet, HaveMadeFew, SettlingView}
use Rattle.run_work.proofs.Meetings.{HasMet-seen}
use Rattle.run_work.proofs.RoundSteps.{HasSeenSending-map, HasSeenTaking-map}

-- where there is no error there is a value
pub on_ok_none : {X E P : Type 0} (result : Result X E) → result_err result ≡ None → OnOk result P → P
on_ok_none (Ok x) none holds = holds
on_ok_none (Err e) none holds = absurd (none-some e (sym none))

-- by number what was made, for each end
pub HaveMadeFew-from : (rounds : ℕ) (before after : SettlingView)
    → length after.ends ≡ length before.ends
    → ((replica : ℕ) → replica < length before.ends → made_at after replica ≤ made_at before replica + (1024 + 21 * rounds))
    → HaveMadeFew rounds before after
HaveMadeFew-from rounds before after count made replica none within =
    omega (arith, made replica within, get_or-map made_by before.ends replica none 0 within, get_or-map made_by after.ends replica none 0 (omega (arith, within, count)))

-- the plan of a link, whose plans are what they were
pub lose_at-there : (before after : SettlingView) (replica : ℕ) (none : InboxState ParcelView)
    → replica < length before.inboxes
    → map (λ (inbox : InboxState ParcelView). inbox.plan) after.inboxes ≡ map (λ (inbox : InboxState ParcelView). inbox.plan) before.inboxes
    → lose_at after replica ≡ (get_or before.inboxes replica none).plan.lose
lose_at-there before after replica none within plans =
    ap (λ (plans : List LinkPlan). (get_or plans replica no_faults).lose) plans
    ∙ ap (λ (plan : LinkPlan). plan.lose) (get_or-map (λ (inbox : InboxState ParcelView). inbox.plan) before.inboxes replica none no_faults within)

pub HaveMet-arrived : (setup : Setup) (history front : List Entry) (settling : SettlingView) (from to lose : ℕ)
    → IsRun setup history
    → lose_at settling to ≡ lose
    → ((replica : ℕ) (seen : List Entry) → replica < length settling.nodes → HasSeenAt settling replica seen → IsPrefix seen history)
    → from < length settling.nodes
    → to < length settling.nodes
    → HasArrived front from to settling
    → HasMet lose front history from to
HaveMet-arrived setup history front settling from to lose run lose_is told from_within to_within arrived =
    HasMet-seen setup history run lose front from to arrived.message
    (HasSeenSending-map (HasSeenAt settling from) (λ seen. IsPrefix seen history) front from to arrived.message (λ seen. told from seen from_within) arrived.sent)
    (λ none. HasSeenTaking-map (HasSeenAt settling to) (λ seen. IsPrefix seen history) to arrived.message (λ seen. told to seen to_within) (arrived.taken (lose_is ∙ none)))
