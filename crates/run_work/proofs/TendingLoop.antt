-- A worker that takes and sends, which makes no call.
use Rattle.std.proofs.Common.{◌≡◌, ℕ, ◌+◌, ◌<◌, ◌≤◌, refl, sym, ap, ◌∙◌, subst, ⊎_elim, arith}
use Rattle.std.proofs.lemmas.Bool.{cases_lt}
use Rattle.replica_lock.specs.Sessions.{IsSessionOf, NodeView, SessionView}
use Rattle.steady_node.specs.Going.{IsUnmarked}
use Rattle.run_work.specs.Holding.{IsQuiet}
use Rattle.run_work.specs.Working.{WorkerView}
use Rattle.run_work.proofs.GoingOn.{IsQuiet-marked, IsQuiet-same, IsQuiet-trans, IsQuiet-weaker, IsSessionOf-quiet}

-- a worker with another session
abbrev pub with_session : WorkerView → SessionView → WorkerView
with_session worker session = record worker { session = session }

-- after at most so many entries
pub record IsTending (before : WorkerView) (most : ℕ) (now : WorkerView) : Type 0 where
  pub same : now ≡ with_session before now.session
  pub quiet : IsQuiet most before.session now.session

pub IsTending-start : (before : WorkerView) (most : ℕ) → IsTending before most before
IsTending-start before most = record { same = refl; quiet = IsQuiet-same before.session most }

pub IsTending-more : (before : WorkerView) (few more : ℕ) (now after : WorkerView)
    → IsTending before few now
    → after ≡ with_session now after.session
    → IsQuiet more now.session after.session
    → IsTending before (few + more) after
IsTending-more before few more now after tending same quiet = record {
  same = same ∙ ap (λ (w : WorkerView). with_session w after.session) tending.same;
  quiet = IsQuiet-trans few more before.session now.session after.session tending.quiet quiet;
}

pub IsTending-weaker : (before : WorkerView) (few most : ℕ) (now : WorkerView)
    → few ≤ most
    → IsTending before few now
    → IsTending before most now
IsTending-weaker before few most now less tending = record { same = tending.same; quiet = IsQuiet-weaker few most before.session now.session less tending.quiet }

-- it may still be asked at its node
pub IsSessionOf-tending : (before : WorkerView) (most : ℕ) (now : WorkerView)
    → IsTending before most now
    → IsSessionOf before.node before.session
    → IsSessionOf now.node now.session
IsSessionOf-tending before most now tending of =
    subst (λ (node : NodeView). IsSessionOf node now.session) (sym (ap (λ (w : WorkerView). w.node) tending.same))
    (IsSessionOf-quiet before.node most before.session now.session tending.quiet of)

-- where it is marked after one more entry, no count of them is known
pub IsTending-marked : (before : WorkerView) (few more most : ℕ) (now after : WorkerView)
    → IsTending before few now
    → after ≡ with_session now after.session
    → IsQuiet more now.session after.session
    → (IsUnmarked after.session → ⊥)
    → IsTending before most after
IsTending-marked before few more most now after tending same quiet marked =
    let more_so = IsTending-more before few more now after tending same quiet in
    record { same = more_so.same; quiet = IsQuiet-marked (few + more) most before.session after.session marked more_so.quiet }

-- after a message to each replica below one, at most, and none to its own
pub record IsSending (before : WorkerView) (to : ℕ) (now : WorkerView) : Type 0 where
  pub sent : ℕ
  pub tending : IsTending before sent now
  pub few : sent ≤ to
  pub fewer : before.session.replica < to → sent + 1 ≤ to

pub IsSending-start : (before : WorkerView) → IsSending before 0 before
IsSending-start before = record {
  sent = 0;
  tending = IsTending-start before 0;
  few = omega arith;
  fewer = λ past. absurd (omega arith);
}

module _ (before : WorkerView) (to : ℕ) (now : WorkerView) (sending : IsSending before to now) where
  -- at another's number one more, and at its own none
  pub IsSending-more : (after : WorkerView)
      → (to ≡ before.session.replica → ⊥)
      → after ≡ with_session now after.session
      → IsQuiet 1 now.session after.session
      → IsSending before (to + 1) after
  IsSending-more after other same quiet = record {
    sent = sending.sent + 1;
    tending = IsTending-more before sending.sent 1 now after sending.tending same quiet;
    few = omega (arith, sending.few);
    fewer = λ past. ⊎_elim
        (λ (below : before.session.replica < to). omega (arith, sending.fewer below))
        (λ (not_below : to ≤ before.session.replica). absurd (other (omega arith)))
        (cases_lt before.session.replica to);
  }

  pub IsSending-own : to ≡ before.session.replica → IsSending before (to + 1) now
  IsSending-own own = record {
    sent = sending.sent;
    tending = sending.tending;
    few = omega (arith, sending.few);
    fewer = λ past. omega (arith, sending.few);
  }

  -- that is at most seven, where there are at most eight replicas
  pub IsTending-within : (count : ℕ)
      → count ≤ 8
      → before.session.replica < count
      → to ≤ count
      → IsTending before 7 now
  IsTending-within count most among within =
      IsTending-weaker before sending.sent 7 now
      (⊎_elim
      (λ (past : before.session.replica < to). omega (arith, sending.fewer past))
      (λ (not_past : to ≤ before.session.replica). omega (arith, sending.few))
      (cases_lt before.session.replica to))
      sending.tending
