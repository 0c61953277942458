-- A worker at the tries of an item.
use Rattle.std.proofs.Common.{◌≡◌, ℕ, ◌+◌, ◌*◌, ◌<◌, ◌≤◌, Bool, false, List, length, IfSome, Option, None, Some, refl, sym, ap, ◌∙◌, subst, inl, inr, ⊎_elim, arith}
use Rattle.std.specs.Prelude.{Err, IfErr, Ok, Result}
use Rattle.std.proofs.lemmas.Bool.{cases_lt, true≢false}
use Rattle.std.proofs.lemmas.List.{length-append}
use Rattle.tact_base.specs.Setup.{Setup}
use Rattle.run_model.specs.declared.entry.Entry.{Entry}
use Rattle.run_model.proofs.PrefixLemmas.{IsPrefix-length}
use Rattle.work_load.specs.declared.plan.Item.{Item}
use Rattle.replica_lock.specs.Allowances.{AllowanceView}
use Rattle.replica_lock.specs.Sessions.{SessionView, own_calls}
use Rattle.steady_node.specs.Going.{GoesOn, IsUnmarked}
use Rattle.steady_node.specs.declared.ending.Ending.{Ending}
use Rattle.steady_node.proofs.Goings.{GoesOn-same, GoesOn-trans, client-on, own_calls-on, replica-on, unmarked-before}
use Rattle.run_work.specs.Holding.{IsQuiet}
use Rattle.run_work.specs.Serving.{HasSentTo, IsHeededAfter, IsHeededBut, IsObeyed, Owes}
use Rattle.run_work.specs.Trying.{HasBegun, HasDone, HasTried}
use Rattle.run_work.specs.Working.{IsBusyFor, IsEnding, IsKeptEnd, IsReady, WorkerView}
use Rattle.run_work.specs.declared.trying.Tried.TheVariants.{Final, Waiting}
use Rattle.run_work.proofs.GoingOn.{GoesOn-weaker}
use Rattle.run_work.proofs.Heeding.{IsHeeded-quiet, IsHeeded-sent}
use Rattle.run_work.proofs.Obeying.{IsObeyed-around, IsObeyed-waited}
use Rattle.run_work.proofs.TryingLemmas.{HasDone-final, HasDone-tries, HasWaited-tries, HaveWaited, HaveWaited-more, HaveWaited-none}
use Rattle.run_work.proofs.WorkingLemmas.{IsBusyFor-tried}

-- a worker with another session, and with other allowances
abbrev pub gone : WorkerView → SessionView → List AllowanceView → WorkerView
gone worker session allowances = record worker { session = session; allowances = allowances }

-- a worker is the same but for these
pub record IsSameBut (before after : WorkerView) : Type 0 where
  pub is : after ≡ gone before after.session after.allowances

pub IsSameBut-trans : (before between after : WorkerView)
    → IsSameBut before between
    → IsSameBut between after
    → IsSameBut before after
IsSameBut-trans before between after first second = record {
  is = second.is ∙ ap (λ (w : WorkerView). gone w after.session after.allowances) first.is;
}

pub IsSameBut-session : (before after : WorkerView)
    → (let moved : WorkerView = record before { session = after.session } in after ≡ moved)
    → IsSameBut before after
IsSameBut-session before after is = record {
  is = is ∙ ap (λ (held : List AllowanceView). gone before after.session held) (sym (ap (λ (w : WorkerView). w.allowances) is));
}

-- a worker that ends where no call is lost
pub IsEnding-kept : {A : Type 0} (tells : Bool) (session : SessionView) (answer : Result A Ending)
    → session.doubt ≡ false
    → IfErr answer (IsKeptEnd tells session)
    → IfErr answer (IsEnding tells session)
IsEnding-kept tells session (Ok given) certain kept = tt
IsEnding-kept tells session (Err ending) certain kept = record {
  cause = kept.0;
  certain = λ not_lost. certain;
  marked = λ lost. absurd (true≢false (sym lost ∙ kept.1));
}

-- after so many tries, all of which wait
pub record IsTrying (item : Item) (before : WorkerView) (tries : ℕ) (now : WorkerView) : Type 0 where
  pub same : IsSameBut before now
  pub on : GoesOn (24 * tries) before.session now.session
  pub ready : IsReady now
  pub waited : HaveWaited tries item (own_calls before.session) (own_calls now.session)
  pub heeded : IsHeededAfter before.session now.session

pub IsTrying-start : (item : Item) (before : WorkerView) → IsReady before → IsTrying item before 0 before
IsTrying-start item before ready = record {
  same = record { is = refl };
  on = GoesOn-same 0 before.session;
  ready = ready;
  waited = HaveWaited-none item (own_calls before.session);
  heeded = λ unmarked heeded. heeded;
}

-- how many calls there are after tries that wait
count_waited : (tries : ℕ) (item : Item) (before after : List Entry)
    → HaveWaited tries item before after
    → length after ≡ length before + tries
count_waited tries item before after waited = ap length waited.all ∙ length-append before waited.calls ∙ ap (λ n. length before + n) waited.count

-- if so many tries wait, then the item's tries have begun or are over
HasBegun-most : (item : Item) (before after : List Entry) (tries : ℕ)
    → HaveWaited tries item before after
    → (most : ℕ)
    → 0 < most
    → tries ≤ most
    → HasBegun most item before after
HasBegun-most item before after tries waited most some few = ⊎_elim
    (λ (less : tries < most). inr (HasWaited-tries tries item before after most waited less))
    (λ (all : most ≤ tries). inl (HasDone-tries tries item before after most waited some (omega (arith, all, few))))
    (cases_lt tries most)

-- no fewer calls are seen as a session goes on
more_calls : (most : ℕ) (before after : SessionView) → GoesOn most before after → length (own_calls before) ≤ length (own_calls after)
more_calls most before after on =
    IsPrefix-length (own_calls before) (own_calls after) (own_calls-on before after on.told (replica-on most before after on) (client-on most before after on))

module _ (item : Item) (before : WorkerView) (tries : ℕ) (now : WorkerView) (trying : IsTrying item before tries now) where
  -- with no more entries than one more try may make
  GoesOn-after : (after : SessionView) (more : ℕ)
      → more ≤ 24
      → GoesOn more now.session after
      → GoesOn (24 * (tries + 1)) before.session after
  GoesOn-after after more few on =
      GoesOn-weaker (24 * tries + more) (24 * (tries + 1)) before.session after (omega (arith, few))
      (GoesOn-trans (24 * tries) more before.session now.session after trying.on on)

  pub GoesOn-most : (after : SessionView) (more most : ℕ)
      → more ≤ 24
      → tries < most
      → GoesOn more now.session after
      → GoesOn (24 * most) before.session after
  GoesOn-most after more most few within on =
      GoesOn-weaker (24 * (tries + 1)) (24 * most) before.session after (omega (arith, within)) (GoesOn-after after more few on)

  pub IsBusyFor-after : (after : SessionView) (more : ℕ)
      → more ≤ 24
      → GoesOn more now.session after
      → (count : ℕ)
      → IsBusyFor count before.session
      → IsBusyFor (count + 1) after
  IsBusyFor-after after more few on =
      IsBusyFor-tried before.session after tries (GoesOn-after after more few on)
      (omega (
        arith,
        more_calls more now.session after on,
        count_waited tries item (own_calls before.session) (own_calls now.session) trying.waited,
      ))

  -- one more try, and what the worker then takes and sends
  module _ (tried after : WorkerView) (attempted : IsSameBut now tried) (tended : IsSameBut tried after)
      (on : GoesOn 1 now.session tried.session) (quiet : IsQuiet 23 tried.session after.session) where
    pub IsSameBut-try : IsSameBut before after
    IsSameBut-try = IsSameBut-trans before now after trying.same (IsSameBut-trans now tried after attempted tended)

    pub GoesOn-try : GoesOn 24 now.session after.session
    GoesOn-try = GoesOn-trans 1 23 now.session tried.session after.session on quiet.later

    -- a reply that waits is heeded by the message to whom it names
    pub IsHeeded-more : (setup : Setup) (wish : Option ℕ)
        → Owes setup (Waiting wish) now.session tried.session
        → (IsUnmarked after.session → IfSome wish (λ (to : ℕ). HasSentTo to tried.session after.session))
        → IsHeededAfter before.session after.session
    IsHeeded-more setup wish owes sent unmarked heeded = go wish owes (sent unmarked)
      where
        once : IsUnmarked tried.session
        once = unmarked-before 23 tried.session after.session quiet.later unmarked

        before_it : IsHeededBut None now.session
        before_it = trying.heeded (unmarked-before 1 now.session tried.session on once) heeded

        go : (wish : Option ℕ)
            → Owes setup (Waiting wish) now.session tried.session
            → IfSome wish (λ (to : ℕ). HasSentTo to tried.session after.session)
            → IsHeededBut None after.session
        go None owes sent = IsHeeded-quiet None 23 tried.session after.session quiet (owes.heeded once before_it)
        go (Some to) owes sent = IsHeeded-sent to 23 tried.session after.session quiet sent (owes.heeded once before_it)

    -- after a final one none is owed
    pub IsHeeded-try : (setup : Setup)
        → Owes setup Final now.session tried.session
        → IsHeededAfter before.session after.session
    IsHeeded-try setup owes unmarked heeded =
        let once = unmarked-before 23 tried.session after.session quiet.later unmarked in
        IsHeeded-quiet None 23 tried.session after.session quiet
        (owes.heeded once (trying.heeded (unmarked-before 1 now.session tried.session on once) heeded))

    -- what the try lent is lent since the first, and its restart is made
    pub IsObeyed-try : (setup : Setup) → IsObeyed setup item now.session tried.session → IsObeyed setup item before.session after.session
    IsObeyed-try setup obeyed =
        IsObeyed-around before.session now.session tried.session after.session trying.on.told
        (replica-on (24 * tries) before.session now.session trying.on) 23 quiet.later setup item on.told obeyed

    waited-try : (wish : Option ℕ)
        → HasTried item (Waiting wish) (own_calls now.session) (own_calls tried.session)
        → HaveWaited (tries + 1) item (own_calls before.session) (own_calls after.session)
    waited-try wish has =
        subst (HaveWaited (tries + 1) item (own_calls before.session)) (sym quiet.calls)
        (HaveWaited-more tries item (own_calls before.session) (own_calls now.session) (own_calls tried.session) wish trying.waited has)

    pub IsTrying-more : (setup : Setup) (wish : Option ℕ)
        → IsReady after
        → HasTried item (Waiting wish) (own_calls now.session) (own_calls tried.session)
        → Owes setup (Waiting wish) now.session tried.session
        → (IsUnmarked after.session → IfSome wish (λ (to : ℕ). HasSentTo to tried.session after.session))
        → IsTrying item before (tries + 1) after
    IsTrying-more setup wish ready has owes sent = record {
      same = IsSameBut-try;
      on = GoesOn-after after.session 24 (omega arith) GoesOn-try;
      ready = ready;
      waited = waited-try wish has;
      heeded = IsHeeded-more setup wish owes sent;
    }

    -- and where what it then takes or sends ends it
    pub HasBegun-try : (most : ℕ) (wish : Option ℕ)
        → tries < most
        → HasTried item (Waiting wish) (own_calls now.session) (own_calls tried.session)
        → HasBegun most item (own_calls before.session) (own_calls after.session)
    HasBegun-try most wish few has =
        HasBegun-most item (own_calls before.session) (own_calls after.session) (tries + 1) (waited-try wish has) most (omega (arith, few)) (omega (arith, few))

    pub HasDone-try : (most : ℕ)
        → tries < most
        → HasTried item Final (own_calls now.session) (own_calls tried.session)
        → HasDone most item (own_calls before.session) (own_calls after.session)
    HasDone-try most few has =
        subst (HasDone most item (own_calls before.session)) (sym quiet.calls)
        (HasDone-final tries item (own_calls before.session) (own_calls now.session) (own_calls tried.session) most few trying.waited has)

  -- an item whose tries wait asks for a call alone
  pub IsObeyed-tries : (setup : Setup) → 0 < tries → IsObeyed setup item before.session now.session
  IsObeyed-tries setup some =
      IsObeyed-waited setup tries item (own_calls before.session) (own_calls now.session) before.session now.session trying.waited some

  -- where the tries end, at the last or with a try that was refused
  pub HasDone-now : (most : ℕ)
      → 0 < most
      → tries ≡ most
      → HasDone most item (own_calls before.session) (own_calls now.session)
  HasDone-now most some all = HasDone-tries tries item (own_calls before.session) (own_calls now.session) most trying.waited some all

  pub HasBegun-now : (most : ℕ) → tries < most → HasBegun most item (own_calls before.session) (own_calls now.session)
  HasBegun-now most few = inr (HasWaited-tries tries item (own_calls before.session) (own_calls now.session) most trying.waited few)
