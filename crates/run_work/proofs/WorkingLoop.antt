-- A worker at its items.
use Rattle.std.proofs.Common.{◌≡◌, ℕ, ◌+◌, ◌*◌, ◌<◌, ◌≤◌, Bool, false, [], length, get_or, take, Some, None, refl, sym, ap, ◌∙◌, subst, arith}
use Rattle.run_history.specs.Seats.{DeskView}
use Rattle.work_load.specs.Attempts.{Attempts, Begun}
use Rattle.work_load.specs.declared.plan.Client.{Client}
use Rattle.work_load.specs.declared.plan.Item.{Item}
use Rattle.replica_lock.specs.Sessions.{IsAtNode, NodeView, SessionView, own_calls}
use Rattle.steady_node.specs.Going.{GoesOn, IsUnmarked}
use Rattle.steady_node.specs.declared.ending.Ending.{Ending}
use Rattle.steady_node.proofs.Goings.{IsAtNode-on, client-on, replica-on, unmarked-before}
use Rattle.run_work.specs.Served.{AreObeyed}
use Rattle.run_work.specs.Serving.{AreHeededBut, IsClientServed, IsHeededAfter, IsHeededBut, IsObeyed}
use Rattle.run_work.specs.Sites.{SitesView}
use Rattle.run_work.specs.Trying.{HasBegun, HasDone}
use Rattle.run_work.specs.Working.{HasLeftOff, HasWorked, IsBusyFor, IsEnding, IsFresh, IsReady, IsWorker, WorkerView}
use Rattle.run_work.proofs.Heeding.{AreHeeded-none}
use Rattle.run_work.proofs.Obeying.{AreObeyed-all, AreObeyed-item, AreObeyed-none}
use Rattle.run_work.proofs.TryingLoop.{IsSameBut, IsSameBut-trans}
use Rattle.run_work.proofs.WorkingLemmas.{Attempts-all, Attempts-item, Begun-item}

-- after so many items, all of which are done
pub record IsWorking (tries : ℕ) (before : WorkerView) (place : ℕ) (now : WorkerView) : Type 0 where
  pub same : IsSameBut before now
  pub ready : IsReady now
  pub number : now.session.client ≡ before.client.client
  pub done : Attempts tries (take place before.client.items) (own_calls now.session)
  pub busy : IsBusyFor place now.session
  pub replica : now.session.replica ≡ before.client.replica
  pub heeded : IsUnmarked now.session → IsHeededBut None now.session
  pub obeyed : IsUnmarked now.session → AreObeyed before.node.desk.setup now.session.replica (take place before.client.items) now.session.seen

pub IsWorking-start : (tries : ℕ) (desk : DeskView) (before : WorkerView)
    → IsWorker desk before
    → IsReady before
    → own_calls before.session ≡ []
    → before.session.made ≡ 0
    → IsWorking tries before 0 before
IsWorking-start tries desk before kept ready none made = record {
  same = record { is = refl };
  ready = ready;
  number = kept.number;
  done = none;
  busy = λ unmarked. omega (arith, made);
  replica = kept.at.replica ∙ kept.replica;
  heeded = λ unmarked. AreHeeded-none None before.session.replica before.session.client before.session.seen none;
  obeyed = λ unmarked. AreObeyed-none before.node.desk.setup before.session.replica before.session.seen;
}

-- as busy for more items
IsBusyFor-most : (few most : ℕ) (session : SessionView) → few ≤ most → IsBusyFor few session → IsBusyFor most session
IsBusyFor-most few most session less busy unmarked = go (length (own_calls session)) (busy unmarked)
  where
    go : (calls : ℕ) → session.made ≤ 24 * (few + calls) → session.made ≤ 24 * (most + calls)
    go calls busy = omega (arith, less, busy)

module _ (tries : ℕ) (before : WorkerView) (place : ℕ) (now : WorkerView) (working : IsWorking tries before place now) where
  -- so the client was served, while the session is unmarked
  all_served : length before.client.items ≤ place
      → IsUnmarked now.session
      → IsClientServed before.node.desk.setup before.client now.session.seen
  all_served past unmarked = record {
    heeded = subst (λ (r : ℕ). AreHeededBut None r before.client.client now.session.seen) working.replica
        (subst (λ (k : ℕ). AreHeededBut None now.session.replica k now.session.seen) working.number (working.heeded unmarked));
    obeyed = subst (λ (r : ℕ). AreObeyed before.node.desk.setup r before.client.items now.session.seen) working.replica
        (AreObeyed-all before.node.desk.setup now.session.replica before.client.items place now.session.seen past (working.obeyed unmarked));
  }

  -- all are done
  pub HasWorked-all : length before.client.items ≤ place
      → place ≤ length before.client.items
      → before.end ≡ None
      → (tells : Bool)
      → (sites : SitesView)
      → IsFresh sites before
      → HasWorked tells sites tries now
  HasWorked-all past within none tells sites fresh =
      let same = working.same.is in
      let client = ap (λ (w : WorkerView). w.client) same in
      let end : now.end ≡ None = ap (λ (w : WorkerView). w.end) same ∙ none in
      record {
        node = λ no_node. ap (λ (w : WorkerView). w.node) same ∙ fresh.node no_node ∙ ap (λ (c : Client). get_or sites.nodes c.replica no_node) (sym client);
        replica = subst (λ (c : Client). c.replica < length sites.nodes) (sym client) fresh.replica;
        at = working.ready.session.at;
        number = working.number ∙ ap (λ (c : Client). c.client) (sym client);
        ended = subst (HasLeftOff tells tries now.client now.session) (sym end) (
          working.ready.session.certain,
          subst (λ (c : Client). Attempts tries c.items (own_calls now.session)) (sym client)
              (Attempts-all tries before.client.items place (own_calls now.session) past working.done),
        );
        busy = subst (λ (c : Client). IsBusyFor (length c.items) now.session) (sym client)
            (IsBusyFor-most place (length before.client.items) now.session within working.busy);
        served = λ ended unmarked.
            subst (λ (n : NodeView). IsClientServed n.desk.setup now.client now.session.seen) (sym (ap (λ (w : WorkerView). w.node) same))
            (subst (λ (c : Client). IsClientServed before.node.desk.setup c now.session.seen) (sym client) (all_served past unmarked));
      }

  -- the next item is tried
  module _ (none : Item) (within : place < length before.client.items) (after : WorkerView) (tried : IsSameBut now after)
      (most : ℕ) (on : GoesOn most now.session after.session) (busier : (count : ℕ) → IsBusyFor count now.session → IsBusyFor (count + 1) after.session) where
    abbrev here : Item
    here = get_or before.client.items place none

    pub IsWorking-more : IsReady after
        → HasDone tries here (own_calls now.session) (own_calls after.session)
        → IsHeededAfter now.session after.session
        → IsObeyed before.node.desk.setup here now.session after.session
        → IsWorking tries before (place + 1) after
    IsWorking-more ready done heeds obeyed = record {
      same = IsSameBut-trans before now after working.same tried;
      ready = ready;
      number = client-on most now.session after.session on ∙ working.number;
      done = Attempts-item tries before.client.items place none within (own_calls now.session) (own_calls after.session) working.done done;
      busy = busier place working.busy;
      replica = replica-on most now.session after.session on ∙ working.replica;
      heeded = λ unmarked. heeds unmarked (working.heeded (unmarked-before most now.session after.session on unmarked));
      obeyed = λ unmarked.
          let here_done = obeyed unmarked in
          subst (λ (r : ℕ). AreObeyed before.node.desk.setup r (take (place + 1) before.client.items) after.session.seen) (sym (replica-on most now.session after.session on))
          (AreObeyed-item before.node.desk.setup before.client.items place none within now.session after.session on.told
          (working.obeyed (unmarked-before most now.session after.session on unmarked)) here_done.0 here_done.1);
    }

    -- and ends the worker
    pub HasWorked-end : (ending : Ending)
        → 0 < tries
        → (ending.lost ≡ false → HasBegun tries here (own_calls now.session) (own_calls after.session))
        → (tells : Bool)
        → IsEnding tells after.session ending
        → (sites : SitesView)
        → IsFresh sites before
        → HasWorked tells sites tries (record after { end = Some ending })
    HasWorked-end ending some begun tells ends sites fresh =
        let same = (IsSameBut-trans before now after working.same tried).is in
        let client = ap (λ (w : WorkerView). w.client) same in
        record {
          node = λ no_node. ap (λ (w : WorkerView). w.node) same ∙ fresh.node no_node ∙ ap (λ (c : Client). get_or sites.nodes c.replica no_node) (sym client);
          replica = subst (λ (c : Client). c.replica < length sites.nodes) (sym client) fresh.replica;
          at = subst (λ (n : NodeView). IsAtNode n after.session) (sym (ap (λ (w : WorkerView). w.node) tried.is))
              (IsAtNode-on now.node most now.session after.session on working.ready.session.at);
          number = client-on most now.session after.session on ∙ working.number ∙ ap (λ (c : Client). c.client) (sym client);
          ended = (
            ends,
            λ kept.
                subst (λ (c : Client). Begun tries c.items (own_calls after.session)) (sym client)
                (Begun-item tries before.client.items place none within (own_calls now.session) (own_calls after.session) working.done some (begun kept)),
          );
          busy = subst (λ (c : Client). IsBusyFor (length c.items) after.session) (sym client)
              (IsBusyFor-most (place + 1) (length before.client.items) after.session (omega (arith, within)) (busier place working.busy));
          served = λ ended. absurd cc;
        }
