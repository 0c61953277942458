use Rattle.std.proofs.Common.{◌≡◌, ℕ, Bool, false, List, [], ◌∷◌, ◌++◌, All, length, map, refl, ap, sym, ◌∙◌, subst, arith, rules}
use Rattle.std.specs.List.{list_any}
use Rattle.std.proofs.lemmas.List.{append_assoc, map-append}
use Rattle.std.proofs.lemmas.List.Elements.{All-head}
use Rattle.tact_base.proofs.ListLemmas.{All-append_right}
use Rattle.work_load.specs.Clients.{is_of}
use Rattle.work_load.specs.Entries.{EachAfter}
use Rattle.work_load.specs.Ranges.{IsClientAfter}
use Rattle.work_load.specs.declared.plan.Client.{Client}
use Rattle.run_work.specs.Sites.{SitesView}
use Rattle.run_work.specs.Working.{HasWorked, WorkerView}
use Rattle.run_work.proofs.Ended.{all_there}
use Rattle.run_work.proofs.Ending.{each_mid}
use Rattle.run_work.proofs.LeaveLoop.{IsLeaving-all, IsLeaving-more, IsLeaving-start, clients_of}
use Rattle.run_work.proofs.leaving.leave_all.Goals as goal

-- one of the workers has worked
has_worked : (tells : Bool) (sites : SitesView) (tries : ℕ) (before after workers : List WorkerView) (worker : WorkerView)
    → before ++ worker ∷ after ≡ workers
    → All (HasWorked tells sites tries) workers
    → HasWorked tells sites tries worker
has_worked tells sites tries before after workers worker whole all =
    All-head (HasWorked tells sites tries) worker after
    (All-append_right (HasWorked tells sites tries) before (worker ∷ after) (subst (All (HasWorked tells sites tries)) (sym whole) all))

-- its client is none of those before
is_new : (replicas conits : ℕ) (before after workers : List WorkerView) (worker : WorkerView)
    → before ++ worker ∷ after ≡ workers
    → EachAfter (IsClientAfter replicas conits) [] (map (λ (w : WorkerView). w.client) workers)
    → list_any (is_of worker.client.replica worker.client.client) (map (λ (w : WorkerView). w.client) before) ≡ false
is_new replicas conits before after workers worker whole each =
    let client : WorkerView → Client = λ w. w.client in
    (each_mid (IsClientAfter replicas conits) [] (map client before) worker.client (map client after)
    (subst (EachAfter (IsClientAfter replicas conits) []) (ap (map client) (sym whole) ∙ map-append client before (worker ∷ after)) each)).other

pub leave-requires : goal.leave-requires
leave-requires g c =
    let tells = g.J.Journal.tells in
    let sites : SitesView = c.args.sites.now in
    let before : List WorkerView = c.loop-worker.yielded in
    let worker : WorkerView = c.in-Some.worker in
    let after : List WorkerView = c.next.new.self.rest.items in
    let whole : before ++ worker ∷ after ≡ c.args.workers.items = ap (λ (items : List WorkerView). before ++ items) (sym c.in-Some.ensures.steps.0) ∙ c.loop-worker.invariant.all in
    let has = has_worked tells sites c.args.tries before after c.args.workers.items worker whole c.requires.workers in
    omega (arith, has.replica, c.loop-worker.invariant.leaving.ends_are.count)

pub loop-worker-init : goal.loop-worker-init
loop-worker-init g c = record {
  all = search rules;
  leaving = IsLeaving-start g.J.Journal.tells c.args.sites.now c.args.tries (clients_of c.args.workers.items) _ c.args.ends.now c.new.ensures.items refl c.requires.ends;
}

pub loop-worker-preserved : goal.loop-worker-preserved
loop-worker-preserved g c =
    let tells = g.J.Journal.tells in
    let sites : SitesView = c.args.sites.now in
    let tries : ℕ = c.args.tries in
    let before : List WorkerView = c.loop-worker.yielded in
    let worker : WorkerView = c.in-Some.worker in
    let after : List WorkerView = c.next.new.self.rest.items in
    let workers : List WorkerView = c.args.workers.items in
    let whole : before ++ worker ∷ after ≡ workers = ap (λ (items : List WorkerView). before ++ items) (sym c.in-Some.ensures.steps.0) ∙ c.loop-worker.invariant.all in
    let has = has_worked tells sites tries before after workers worker whole c.requires.workers in
    let new = is_new sites.desk.setup.replicas sites.desk.setup.conits before after workers worker whole c.requires.clients in
    record {
      all = append_assoc before (worker ∷ []) after ∙ whole;
      leaving = IsLeaving-more tells sites tries (clients_of workers) before c.loop-worker.left c.leave.new.left c.args.ends.now c.loop-worker.ends c.leave.new.ends worker
          c.stand.ensures has new c.loop-worker.invariant.leaving c.in_ok-leave.ensures.note c.in_ok-leave.ensures.stop c.in_ok-leave.ensures.end c.leave.ensures.rosters;
    }

pub returns-clause-ends : goal.returns-clause-ends
returns-clause-ends g c =
    (IsLeaving-all g.J.Journal.tells c.args.sites.now c.args.tries (clients_of c.args.workers.items) c.loop-worker.yielded c.loop-worker.worker-iterator.rest.items c.args.workers.items
    c.loop-worker.left c.args.ends.now c.loop-worker.ends c.loop-worker.invariant.all (omega (arith, c.in-None.ensures.steps.0)) c.loop-worker.invariant.leaving).ends_are

pub returns-clause-ended : goal.returns-clause-ended
returns-clause-ended g c =
    (IsLeaving-all g.J.Journal.tells c.args.sites.now c.args.tries (clients_of c.args.workers.items) c.loop-worker.yielded c.loop-worker.worker-iterator.rest.items c.args.workers.items
    c.loop-worker.left c.args.ends.now c.loop-worker.ends c.loop-worker.invariant.all (omega (arith, c.in-None.ensures.steps.0)) c.loop-worker.invariant.leaving).ended

pub returns-clause-served : goal.returns-clause-served
returns-clause-served g c =
    (IsLeaving-all g.J.Journal.tells c.args.sites.now c.args.tries (clients_of c.args.workers.items) c.loop-worker.yielded c.loop-worker.worker-iterator.rest.items c.args.workers.items
    c.loop-worker.left c.args.ends.now c.loop-worker.ends c.loop-worker.invariant.all (omega (arith, c.in-None.ensures.steps.0)) c.loop-worker.invariant.leaving).served

pub returns-clause-certain : goal.returns-clause-certain
returns-clause-certain g c =
    (IsLeaving-all g.J.Journal.tells c.args.sites.now c.args.tries (clients_of c.args.workers.items) c.loop-worker.yielded c.loop-worker.worker-iterator.rest.items c.args.workers.items
    c.loop-worker.left c.args.ends.now c.loop-worker.ends c.loop-worker.invariant.all (omega (arith, c.in-None.ensures.steps.0)) c.loop-worker.invariant.leaving).certain

pub returns-clause-notes : goal.returns-clause-notes
returns-clause-notes g c =
    (IsLeaving-all g.J.Journal.tells c.args.sites.now c.args.tries (clients_of c.args.workers.items) c.loop-worker.yielded c.loop-worker.worker-iterator.rest.items c.args.workers.items
    c.loop-worker.left c.args.ends.now c.loop-worker.ends c.loop-worker.invariant.all (omega (arith, c.in-None.ensures.steps.0)) c.loop-worker.invariant.leaving).notes

pub returns-clause-count : goal.returns-clause-count
returns-clause-count g c =
    (IsLeaving-all g.J.Journal.tells c.args.sites.now c.args.tries (clients_of c.args.workers.items) c.loop-worker.yielded c.loop-worker.worker-iterator.rest.items c.args.workers.items
    c.loop-worker.left c.args.ends.now c.loop-worker.ends c.loop-worker.invariant.all (omega (arith, c.in-None.ensures.steps.0)) c.loop-worker.invariant.leaving).count

pub returns-clause-stop : goal.returns-clause-stop
returns-clause-stop g c =
    (IsLeaving-all g.J.Journal.tells c.args.sites.now c.args.tries (clients_of c.args.workers.items) c.loop-worker.yielded c.loop-worker.worker-iterator.rest.items c.args.workers.items
    c.loop-worker.left c.args.ends.now c.loop-worker.ends c.loop-worker.invariant.all (omega (arith, c.in-None.ensures.steps.0)) c.loop-worker.invariant.leaving).stop

pub returns-clause-first : goal.returns-clause-first
returns-clause-first g c =
    (IsLeaving-all g.J.Journal.tells c.args.sites.now c.args.tries (clients_of c.args.workers.items) c.loop-worker.yielded c.loop-worker.worker-iterator.rest.items c.args.workers.items
    c.loop-worker.left c.args.ends.now c.loop-worker.ends c.loop-worker.invariant.all (omega (arith, c.in-None.ensures.steps.0)) c.loop-worker.invariant.leaving).first

pub returns-clause-busy : goal.returns-clause-busy
returns-clause-busy g c =
    (IsLeaving-all g.J.Journal.tells c.args.sites.now c.args.tries (clients_of c.args.workers.items) c.loop-worker.yielded c.loop-worker.worker-iterator.rest.items c.args.workers.items
    c.loop-worker.left c.args.ends.now c.loop-worker.ends c.loop-worker.invariant.all (omega (arith, c.in-None.ensures.steps.0)) c.loop-worker.invariant.leaving).busy
