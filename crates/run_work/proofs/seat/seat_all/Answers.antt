use Rattle.std.proofs.Common.{◌≡◌, ℕ, ◌+◌, ◌<◌, List, [], ◌∷◌, ◌++◌, All, get_or, set, take, length, map, ap, sym, ◌∙◌, subst, arith}
use Rattle.std.proofs.lemmas.List.{map_push, take_more}
use Rattle.std.proofs.lemmas.List.Elements.{All-push}
use Rattle.replica_lock.specs.Sessions.{NodeView}
use Rattle.work_load.specs.declared.plan.Client.{Client}
use Rattle.run_work.specs.Ends.{AreEnds}
use Rattle.run_work.specs.Sites.{AreSites, SitesView}
use Rattle.run_work.specs.Working.{IsFresh, WorkerView}
use Rattle.run_work.specs.declared.seat.End.{End}
use Rattle.run_work.proofs.Ending.{AreEnds-seated, client_at, is_free}
use Rattle.run_work.proofs.seat.seat_all.Goals as goal

-- a replica of the desk has an end
there : (sites : SitesView) (clients : List Client) (ends : List End) (replica : ℕ)
    → AreSites sites
    → AreEnds clients [] [] sites ends
    → replica < sites.desk.setup.replicas
    → replica < length ends
there sites clients ends replica are stand below = omega (arith, are.nodes_are, stand.count, below)

pub bounds-ends-client : goal.bounds-ends-client
bounds-ends-client g c =
    let clients : List Client = c.args.clients.now in
    let sites : SitesView = c.args.sites.now in
    let client = c.client-item.result in
    let at = c.loop-client.client-index in
    let fits = client_at sites.desk.setup.replicas sites.desk.setup.conits clients at client c.requires.clients c.loop-client-test.true c.client-item.is in
    there sites (take at clients) c.loop-client.ends client.replica c.stand.ensures c.loop-client.invariant.ends fits.replica

pub seat-requires-clause-replica : goal.seat-requires-clause-replica
seat-requires-clause-replica g c =
    (client_at c.args.sites.now.desk.setup.replicas c.args.sites.now.desk.setup.conits c.args.clients.now c.loop-client.client-index c.client-item.result
    c.requires.clients c.loop-client-test.true c.client-item.is).replica

pub seat-requires-clause-number : goal.seat-requires-clause-number
seat-requires-clause-number g c =
    (client_at c.args.sites.now.desk.setup.replicas c.args.sites.now.desk.setup.conits c.args.clients.now c.loop-client.client-index c.client-item.result
    c.requires.clients c.loop-client-test.true c.client-item.is).number

pub seat-requires-clause-items : goal.seat-requires-clause-items
seat-requires-clause-items g c =
    (client_at c.args.sites.now.desk.setup.replicas c.args.sites.now.desk.setup.conits c.args.clients.now c.loop-client.client-index c.client-item.result
    c.requires.clients c.loop-client-test.true c.client-item.is).items

pub seat-requires-clause-roster : goal.seat-requires-clause-roster
seat-requires-clause-roster g c =
    λ none.
    let clients : List Client = c.args.clients.now in
    let sites : SitesView = c.args.sites.now in
    let client = c.client-item.result in
    let at = c.loop-client.client-index in
    let fits = client_at sites.desk.setup.replicas sites.desk.setup.conits clients at client c.requires.clients c.loop-client-test.true c.client-item.is in
    (c.loop-client.invariant.ends.each client.replica none c.index-ends-client.result
    (there sites (take at clients) c.loop-client.ends client.replica c.stand.ensures c.loop-client.invariant.ends fits.replica)).roster

pub seat-requires-clause-free : goal.seat-requires-clause-free
seat-requires-clause-free g c =
    let clients : List Client = c.args.clients.now in
    let sites : SitesView = c.args.sites.now in
    let client = c.client-item.result in
    let at = c.loop-client.client-index in
    let fits = client_at sites.desk.setup.replicas sites.desk.setup.conits clients at client c.requires.clients c.loop-client-test.true c.client-item.is in
    let d : End = c.index-ends-client.result in
    let node : NodeView = record { cell = d.roster.cell; desk = sites.desk; replica = client.replica } in
    let is = c.loop-client.invariant.ends.each client.replica node d
    (there sites (take at clients) c.loop-client.ends client.replica c.stand.ensures c.loop-client.invariant.ends fits.replica) in
    is_free (take at clients) client.replica client.client (get_or c.loop-client.ends client.replica d).roster.clients is.seated_are fits.other

pub loop-client-preserved : goal.loop-client-preserved
loop-client-preserved g c =
    let clients : List Client = c.args.clients.now in
    let sites : SitesView = c.args.sites.now in
    let client : Client = c.client-item.result in
    let at = c.loop-client.client-index in
    let fits = client_at sites.desk.setup.replicas sites.desk.setup.conits clients at client c.requires.clients c.loop-client-test.true c.client-item.is in
    let within = there sites (take at clients) c.loop-client.ends client.replica c.stand.ensures c.loop-client.invariant.ends fits.replica in
    let more : take at clients ++ client ∷ [] ≡ take (at + 1) clients =
    ap (λ (one : Client). take at clients ++ one ∷ []) c.client-item.is ∙ sym (take_more clients at client c.loop-client-test.true) in
    let ends : List End = c.loop-client.ends in
    let workers : List WorkerView = c.loop-client.workers.items in
    let worker : WorkerView = c.in_ok-worker.worker in
    record {
      ends = subst (λ (seated : List Client). AreEnds seated [] [] sites (set ends client.replica (record (get_or ends client.replica c.index-ends-client.result) { roster = c.seat.new.roster }))) more
          (AreEnds-seated (take at clients) sites c.loop-client.ends client c.index-ends-client.result c.seat.new.roster within c.loop-client.invariant.ends c.in_ok-worker.ensures.roster);
      clients = ap (map (λ (w : WorkerView). w.client)) c.in_ok-push.ensures.items
          ∙ map_push (λ (w : WorkerView). w.client) workers worker
          ∙ ap (λ (joined : List Client). joined ++ worker.client ∷ []) c.loop-client.invariant.clients
          ∙ ap (λ (one : Client). take at clients ++ one ∷ []) c.in_ok-worker.ensures.client
          ∙ more;
      fresh = subst (All (IsFresh sites)) (sym c.in_ok-push.ensures.items)
          (All-push (IsFresh sites) workers worker c.loop-client.invariant.fresh c.in_ok-worker.ensures.fresh);
    }
