use Rattle.std.proofs.Common.{◌≡◌, ℕ, ◌-◌, cond, List, [], ◌∷◌, ◌++◌, length, take, None, refl, sym, ap, ap₂, ◌∙◌, arith}
use Rattle.std.specs.Vec.{with_item}
use Rattle.std.proofs.lemmas.List.{length-map}
use Rattle.std.proofs.lemmas.List.FromFn.{length-range_with_len}
use Rattle.tact_base.specs.Setup.{replicas_of}
use Rattle.run_model.specs.Histories.{calls_in, moment_at, part_of}
use Rattle.run_model.specs.Taking.{have}
use Rattle.run_model.specs.declared.entry.Entry.{Entry}
use Rattle.run_model.proofs.TextLemmas.{always_err}
use Rattle.session_guard.proofs.ClientLemmas.{client_there, passed_by, set_back}
use Rattle.session_guard.proofs.DoneReplies.{has_next_index}
use Rattle.session_guard.proofs.Going.{call_due, calls_on, pass_there}
use Rattle.session_guard.specs.Journeys.{Stays}
use Rattle.session_guard.specs.Passes.{PassState, haves_of, lack_of, pass_after}
use Rattle.session_guard.specs.Trips.{is_granted}
use Rattle.session_guard.specs.declared.client.Client.{Client}
use Rattle.session_guard.specs.declared.journey.Journey.{Journey}
use Rattle.session_guard.proofs.journey.Journey.call.Goals as goal

pub returns-in_err-stop_at-clause-err : goal.returns-in_err-stop_at-clause-err
returns-in_err-stop_at-clause-err c =
    let old = c.args.self.now in
    let new : Journey = record old { clients = with_item old.clients c.args.pass c.stop_at.new.self } in
    let stays : Stays old new = record {
      network = refl;
      clients = set_back old.clients.items c.args.pass c.index_mut-client.result.now c.stop_at.new.self c.index_mut-client.ensures.value c.in_err-stop_at.ensures.err;
    } in
    always_err _ stays

pub returns-in-Err-clause-err : goal.returns-in-Err-clause-err
returns-in-Err-clause-err c =
    let old = c.args.self.now in
    let client = c.index_mut-client.result.now in
    record {
      network = c.in-Err.ensures.err;
      clients = set_back old.clients.items c.args.pass client c.pass_by.new.self c.index_mut-client.ensures.value
          (passed_by client c.stop_at.new.self c.pass_by.new.self (length c.entries.result.now) c.in_ok-stop_at.ensures.stopped c.pass_by.ensures);
    }

pub settle-requires-clause-replica : goal.settle-requires-clause-replica
settle-requires-clause-replica c =
    let old = c.args.self.now in
    let client = c.index_mut-client.result.now in
    let is = c.requires.keeps.clients c.args.pass client (client_there old.clients.items c.args.pass client c.requires.pass c.index_mut-client.ensures.value) in
    omega (arith, c.requires.replica, is.carried.is_pass.reads, ap (λ (one : Client). length one.pass.reads) c.in_ok-stop_at.ensures.stopped)

pub settle-requires-clause-haves : goal.settle-requires-clause-haves
settle-requires-clause-haves c =
    let old = c.args.self.now in
    let client = c.index_mut-client.result.now in
    let is = c.requires.keeps.clients c.args.pass client (client_there old.clients.items c.args.pass client c.requires.pass c.index_mut-client.ensures.value) in
    let sized = length-map (replicas_of old.network.setup) (have c.args.replica (part_of old.network.entries c.args.replica)) ∙ length-range_with_len 0 old.network.setup.replicas in
    ap length (c.items.ensures.items ∙ c.requires.haves) ∙ sized
    ∙ sym is.carried.is_pass.reads ∙ sym (ap (λ (one : Client). length one.pass.reads) c.in_ok-stop_at.ensures.stopped)

pub returns-clause-goes : goal.returns-clause-goes
returns-clause-goes c =
    let old = c.args.self.now in
    let keeps = c.requires.keeps in
    let setup = old.network.setup in
    let history = old.network.entries in
    let pass = c.args.pass in
    let replica = c.args.replica in
    let moment = c.args.moment in
    let part = part_of history replica in
    let asked = c.args.request.now in
    let given = c.in-Ok.reply in
    let client = c.index_mut-client.result.now in
    let after = c.settle.new.self in
    let new : Journey = record old { network = c.call.new.self; clients = with_item old.clients pass after } in
    let there = client_there old.clients.items pass client c.requires.pass c.index_mut-client.ensures.value in
    let nothing : lack_of (haves_of setup replica part) client.pass ≡ None =
    ap₂ lack_of (sym c.requires.haves) (sym (pass_there old.clients.items pass client there)) ∙ c.requires.lack in
    let due = c.in-Ok.ensures.due in
    let run = c.call.ensures.run in
    let is_due = call_due old new keeps pass replica moment asked given client after c.requires.replica c.in-Ok.ensures.made due run c.requires.kind there nothing refl in
    let next = has_next_index setup part replica (moment_at part moment) pass (calls_in part pass) asked given is_due c.requires.kind in
    let stopped = c.in_ok-stop_at.ensures.stopped in
    let trip : c.stop_at.new.self.trip ≡ client.trip ++ length history ∷ [] =
    ap (λ (one : Client). one.trip) stopped ∙ ap (λ (es : List Entry). client.trip ++ length es ∷ []) c.entries.ensures.entries in
    calls_on old new keeps pass replica moment asked given client after c.requires.replica c.in-Ok.ensures.made due run c.requires.kind there nothing refl
    (c.settle.ensures.pass next
    ∙ ap₂ (λ (haves : List ℕ) (p : PassState). pass_after haves replica p given) (c.items.ensures.items ∙ c.requires.haves) (ap (λ (one : Client). one.pass) stopped))
    (c.settle.ensures.trip ∙ ap (λ (t : List ℕ). cond (is_granted given) t (take (length t - 1) t)) trip)
