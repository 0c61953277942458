use Rattle.std.proofs.Common.{◌∙◌, List, ap, sym, subst, refl}
use Rattle.std.proofs.lemmas.Option.{slice_get_within, get_or_from_slice_get}
use Rattle.run_model.specs.declared.entry.Entry.{Entry}
use Rattle.replica_lock.specs.Sessions.{IsSessionOf, SessionView, own_calls}
use Rattle.run_work.specs.Holding.{Holds}
use Rattle.run_work.proofs.seat.seat.Goals as goal

pub returns-clause-fresh : goal.returns-clause-fresh
returns-clause-fresh g c = record {
  node = λ none. sym (get_or_from_slice_get c.args.sites.now.nodes c.args.client.now.replica c.node-node.result.now none c.node-node.ensures.node);
  replica = slice_get_within c.args.sites.now.nodes c.args.client.now.replica c.node-node.result.now c.node-node.ensures.node;
  calls = ap own_calls c.nothing.ensures.session ∙ c.in_ok-session.ensures.fresh.0;
  made = ap (λ (session : SessionView). session.made) c.nothing.ensures.session ∙ c.in_ok-session.ensures.fresh.1;
  end = refl;
  ready = record {
    session = subst (IsSessionOf c.node-node.result.now) (sym c.nothing.ensures.session) c.in_ok-session.ensures.session.0;
    held = subst (λ (calls : List Entry). Holds c.node-node.result.now calls c.in_ok-allowances.allowances.items)
        (sym (ap own_calls c.nothing.ensures.session ∙ c.in_ok-session.ensures.fresh.0)) c.in_ok-allowances.ensures.holds;
  };
}
