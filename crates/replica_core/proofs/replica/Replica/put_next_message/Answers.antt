use Rattle.std.proofs.Common.{ℕ, ◌<◌, ◌≤◌, List, length, get_or, map, refl, sym, ap, ◌∙◌, subst, arith}
use Rattle.std.proofs.lemmas.List.FromFn.{length-map-range_with_len}
use Rattle.std.proofs.lemmas.Result.{on_ok_weaker}
use Rattle.tact_base.specs.Setup.{Setup, conits_of}
use Rattle.split_budget.specs.Budgets.{BudgetState, lent_to, returned_to}
use Rattle.replica_core.specs.Sending.{first_told, writes_told}
use Rattle.replica_core.specs.States.{ReplicaState, AreBasesHad, HasBudgets, base_at, origins_of}
use Rattle.replica_core.specs.Told.{told_before}
use Rattle.replica_core.proofs.SendLemmas.{bases_told}
use Rattle.replica_core.proofs.replica.Replica.put_next_message.Goals as goal

pub told-requires-clause-sized : goal.told-requires-clause-sized
told-requires-clause-sized c =
    let core = c.args.self.now.core in
    ap length (c.items.ensures ∙ c.in_ok-put_firsts.ensures)
    ∙ length-map-range_with_len (first_told core c.args.to c.args.given.now) 0 core.setup.replicas
    ∙ sym (ap (λ (s : ReplicaState). s.core.setup.replicas) c.self.view_is)
    ∙ sym c.self.invariant.0.places.logs_sized

pub told-requires-clause-held : goal.told-requires-clause-held
told-requires-clause-held c origin within =
    let core = c.args.self.now.core in
    let bases : AreBasesHad core = subst (λ (s : ReplicaState). AreBasesHad s.core) c.self.view_is c.self.invariant.0.bases in
    let inside : origin < core.setup.replicas =
    omega (arith, within, c.self.invariant.0.places.logs_sized, ap (λ (s : ReplicaState). s.core.setup.replicas) c.self.view_is) in
    let had : base_at core origin ≤ get_or (map (first_told core c.args.to c.args.given.now) (origins_of core)) origin 0 =
    bases_told core bases c.args.to c.args.given.now c.requires.to c.requires.other origin inside in
    omega (arith, had, ap (λ (s : ReplicaState). base_at s.core origin) c.self.view_is, ap (λ (ns : List ℕ). get_or ns origin 0) (c.items.ensures ∙ c.in_ok-put_firsts.ensures))

pub returns : goal.returns
returns c =
    let core = c.args.self.now.core in
    let to = c.args.to in
    let from = ap (λ (s : ReplicaState). s.core.replica) c.self.view_is in
    let number = ap (λ (s : ReplicaState). s.core.counts.sends) c.self.view_is in
    let inside = c.self.inside.logs.logs in
    let writes =
    c.in_ok-message.ensures
    ∙ ap (λ (n : ℕ). told_before inside c.items.result.now n) (c.self.invariant.0.places.logs_sized)
    ∙ ap (λ (s : ReplicaState). writes_told s.core c.items.result.now) c.self.view_is
    ∙ ap (writes_told core) (c.items.ensures ∙ c.in_ok-put_firsts.ensures) in
    let budgets = ap (λ (s : ReplicaState). s.core.budgets) c.self.view_is in
    let setup = (subst (λ (s : ReplicaState). HasBudgets s.core) c.self.view_is c.self.invariant.0.budgets).setup in
    let lent =
    c.in_ok-replace.ensures.ok ∙ c.all_lent.ensures ∙ ap (λ (b : BudgetState). map (lent_to b to) (conits_of b.setup)) budgets
    ∙ ap (λ (s : Setup). map (lent_to core.budgets to) (conits_of s)) setup in
    let given_back =
    c.all_returned.ensures ∙ ap (λ (b : BudgetState). map (returned_to b to) (conits_of b.setup)) budgets
    ∙ ap (λ (s : Setup). map (returned_to core.budgets to) (conits_of s)) setup in
    on_ok_weaker c.replace-2.result
    (λ put.
    let returned = put ∙ given_back in
    rw (from, number, c.in_ok-put_haves.ensures, c.in_ok-put_covers.ensures, c.in_ok-put_firsts.ensures, writes, lent, returned) refl)
    c.replace-2.ensures.ok
