use Rattle.std.proofs.Common.{◌≡◌, ◌<◌, ℕ, ◌+◌, ◌*◌, max, List, get_or, set, sym, ap, ap₂, ◌∙◌, subst, arith}
use Rattle.tact_base.specs.Setup.{Setup}
use Rattle.split_budget.specs.Budgets.{BudgetState}
use Rattle.replica_core.proofs.ToldNumbers.{IsLearned, learned_more, told_again}
use Rattle.replica_core.proofs.replica.taking.note_loans.Goals as goal

pub returns-then-are_loans_known-clause-lent : goal.returns-then-are_loans_known-clause-lent
returns-then-are_loans_known-clause-lent c =
    let known = c.are_loans_known.ensures.0 c.if-are_loans_known.true in
    λ peer conit _ inside.
    told_again c.args.budgets.now.setup.conits c.args.message.now.from c.args.message.now.lent c.args.budgets.now.lent_known known.0 peer conit inside

pub returns-then-are_loans_known-clause-returned : goal.returns-then-are_loans_known-clause-returned
returns-then-are_loans_known-clause-returned c =
    let known = c.are_loans_known.ensures.0 c.if-are_loans_known.true in
    λ peer conit _ inside.
    told_again c.args.budgets.now.setup.conits c.args.message.now.from c.args.message.now.returned c.args.budgets.now.returned_known known.1 peer conit inside

pub loop-conit-preserved : goal.loop-conit-preserved
loop-conit-preserved c =
    let start = c.args.budgets.now in
    let setup = start.setup in
    let from = c.args.message.now.from in
    let at = c.loop-conit.conit in
    let before = c.loop-conit.budgets in
    let inv = c.loop-conit.invariant in
    let at_in : at < setup.conits = omega (arith, c.loop-conit-test.true, c.requires.conits) in
    let setups : before.setup ≡ setup = ap (λ (b : BudgetState). b.setup) inv.same in
    let conits : before.setup.conits ≡ setup.conits = ap (λ (s : Setup). s.conits) setups in
    let lent = c.note_lent.ensures.noted in
    let returned = c.note_returned.ensures.noted in
    let mid = c.note_lent.new.self in
    let place : from * before.setup.conits + at ≡ from * setup.conits + at = ap (λ (k : ℕ). from * k + at) conits in
    let mid_place : from * mid.setup.conits + at ≡ from * setup.conits + at = ap (λ (b : BudgetState). from * b.setup.conits + at) lent ∙ place in
    let mid_returned : mid.returned_known ≡ before.returned_known = ap (λ (b : BudgetState). b.returned_known) lent in
    let told_lent = c.number_at-lent.ensures in
    let told_returned = c.number_at-returned.ensures in
    let lent_is : c.note_returned.new.self.lent_known
    ≡ set before.lent_known (from * setup.conits + at) (max (get_or before.lent_known (from * setup.conits + at) 0) (get_or c.args.message.now.lent at 0)) =
    ap (λ (b : BudgetState). b.lent_known) returned ∙ ap (λ (b : BudgetState). b.lent_known) lent
    ∙ ap₂ (λ (i told : ℕ). set before.lent_known i (max (get_or before.lent_known i 0) told)) place told_lent in
    let returned_is : c.note_returned.new.self.returned_known
    ≡ set before.returned_known (from * setup.conits + at) (max (get_or before.returned_known (from * setup.conits + at) 0) (get_or c.args.message.now.returned at 0)) =
    ap (λ (b : BudgetState). b.returned_known) returned
    ∙ ap₂ (λ (i told : ℕ). set mid.returned_known i (max (get_or mid.returned_known i 0) told)) mid_place told_returned
    ∙ ap (λ (ns : List ℕ). set ns (from * setup.conits + at) (max (get_or ns (from * setup.conits + at) 0) (get_or c.args.message.now.returned at 0))) mid_returned in
    record {
      same =
          returned
          ∙ ap (λ (ns : List ℕ). let t : BudgetState = record mid { returned_known = ns } in t) (sym (ap (λ (b : BudgetState). b.returned_known) returned))
          ∙ ap (λ (b : BudgetState). let t : BudgetState = record b { returned_known = c.note_returned.new.self.returned_known } in t) lent
          ∙ ap (λ (ns : List ℕ). let t : BudgetState = record before { lent_known = ns; returned_known = c.note_returned.new.self.returned_known } in t)
          (sym (ap (λ (b : BudgetState). b.lent_known) returned ∙ ap (λ (b : BudgetState). b.lent_known) lent))
          ∙ ap (λ (b : BudgetState). let t : BudgetState = record b { lent_known = c.note_returned.new.self.lent_known; returned_known = c.note_returned.new.self.returned_known } in t) inv.same;
      lent = subst (λ (ns : List ℕ). IsLearned setup.replicas setup.conits from c.args.message.now.lent start.lent_known (at + 1) ns) (sym lent_is)
          (learned_more setup.replicas setup.conits from c.args.message.now.lent start.lent_known at before.lent_known inv.lent c.requires.from.0 at_in c.requires.kept.lent_known);
      returned = subst (λ (ns : List ℕ). IsLearned setup.replicas setup.conits from c.args.message.now.returned start.returned_known (at + 1) ns) (sym returned_is)
          (learned_more setup.replicas setup.conits from c.args.message.now.returned start.returned_known at before.returned_known inv.returned c.requires.from.0 at_in c.requires.kept.returned_known);
      kept = c.note_returned.ensures.kept;
    }
