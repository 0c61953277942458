use Rattle.std.proofs.Common.{◌≡◌, ℕ, ◌≤◌, List, get_or, sym, ap, ap₂, ◌∙◌, subst, arith}
use Rattle.run_model.specs.Taking.{told_have}
use Rattle.split_budget.specs.Budgets.{BudgetState, IsPeer, lent_to}
use Rattle.replica_core.specs.Taking.{AreToldBy, with_known}
use Rattle.replica_core.proofs.replica.taking.note_told.Goals as goal

pub note_loans-requires-clause-kept : goal.note_loans-requires-clause-kept
note_loans-requires-clause-kept c = c.acked.ensures.kept

pub note_loans-requires-clause-from : goal.note_loans-requires-clause-from
note_loans-requires-clause-from c = subst (λ (b : BudgetState). IsPeer b c.args.message.now.from) (sym c.acked.ensures.acked) c.requires.from

pub note_loans-requires-clause-conits : goal.note_loans-requires-clause-conits
note_loans-requires-clause-conits c = c.requires.conits ∙ sym (ap (λ (b : BudgetState). b.setup.conits) c.acked.ensures.acked)

pub note_loans-requires-clause-within : goal.note_loans-requires-clause-within
note_loans-requires-clause-within c = λ conit inside.
    subst (λ (b : BudgetState). get_or c.args.message.now.returned conit 0 ≤ lent_to b c.args.message.now.from conit) (sym c.acked.ensures.acked) (c.requires.within conit inside)

pub returns-clause-acked : goal.returns-clause-acked
returns-clause-acked c =
    let old = c.args.budgets.now in
    let message = c.args.message.now in
    let noted = c.note_loans.new.budgets in
    let with_told : BudgetState → ℕ → BudgetState = λ budgets room.
    let b : BudgetState = record budgets { lent_known = noted.lent_known; returned_known = noted.returned_known; room = room } in b in
    let room = c.acked.new.self.room in
    let known : ℕ → BudgetState = λ count. with_told (with_known old message.from count) room in
    let count : get_or c.items.result.now message.to 0 ≡ told_have message old.replica = ap₂ (λ (haves : List ℕ) (place : ℕ). get_or haves place 0) c.items.ensures c.requires.to in
    c.note_loans.ensures.same
    ∙ ap (λ (budgets : BudgetState). with_told budgets budgets.room) c.acked.ensures.acked
    ∙ ap known count
    ∙ ap (with_told (with_known old message.from (told_have message old.replica))) (sym (ap (λ (b : BudgetState). b.room) c.note_loans.ensures.same))

pub returns-clause-lent : goal.returns-clause-lent
returns-clause-lent c =
    subst (λ (b : BudgetState). AreToldBy b.setup c.args.message.now c.args.message.now.lent b.lent_known c.note_loans.new.budgets.lent_known) c.acked.ensures.acked
    c.note_loans.ensures.lent

pub returns-clause-returned : goal.returns-clause-returned
returns-clause-returned c =
    subst (λ (b : BudgetState). AreToldBy b.setup c.args.message.now c.args.message.now.returned b.returned_known c.note_loans.new.budgets.returned_known) c.acked.ensures.acked
    c.note_loans.ensures.returned

pub returns-clause-kept : goal.returns-clause-kept
returns-clause-kept c = c.note_loans.ensures.kept

pub returns-clause-room : goal.returns-clause-room
returns-clause-room c = omega (arith, c.acked.ensures.room, ap (λ (b : BudgetState). b.room) c.note_loans.ensures.same)
