use Rattle.std.proofs.Common.{ℕ, List, length, ap, ap₂, sym, ◌∙◌}
use Rattle.session_guard.proofs.VisitLemmas.{length-haves_at, stands_next}
use Rattle.session_guard.specs.Passes.{pass_after}
use Rattle.session_guard.proofs.visiting.visit.Goals as goal

pub lack-requires : goal.lack-requires
lack-requires c =
    ap (λ (xs : List ℕ). length xs) (c.items.ensures.items ∙ c.haves_of-haves.ensures) ∙ length-haves_at c.args.replica.now.core ∙ sym c.requires.sized

pub note-requires-clause-haves : goal.note-requires-clause-haves
note-requires-clause-haves c =
    ap (λ (xs : List ℕ). length xs) (c.items-2.ensures.items ∙ c.haves_of-haves.ensures) ∙ length-haves_at c.args.replica.now.core ∙ sym c.requires.sized

pub returns-clause-noted : goal.returns-clause-noted
returns-clause-noted c = λ part stands.
    let old = c.args.replica.now.core in
    let given = c.in_ok-reply.reply in
    let next = stands_next old c.call.new.self.core part c.args.moment c.args.client c.args.request.now given c.requires.kind (c.in_ok-reply.ensures.goes_on part stands) in
    c.note.ensures.noted next
    ∙ ap₂ (λ (haves : List ℕ) (replica : ℕ). pass_after haves replica c.args.pass.now given)
    (c.items-2.ensures.items ∙ c.haves_of-haves.ensures) (c.number.ensures ∙ c.call.ensures.same.1)
