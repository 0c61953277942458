use Rattle.std.proofs.Common.{◌≡◌, ℕ, ◌+◌, ◌^◌, ◌≤◌, Bool, List, cond, get_or, set, sym, ap, ◌∙◌, arith}
use Rattle.std.proofs.lemmas.Bool.{le-ltb}
use Rattle.std.proofs.lemmas.List.{set-get_or}
use Rattle.replica_lock.specs.Ledgers.{faults_place, marked_at}
use Rattle.replica_lock.specs.Nodes.{CountsView}
use Rattle.replica_lock.proofs.Turning.{own_places}
use Rattle.replica_lock.proofs.marking.mark_fault.Goals as goal

pub returns-else-session-lt-MARKS_MAX-clause-book : goal.returns-else-session-lt-MARKS_MAX-clause-book
returns-else-session-lt-MARKS_MAX-clause-book g c =
    let counts : CountsView = c.args.counts.now in
    let place = faults_place c.session.inside.conits c.session.inside.client in
    let own = own_places c.session.invariant in
    let mark : ℕ = get_or counts.book place 0 in
    let here : mark ≡ c.session.inside.faults = c.agree.ensures.owned place own.owns_faults ∙ own.faults in
    let most : 2 ^ 60 ≤ mark = omega (arith, here, c.if-session-lt-MARKS_MAX.false) in
    let still : marked_at place counts.book ≡ counts.book =
    ap (set counts.book place) (ap (λ (b : Bool). cond b (mark + 1) mark) (le-ltb mark (2 ^ 60) most)) ∙ set-get_or counts.book place 0 in
    rw (← c.session.view_is) (c.agree.ensures.book ∙ ap (λ (book : List ℕ). let later : CountsView = record counts { book = book } in later) (sym still))
