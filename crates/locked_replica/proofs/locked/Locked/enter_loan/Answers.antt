use Rattle.std.proofs.Common.{◌≡◌, ◌≤◌, false, replicate, sym, ap, ◌∙◌, subst}
use Rattle.tact_base.specs.Setup.{Setup}
use Rattle.run_model.specs.Histories.{moment_at}
use Rattle.run_model.specs.Runs.{WasSent}
use Rattle.run_model.specs.declared.entry.Act.{Act}
use Rattle.replica_core.specs.Stands.{GoesOn}
use Rattle.replica_core.specs.States.{is_full}
use Rattle.locked_replica.specs.Loans.{amount_of, most_of}
use Rattle.locked_replica.specs.Locks.{HasEntered, LockedView, entry_in, made_place, one_more_at, part_in}
use Rattle.locked_replica.proofs.Entering.{HasEntered-drawn, drawn-grows}
use Rattle.locked_replica.proofs.LoanActs.{quiet-loan, loan-sent}
use Rattle.locked_replica.proofs.Making.{IsQuietAct, IsLocked-made, made-due, made-room, made-spelled, made-stands}
use Rattle.locked_replica.proofs.locked.Locked.enter_loan.Goals as goal

pub move_loan-requires-clause-may : goal.move_loan-requires-clause-may
move_loan-requires-clause-may c =
    let before : LockedView = Rattle.locked_replica.specs.declared.locked.Locked.TheView.view c.self.inside in
    record {
      free = subst (λ (v : LockedView). is_full v.core ≡ false) (sym c.self.view_is) c.requires.free;
      part = part_in before;
      stands = c.self.invariant.0.stands;
      within = subst (λ (v : LockedView). amount_of c.args.loan ≤ most_of v.core.setup v.core.replica (part_in v) c.args.loan) (sym c.self.view_is) c.requires.within;
    }

pub draw-requires-clause-due : goal.draw-requires-clause-due
draw-requires-clause-due c =
    let is = sym c.self.view_is in
    let goes = subst (λ (done : Act). GoesOn c.self.inside.replica.core c.move_loan.new.replica.core c.args.moment (λ part. done)) (sym c.act_of-done.ensures) c.move_loan.ensures.goes_on in
    (made-due _ c.move_loan.new.replica.core c.args.moment c.act_of-done.result _ _ c.self.invariant.0 goes
    (c.replica_number-replica.ensures ∙ ap (λ (v : LockedView). v.core.replica) is)
    (c.moment_after-at.ensures ∙ ap (λ (v : LockedView). moment_at (part_in v) c.args.moment) is)
    _ (sym c.requires.desk.1 ∙ ap (λ (v : LockedView). v.core.setup) is ∙ sym c.move_loan.ensures.same.0))

pub draw-requires-clause-sent : goal.draw-requires-clause-sent
draw-requires-clause-sent c = subst (WasSent c.self.inside.clerk.seen) (sym c.act_of-done.ensures) (loan-sent c.self.inside.clerk.seen c.args.loan)

pub count_entry-requires-clause-made : goal.count_entry-requires-clause-made
count_entry-requires-clause-made c =
    let is = sym c.self.view_is in
    let goes = subst (λ (done : Act). GoesOn c.self.inside.replica.core c.move_loan.new.replica.core c.args.moment (λ part. done)) (sym c.act_of-done.ensures) c.move_loan.ensures.goes_on in
    rw c.self.invariant.1 (made-room _ c.move_loan.new.replica.core c.args.moment c.act_of-done.result _ _ c.self.invariant.0 goes
    (c.replica_number-replica.ensures ∙ ap (λ (v : LockedView). v.core.replica) is)
    (c.moment_after-at.ensures ∙ ap (λ (v : LockedView). moment_at (part_in v) c.args.moment) is)
    c.args.client c.requires.client)

pub invariant_of-self : goal.invariant_of-self
invariant_of-self c =
    let is = sym c.self.view_is in
    let goes = subst (λ (done : Act). GoesOn c.self.inside.replica.core c.move_loan.new.replica.core c.args.moment (λ part. done)) (sym c.act_of-done.ensures) c.move_loan.ensures.goes_on in
    let stands = made-stands _ c.move_loan.new.replica.core c.args.moment c.act_of-done.result _ _ c.self.invariant.0 goes
    (c.replica_number-replica.ensures ∙ ap (λ (v : LockedView). v.core.replica) is)
    (c.moment_after-at.ensures ∙ ap (λ (v : LockedView). moment_at (part_in v) c.args.moment) is) in
    let totals = c.count_entry.ensures ∙ ap (λ n. one_more_at (made_place n c.args.client) c.self.inside.totals.items) c.self.invariant.1 in (
      IsLocked-made _ _ _ c.args.client _ c.self.invariant.0 c.requires.client c.move_loan.ensures.same c.draw.ensures.drawn c.draw.ensures.stored
          (subst IsQuietAct (sym c.act_of-done.ensures) (quiet-loan c.args.loan)) stands totals,
      c.self.invariant.1 ∙ sym (ap (λ (s : Setup). s.conits) c.move_loan.ensures.same.0),
      c.self.invariant.2 ∙ sym (ap (λ (s : Setup). replicate s.replicas 0) c.move_loan.ensures.same.0),
      c.self.invariant.3 ∙ sym c.move_loan.ensures.same.0,
    )

pub returns-clause-kept : goal.returns-clause-kept
returns-clause-kept c =
    let is = sym c.self.view_is in
    let goes = subst (λ (done : Act). GoesOn c.self.inside.replica.core c.move_loan.new.replica.core c.args.moment (λ part. done)) (sym c.act_of-done.ensures) c.move_loan.ensures.goes_on in
    let stands = made-stands _ c.move_loan.new.replica.core c.args.moment c.act_of-done.result _ _ c.self.invariant.0 goes
    (c.replica_number-replica.ensures ∙ ap (λ (v : LockedView). v.core.replica) is)
    (c.moment_after-at.ensures ∙ ap (λ (v : LockedView). moment_at (part_in v) c.args.moment) is) in
    let totals = c.count_entry.ensures ∙ ap (λ n. one_more_at (made_place n c.args.client) c.self.inside.totals.items) c.self.invariant.1 in
    IsLocked-made _ _ _ c.args.client _ c.self.invariant.0 c.requires.client c.move_loan.ensures.same c.draw.ensures.drawn c.draw.ensures.stored
    (subst IsQuietAct (sym c.act_of-done.ensures) (quiet-loan c.args.loan)) stands totals

pub returns-clause-entered : goal.returns-clause-entered
returns-clause-entered c =
    let is = sym c.self.view_is in
    let before = Rattle.locked_replica.specs.declared.locked.Locked.TheView.view c.self.inside in
    let goes = subst (λ (done : Act). GoesOn c.self.inside.replica.core c.move_loan.new.replica.core c.args.moment (λ part. done)) (sym c.act_of-done.ensures) c.move_loan.ensures.goes_on in
    let same = made-spelled before c.move_loan.new.replica.core c.args.moment c.act_of-done.result _ _ c.self.invariant.0 goes
    (c.replica_number-replica.ensures ∙ ap (λ (v : LockedView). v.core.replica) is)
    (c.moment_after-at.ensures ∙ ap (λ (v : LockedView). moment_at (part_in v) c.args.moment) is) in
    let after : LockedView = record {
      core = c.move_loan.new.replica.core;
      clerk = c.draw.new.clerk;
      stored = c.draw.new.stored.items;
      totals = c.count_entry.new.totals.items;
      spare = c.move_loan.new.replica.spare;
      beside = c.move_loan.new.replica.beside;
      room = c.draw.new.stored.room;
    } in
    let entered = HasEntered-drawn before after _ c.args.client _ c.self.invariant.0 c.requires.client c.move_loan.ensures.same c.draw.ensures.drawn c.draw.ensures.stored
    (c.replica_number-replica.ensures ∙ ap (λ (v : LockedView). v.core.replica) is) (sym c.requires.desk.1 ∙ ap (λ (v : LockedView). v.core.setup) is) in
    rw (← c.self.view_is) (subst (λ (done : Act). HasEntered before after c.self.inside.clerk.seen (entry_in before c.args.moment done)) c.act_of-done.ensures
    (subst (λ e. HasEntered before after c.self.inside.clerk.seen e) (sym same) entered))

pub returns-clause-grows : goal.returns-clause-grows
returns-clause-grows c = rw (← c.self.view_is) (drawn-grows _ _ _ _ c.draw.ensures.drawn)

pub returns-clause-rooms : goal.returns-clause-rooms
returns-clause-rooms c =
    let is = sym c.self.view_is in
    let goes = subst (λ (done : Act). GoesOn c.self.inside.replica.core c.move_loan.new.replica.core c.args.moment (λ part. done)) (sym c.act_of-done.ensures) c.move_loan.ensures.goes_on in
    rw (← c.self.view_is) (made-room _ c.move_loan.new.replica.core c.args.moment c.act_of-done.result _ _ c.self.invariant.0 goes
    (c.replica_number-replica.ensures ∙ ap (λ (v : LockedView). v.core.replica) is)
    (c.moment_after-at.ensures ∙ ap (λ (v : LockedView). moment_at (part_in v) c.args.moment) is)
    c.args.client c.requires.client)
