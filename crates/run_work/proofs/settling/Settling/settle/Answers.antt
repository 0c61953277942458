use Rattle.std.proofs.Common.{◌≡◌, ◌<◌, IfErr, IfSome, Option, get_or, length, map, ap, arith, sym, ◌∙◌, subst}
use Rattle.run_history.specs.Seats.{DeskView, NoteView}
use Rattle.run_model.specs.Histories.{IsPrefix}
use Rattle.link_faults.specs.Inboxes.{InboxState}
use Rattle.locked_replica.specs.Parcels.{ParcelView}
use Rattle.run_work.specs.Ends.{AreFaultless, IsKeptStop}
use Rattle.run_work.specs.declared.leaving.Stop.{Stop}
use Rattle.run_work.proofs.Arriving.{HaveMadeFew-from, HaveMet-arrived, lose_at-there, on_ok_none}
use Rattle.run_work.proofs.Settled.{AreFaultless-on, AreSettled-on, AreSettled-trans, AreUnmarked-on, have_gone_on_then}
use Rattle.run_work.proofs.Stopped.{stop-told, stops-less}
use Rattle.run_work.proofs.settling.Settling.settle.Goals as goal

pub returns-clause-settled : goal.returns-clause-settled
returns-clause-settled g c =
    AreSettled-trans c.args.self.now c.seat_rest.new.self c.tell.new.self c.in_ok-seat_rest.ensures.settled
    (AreSettled-on c.seat_rest.new.self c.tell.new.self
    (have_gone_on_then c.seat_rest.new.self c.hear.new.self c.tell.new.self c.hear.ensures.on
    (have_gone_on_then c.hear.new.self c.rounds.new.self c.tell.new.self c.rounds.ensures.on c.tell.ensures.on)))

pub returns-clause-note : goal.returns-clause-note
returns-clause-note g c =
    subst (λ (n : NoteView). (c.tell.new.note.table ≡ n.table) × IsPrefix n.seen c.tell.new.note.seen) c.hear.ensures.note c.tell.ensures.note

pub returns-clause-few : goal.returns-clause-few
returns-clause-few g c unmarked =
    let old = c.args.self.now in
    let seated = c.in_ok-seat_rest.ensures in
    let whole = c.requires.whole.2 in
    let after = have_gone_on_then c.seat_rest.new.self c.hear.new.self c.tell.new.self c.hear.ensures.on
    (have_gone_on_then c.hear.new.self c.rounds.new.self c.tell.new.self c.rounds.ensures.on c.tell.ensures.on) in
    let settled = AreSettled-trans old c.seat_rest.new.self c.tell.new.self seated.settled (AreSettled-on c.seat_rest.new.self c.tell.new.self after) in
    let count : length c.tell.new.self.ends ≡ length old.ends =
    omega (arith, (settled.ends c.requires.whole.0 c.requires.whole.1 whole).count, whole.count, ap length settled.nodes) in
    HaveMadeFew-from c.args.rounds old c.tell.new.self count
    (λ replica within.
    let inside : replica < length c.hear.new.self.nodes = omega (arith, within, whole.count, ap length c.hear.ensures.on.nodes, ap length seated.settled.nodes) in
    omega (arith, seated.still.made replica, c.hear.ensures.still.made replica, c.rounds.ensures.made (AreUnmarked-on c.rounds.new.self c.tell.new.self c.tell.ensures.on unmarked) replica inside, c.tell.ensures.still.made replica))

pub returns-clause-met : goal.returns-clause-met
returns-clause-met g c none unmarked from to no_inbox from_within to_within apart =
    let old = c.args.self.now in
    let seated = c.in_ok-seat_rest.ensures in
    let front = c.args.note.now.seen in
    let now = c.rounds.new.self in
    let size : length now.nodes ≡ length old.nodes = ap length (c.rounds.ensures.on.nodes ∙ c.hear.ensures.on.nodes ∙ seated.settled.nodes) in
    let arrived = on_ok_none c.rounds.result (sym c.err-stop.ensures.value ∙ none) c.rounds.ensures.arrived
    (AreUnmarked-on now c.tell.new.self c.tell.ensures.on unmarked) front c.requires.rounds c.hear.ensures.told in
    let lose = lose_at-there old now to no_inbox (omega (arith, to_within, seated.inboxes))
    (c.rounds.ensures.on.plans ∙ c.hear.ensures.on.plans ∙ ap (map (λ (i : InboxState ParcelView). i.plan)) seated.still.inboxes) in
    HaveMet-arrived now.desk.setup c.tell.new.note.seen front now from to (get_or old.inboxes to no_inbox).plan.lose
    (c.tell.ensures.run (omega (arith, from_within, size))) lose
    c.tell.ensures.told
    (omega (arith, from_within, size)) (omega (arith, to_within, size))
    (arrived from to (omega (arith, from_within, size)) (omega (arith, to_within, size)) (λ same. apart (sym same)))

pub returns-clause-stop : goal.returns-clause-stop
returns-clause-stop g c =
    let seated = c.in_ok-seat_rest.ensures.settled in
    let desk : c.hear.new.self.desk ≡ c.args.self.now.desk = c.hear.ensures.on.desk ∙ seated.desk in
    let Kept = IsKeptStop _ c.args.self.now.desk (AreFaultless c.tell.new.self.ends) in
    subst (λ (stop : Option Stop). IfSome stop Kept) (sym c.err-stop.ensures.value)
    (stop-told Kept c.rounds.result
    (stops-less _ c.args.self.now.desk (AreFaultless c.rounds.new.self.ends) (AreFaultless c.tell.new.self.ends) c.rounds.result
    (AreFaultless-on c.rounds.new.self c.tell.new.self c.tell.ensures.on)
    (subst (λ (d : DeskView). IfErr c.rounds.result (IsKeptStop _ d (AreFaultless c.rounds.new.self.ends))) desk c.rounds.ensures.stop)))
