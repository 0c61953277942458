use Rattle.std.proofs.lemmas.Result.{IfErr-weaker, on_ok_weaker}
use Rattle.run_work.proofs.Leads.{HasGoneOn-lead, HasSeenTaking-taken, IsKeptStop-lead, lead-of, made_by-unmarked}
use Rattle.run_work.proofs.seat.End.take.Goals as goal

pub returns : goal.returns
returns g c =
    let end = c.args.self.now in
    let place = c.lead-lead.result in
    let before = c.index_mut.result.now in
    let after = c.take_for.new.session in
    let lead = c.lead-lead.ensures in
    let there = c.index_mut.ensures.value in
    let stayed = c.take_for.ensures.stayed in
    let node = c.args.node.now in
    record {
      on = HasGoneOn-lead end place before lead there after stayed;
      made = made_by-unmarked end place before lead there after 1 c.take_for.ensures.few;
      taken = on_ok_weaker c.take_for.result
          (λ taken. HasSeenTaking-taken end place before lead there node after c.args.parcel taken stayed (lead-of end place before lead there node c.requires.end).at.replica)
          c.take_for.ensures.taken;
      stop = IfErr-weaker c.take_for.result _ _ (IsKeptStop-lead end place before lead there _ node.desk after) c.take_for.ensures.stop;
    }
