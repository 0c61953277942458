use Rattle.std.proofs.Common.{◌≡◌, IfSome, List, Option, ap, arith, length, subst, sym, ◌∙◌}
use Rattle.run_model.specs.declared.entry.Entry.{Entry}
use Rattle.locked_replica.specs.Parcels.{ParcelView}
use Rattle.run_work.specs.Rounds.{HasSeenAt, HasSeenSending, lose_at}
use Rattle.run_work.proofs.RoundLoops.{HasSentTo-made, HasSentTo-put, HasSentTo-still}
use Rattle.run_work.proofs.RoundSteps.{HasSeenAt-on, HasSeenSending-map, lose_at-on, waiting-same}
use Rattle.run_work.proofs.Settled.{have_gone_on_then}
use Rattle.run_work.proofs.settling.Settling.send.Goals as goal

pub returns-in_default-put-clause-on : goal.returns-in_default-put-clause-on
returns-in_default-put-clause-on g c =
    have_gone_on_then c.args.self.now c.put.new.self c.no_memory.new.self
    (have_gone_on_then c.args.self.now c.parcel.new.self c.put.new.self c.in_ok-parcel.ensures.on c.put.ensures.on) c.no_memory.ensures.on

pub returns-in_default-put-clause-sent : goal.returns-in_default-put-clause-sent
returns-in_default-put-clause-sent g c =
    HasSentTo-still c.args.from c.args.to c.args.self.now c.put.new.self c.no_memory.new.self
    (HasSentTo-put c.args.from c.args.to c.args.self.now c.parcel.new.self c.put.new.self c.in_ok-parcel.ensures.made c.put.ensures.ends c.put.ensures.come)
    c.no_memory.ensures.on c.no_memory.ensures.still

pub returns-clause-sent : goal.returns-clause-sent
returns-clause-sent g c =
    HasSentTo-put c.args.from c.args.to c.args.self.now c.parcel.new.self c.put.new.self c.in_ok-parcel.ensures.made c.put.ensures.ends c.put.ensures.come

pub returns-in_default-clause-sent : goal.returns-in_default-clause-sent
returns-in_default-clause-sent g c = HasSentTo-made c.args.from c.args.to c.args.self.now c.parcel.new.self c.in_ok-parcel.ensures.made

pub returns-in_default-clause-reached : goal.returns-in_default-clause-reached
returns-in_default-clause-reached g c unmarked = absurd (c.in_ok-parcel.ensures.none c.in_default.is unmarked)

pub returns-clause-reached : goal.returns-clause-reached
returns-clause-reached g c unmarked front seen =
    let between = c.parcel.new.self in
    let after = c.put.new.self in
    let on = c.put.ensures.on in
    let message = c.in-Some.parcel.message in
    let same = waiting-same c.args.self.now between c.args.to c.in_ok-parcel.ensures.made.inboxes in
    let Sent = λ (parcel : ParcelView). (front : List Entry) → HasSeenAt c.args.self.now c.args.from front → HasSeenSending (HasSeenAt between c.args.from) front c.args.from c.args.to parcel.message in
    let sent = subst (λ (one : Option ParcelView). IfSome one Sent) c.in-Some.is c.in_ok-parcel.ensures.sent in
    record {
      message = message;
      sent = HasSeenSending-map (HasSeenAt between c.args.from) (HasSeenAt after c.args.from) front c.args.from c.args.to message
          (λ front. HasSeenAt-on between after c.args.from front on) (sent front seen);
      waits = λ (none : lose_at after c.args.to ≡ 0).
          c.in-Ok.ensures.waits (sym (lose_at-on between after c.args.to on) ∙ none) (omega (arith, c.requires.room, ap length same));
    }
