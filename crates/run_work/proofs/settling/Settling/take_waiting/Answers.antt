use Rattle.std.proofs.Common.{◌≡◌, ◌++◌, ap, ◌∙◌}
use Rattle.std.specs.Option.{option_map, option_to_list}
use Rattle.locked_replica.specs.Parcels.{ParcelView}
use Rattle.run_work.specs.Rounds.{waiting_at}
use Rattle.run_work.proofs.RoundLoops.{HasTaken-more, HasTakenSome-all, HasTakenSome-more, HasTakenSome-none, HasTakenSome-none_next}
use Rattle.run_work.proofs.Settled.{have_gone_on_same, have_gone_on_then}
use Rattle.run_work.proofs.settling.Settling.take_waiting.Goals as goal

pub loop-taken-init : goal.loop-taken-init
loop-taken-init g c = record {
  on = have_gone_on_same c.args.self.now;
  ready = c.requires.ready;
  taking = HasTakenSome-none c.args.replica c.args.self.now;
}

pub returns-in_default-clause-taken : goal.returns-in_default-clause-taken
returns-in_default-clause-taken g c =
    let now = c.loop-taken.self in
    let next = c.next.new.self in
    let first : waiting_at now c.args.replica ≡ waiting_at next c.args.replica =
    c.next.ensures.first ∙ ap (λ first. option_to_list (option_map (λ (parcel : ParcelView). parcel.message) first) ++ waiting_at next c.args.replica) c.in_default.is in
    HasTakenSome-all c.args.replica c.loop-taken._taken c.args.self.now next
    (HasTakenSome-none_next c.args.replica c.loop-taken._taken c.args.self.now now next c.loop-taken.invariant.taking c.next.ensures.on c.next.ensures.ends first c.next.ensures.others)
    (c.next.ensures.none c.in_default.is)

pub returns-in_err-take-clause-made : goal.returns-in_err-take-clause-made
returns-in_err-take-clause-made g c =
    HasTaken-more c.args.replica c.loop-taken._taken c.args.self.now c.loop-taken.self c.next.new.self c.in-Some.parcel.message c.loop-taken.invariant.taking
    c.next.ensures.ends c.in-Some.ensures.first c.next.ensures.others c.take.new.self c.take.ensures.on c.take.ensures.made

pub loop-taken-preserved : goal.loop-taken-preserved
loop-taken-preserved g c =
    let begun = c.args.self.now in
    let now = c.loop-taken.self in
    let next = c.next.new.self in
    let after = c.take.new.self in
    let invariant = c.loop-taken.invariant in
    let taken = c.in_ok-take.ensures in
    record {
      on = have_gone_on_then begun now after invariant.on (have_gone_on_then now next after c.next.ensures.on taken.on);
      ready = taken.ready;
      taking = HasTakenSome-more c.args.replica c.loop-taken._taken begun now next c.in-Some.parcel.message invariant.taking c.next.ensures.ends
          c.in-Some.ensures.first c.next.ensures.others after taken.on taken.made c.next.ensures.on taken.taken;
    }
