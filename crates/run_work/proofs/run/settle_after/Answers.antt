use Rattle.std.proofs.Common.{◌≢◌, sym, ap, subst}
use Rattle.run_work.specs.Ends.{AreBusy, AreUnmarked, HaveEnded}
use Rattle.run_work.specs.Settling.{SettlingView}
use Rattle.work_load.specs.Attempts.{settling}
use Rattle.run_work.proofs.Finishing.{met_after, none_there, numbered_settling, on_ok, settled_after}
use Rattle.run_work.proofs.Reach.{AreBusy-rounds}
use Rattle.run_work.proofs.Stopping.{HaveEnded-after}
use Rattle.run_work.proofs.run.settle_after.Goals as goal

pub returns-clause-numbered : goal.returns-clause-numbered
returns-clause-numbered g c = numbered_settling _ c.settling.invariant

pub returns-clause-met : goal.returns-clause-met
returns-clause-met g c =
    met_after c.settle-stop.result (AreUnmarked c.settle-stop.new.self.ends) (AreUnmarked c.settling.inside.ends.items) (c.args.rounds ≢ 0) _
    (subst AreUnmarked (ap (λ (s : SettlingView). s.ends) c.settling.view_is)) c.settle-stop.ensures.met

pub returns-clause-settled : goal.returns-clause-settled
returns-clause-settled g c =
    settled_after c.settle-stop.result (record { desk = c.args.unsettled.desk.now; nodes = c.args.unsettled.nodes.items; ends = c.args.unsettled.ends.items; inboxes = c.args.unsettled.inboxes.items }) c.settle-stop.new.self c.settling.inside.nodes.items c.settling.inside.ends.items
    (sym (ap (λ (s : SettlingView). s.nodes) c.settling.view_is)) (sym (ap (λ (s : SettlingView). s.ends) c.settling.view_is)) c.settle-stop.ensures.settled

pub returns-clause-ended : goal.returns-clause-ended
returns-clause-ended g c tries clients noted ended =
    HaveEnded-after tries clients noted c.settle-stop.result
    (subst (HaveEnded tries clients noted) (none_there c.args.unsettled.stop c.is_some.result c.is_some.ensures c.if-is_some.false) ended)

pub returns-clause-busy : goal.returns-clause-busy
returns-clause-busy g c clients busy =
    on_ok c.settle-stop.result (subst (AreBusy clients (settling c.args.rounds)) (ap (λ (s : SettlingView). s.ends) (sym c.settling.view_is)))
    (AreBusy-rounds c.settle-stop.result c.requires.whole.0 clients c.requires.whole.1 c.args.rounds (record { desk = c.args.unsettled.desk.now; nodes = c.args.unsettled.nodes.items; ends = c.args.unsettled.ends.items; inboxes = c.args.unsettled.inboxes.items }) c.settle-stop.new.self c.if-rounds-eq0.false
    c.requires.whole.2 c.settle-stop.ensures.settled c.settle-stop.ensures.few busy)
