use Rattle.std.proofs.Common.{◌++◌, IfSome, ap, sym, ◌∙◌, subst}
use Rattle.std.specs.Option.{option_map, option_to_list}
use Rattle.locked_replica.specs.Parcels.{ParcelView}
use Rattle.postbox.specs.Posts.{IsFor}
use Rattle.run_work.specs.Settling.{SettlingView}
use Rattle.run_work.proofs.Puts.{first_message, none_waits}
use Rattle.run_work.proofs.RoundSteps.{waiting-mine, waiting-others, waiting-there}
use Rattle.run_work.proofs.Settled.{HaveGoneOn-inbox, first-holds, waiting-are_for}
use Rattle.run_work.proofs.settling.Settling.next.Goals as goal

pub returns-clause-on : goal.returns-clause-on
returns-clause-on g c = HaveGoneOn-inbox _ _ c.self.view_is c.index_mut.ensures.value c.next.ensures.plan

pub returns-clause-first : goal.returns-clause-first
returns-clause-first g c =
    waiting-there c.self.view_is c.self.invariant c.requires.replica c.index_mut.ensures.value
    ∙ first_message c.next.result c.index_mut.result.now.waiting c.next.new.self.waiting c.next.ensures.first
    ∙ ap (λ ms. option_to_list (option_map (λ (p : ParcelView). p.message) c.next.result) ++ ms)
    (sym (waiting-mine c.self.view_is c.self.invariant c.requires.replica c.index_mut.ensures.value c.next.new.self))

pub returns-clause-none : goal.returns-clause-none
returns-clause-none g c none =
    waiting-mine c.self.view_is c.self.invariant c.requires.replica c.index_mut.ensures.value c.next.new.self
    ∙ none_waits c.next.result c.index_mut.result.now.waiting c.next.new.self.waiting c.next.ensures.first none c.next.ensures.none

pub returns-clause-others : goal.returns-clause-others
returns-clause-others g c = waiting-others _ c.self.view_is

pub returns-clause-parcel : goal.returns-clause-parcel
returns-clause-parcel g c =
    subst (λ (s : SettlingView). IfSome c.next.result (IsFor s.desk.table c.args.replica)) c.self.view_is
    (first-holds (IsFor c.self.inside.desk.now.table c.args.replica) c.next.result c.index_mut.result.now.waiting c.next.new.self.waiting c.next.ensures.first
    (waiting-are_for c.self.view_is c.self.invariant c.requires.replica c.index_mut.ensures.value))
