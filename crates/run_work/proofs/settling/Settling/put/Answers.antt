use Rattle.std.proofs.Common.{refl, sym, subst}
use Rattle.link_faults.specs.Inboxes.{InboxState}
use Rattle.postbox.specs.Posts.{AreFor, IsFor, PostView}
use Rattle.postbox.proofs.Posting.{are_for-after_put}
use Rattle.locked_replica.specs.Parcels.{ParcelView}
use Rattle.run_work.specs.Settling.{AreReady, SettlingView}
use Rattle.run_work.proofs.Puts.{HaveCome-none, HaveCome-put, waits-put}
use Rattle.run_work.proofs.Settled.{HaveGoneOn-inbox, IsSettling-inbox, waiting-are_for}
use Rattle.run_work.proofs.settling.Settling.put.Goals as goal

pub invariant_of-self : goal.invariant_of-self
invariant_of-self g c =
    IsSettling-inbox _ c.self.invariant
    (subst (λ (i : InboxState ParcelView). AreFor c.self.inside.desk.now.table c.args.to i.waiting) (sym c.in_default.ensures.err)
    (waiting-are_for c.self.view_is c.self.invariant c.requires.to c.index_mut.ensures.value))

pub returns-in_default-clause-on : goal.returns-in_default-clause-on
returns-in_default-clause-on g c = HaveGoneOn-inbox _ _ c.self.view_is c.index_mut.ensures.value c.put.ensures.plan

pub returns-in_default-clause-come : goal.returns-in_default-clause-come
returns-in_default-clause-come g c = HaveCome-none c.self.view_is c.self.invariant c.requires.to c.index_mut.ensures.value c.in_default.ensures.err

pub returns-in_default-clause-ready : goal.returns-in_default-clause-ready
returns-in_default-clause-ready g c ready = subst AreReady (sym c.self.view_is) ready

pub invariant_of-self-2 : goal.invariant_of-self-2
invariant_of-self-2 g c =
    let desk = c.self.inside.desk.now in
    let post : PostView = record { desk = desk.table; to = c.args.to; inbox = c.index_mut.result.now } in
    IsSettling-inbox _ c.self.invariant
    (are_for-after_put post post desk c.args.parcel _ _ c.put.new.self.waiting refl refl
    (subst (λ (s : SettlingView). IsFor s.desk.table c.args.to c.args.parcel) (sym c.self.view_is) c.requires.parcel)
    (waiting-are_for c.self.view_is c.self.invariant c.requires.to c.index_mut.ensures.value) c.in-Ok.ensures.items)

pub returns-clause-on : goal.returns-clause-on
returns-clause-on g c = HaveGoneOn-inbox _ _ c.self.view_is c.index_mut.ensures.value c.put.ensures.plan

pub returns-clause-come : goal.returns-clause-come
returns-clause-come g c =
    HaveCome-put c.self.view_is c.self.invariant c.requires.to c.index_mut.ensures.value _ c.args.parcel c.in-Ok.ensures.items

pub returns-clause-waits : goal.returns-clause-waits
returns-clause-waits g c =
    waits-put c.self.view_is c.self.invariant c.requires.to c.index_mut.ensures.value _ c.args.parcel c.in-Ok.ensures.items c.in-Ok.ensures.fate
