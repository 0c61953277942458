use Rattle.std.proofs.Common.{◌≡◌, ◌≢◌, ◌⊎◌, ◌<◌, ℕ, List, IfSome, Option, None, get_or, length, inl, inr, sym, ap, ◌∙◌, subst, ⊎_elim, arith, rules}
use Rattle.std.specs.List.{AllZip}
use Rattle.std.specs.Vec.{with_item, with_items}
use Rattle.std.proofs.lemmas.List.{get_or_default, with_items_is}
use Rattle.std.proofs.lemmas.List.Elements.{All-weaker}
use Rattle.tact_base.specs.Setup.{Setup}
use Rattle.tact_io.specs.Faults.{HasRisen}
use Rattle.run_model.specs.Histories.{IsPrefix}
use Rattle.run_model.proofs.PrefixLemmas.{IsPrefix-trans}
use Rattle.run_history.specs.Seats.{ClerkView, DeskView, NoteView}
use Rattle.replica_lock.specs.Sessions.{NodeView}
use Rattle.work_load.specs.Attempts.{settling}
use Rattle.work_load.specs.declared.plan.Client.{Client}
use Rattle.run_work.specs.Ends.{AreApart, AreBusy, AreCertain, AreFaultless, AreUnmarked, AreWhole, HaveEnded, HaveRosters, IsStop, LosesNone}
use Rattle.run_work.specs.Finished.{HasFinished}
use Rattle.run_work.specs.Serving.{IsClientServed}
use Rattle.run_work.specs.Settling.{AreSettled, HaveMet}
use Rattle.run_work.specs.Shelves.{HaveHeld, ShelfEnd}
use Rattle.run_work.specs.Sites.{AreInboxes, AreSites, HavePlans, IsInboxAt, IsNodeAt, SitesView}
use Rattle.run_work.specs.declared.leaving.Stop.{Stop}
use Rattle.run_work.specs.declared.seat.End.{End}
use Rattle.run_work.proofs.Ending.{AreWhole-back}
use Rattle.run_work.proofs.Finishing.{HasFinished-heard, HaveAllMet-heard, IsSettling-whole, at_written, if_ok_at, numbered_sites, on_ok_at, some_clerk}
use Rattle.run_work.proofs.Reach.{AreApart-back, AreApart-settled}
use Rattle.run_work.proofs.Shelving.{HasRisen-on}
use Rattle.run_work.proofs.Stopping.{stop-less}
use Rattle.run_work.proofs.run.run_on.Goals as goal

pub give_up-requires-clause-nodes : goal.give_up-requires-clause-nodes
give_up-requires-clause-nodes g c =
    numbered_sites (record { desk = c.sites.inside.desk.now; nodes = c.sites.inside.nodes.items; inboxes = c.sites.inside.inboxes.items }) (subst AreSites (sym c.sites.view_is) c.stand.ensures)

pub give_up-requires-clause-ends : goal.give_up-requires-clause-ends
give_up-requires-clause-ends g c =
    let size : length c.work_all-left.new.ends ≡ c.in_ok-sites.field-0.ends.len = search rules in
    at_written HaveRosters c.in_ok-sites.field-0.sites.nodes c.sites.inside.nodes.items c.in_ok-sites.field-0.ends c.work_all-left.new.ends
    (ap (λ (s : SitesView). s.nodes) c.sites.view_is) size c.work_all-left.ensures.rosters

pub give_up-requires-in_default-end_inboxes-clause-nodes : goal.give_up-requires-in_default-end_inboxes-clause-nodes
give_up-requires-in_default-end_inboxes-clause-nodes g c =
    numbered_sites (record { desk = c.sites.inside.desk.now; nodes = c.sites.inside.nodes.items; inboxes = c.sites.inside.inboxes.items }) (subst AreSites (sym c.sites.view_is) c.stand.ensures)

pub give_up-requires-in_default-end_inboxes-clause-ends : goal.give_up-requires-in_default-end_inboxes-clause-ends
give_up-requires-in_default-end_inboxes-clause-ends g c =
    let size : length c.work_all-left.new.ends ≡ c.in_ok-sites.field-0.ends.len = search rules in
    at_written HaveRosters c.in_ok-sites.field-0.sites.nodes c.sites.inside.nodes.items c.in_ok-sites.field-0.ends c.work_all-left.new.ends
    (ap (λ (s : SitesView). s.nodes) c.sites.view_is) size c.work_all-left.ensures.rosters

pub settle_after-nodes-requires-clause-whole : goal.settle_after-nodes-requires-clause-whole
settle_after-nodes-requires-clause-whole g c =
    let size : length c.work_all-left.new.ends ≡ c.in_ok-sites.field-0.ends.len = search rules in
    let nodes_is : c.sites.inside.nodes.items ≡ c.in_ok-sites.field-0.sites.nodes = ap (λ (s : SitesView). s.nodes) c.sites.view_is in
    let clients : List Client = c.args.plan.now.clients in
    let notes : List NoteView = c.in-Ok.field-0.notes.items in
    let whole : AreWhole clients notes c.sites.inside.nodes.items (with_items c.in_ok-sites.field-0.ends c.work_all-left.new.ends).items =
    at_written (AreWhole clients notes) c.in_ok-sites.field-0.sites.nodes c.sites.inside.nodes.items c.in_ok-sites.field-0.ends c.work_all-left.new.ends nodes_is size
    (AreWhole-back clients notes c.in_ok-sites.field-0.sites c.work_all-left.new.ends c.in-Ok.ensures.ends) in
    (clients, notes, whole)

pub settle_after-nodes-requires-clause-numbered : goal.settle_after-nodes-requires-clause-numbered
settle_after-nodes-requires-clause-numbered g c =
    numbered_sites (record { desk = c.sites.inside.desk.now; nodes = c.sites.inside.nodes.items; inboxes = c.sites.inside.inboxes.items }) (subst AreSites (sym c.sites.view_is) c.stand.ensures)

pub settle_after-nodes-requires-clause-certain : goal.settle_after-nodes-requires-clause-certain
settle_after-nodes-requires-clause-certain g c =
    λ kept.
    let size : length c.work_all-left.new.ends ≡ c.in_ok-sites.field-0.ends.len = search rules in
    let written : (with_items c.in_ok-sites.field-0.ends c.work_all-left.new.ends).items ≡ c.work_all-left.new.ends = with_items_is c.in_ok-sites.field-0.ends c.work_all-left.new.ends size in
    subst AreCertain (sym written) (c.in-Ok.ensures.certain kept)

pub settle_after-nodes-requires-clause-settling : goal.settle_after-nodes-requires-clause-settling
settle_after-nodes-requires-clause-settling g c =
    λ none.
    let size : length c.work_all-left.new.ends ≡ c.in_ok-sites.field-0.ends.len = search rules in
    let are : AreSites (record { desk = c.sites.inside.desk.now; nodes = c.sites.inside.nodes.items; inboxes = c.sites.inside.inboxes.items }) = subst AreSites (sym c.sites.view_is) c.stand.ensures in
    let nodes_is : c.sites.inside.nodes.items ≡ c.in_ok-sites.field-0.sites.nodes = ap (λ (s : SitesView). s.nodes) c.sites.view_is in
    let desk_is : c.sites.inside.desk.now ≡ c.args.desk.now = ap (λ (s : SitesView). s.desk) c.sites.view_is ∙ c.in_ok-sites.ensures.desk in
    let written : (with_items c.in_ok-sites.field-0.ends c.work_all-left.new.ends).items ≡ c.work_all-left.new.ends = with_items_is c.in_ok-sites.field-0.ends c.work_all-left.new.ends size in
    let clients : List Client = c.args.plan.now.clients in
    let notes : List NoteView = c.in-Ok.field-0.notes.items in
    let whole : AreWhole clients notes c.sites.inside.nodes.items (with_items c.in_ok-sites.field-0.ends c.work_all-left.new.ends).items =
    at_written (AreWhole clients notes) c.in_ok-sites.field-0.sites.nodes c.sites.inside.nodes.items c.in_ok-sites.field-0.ends c.work_all-left.new.ends nodes_is size
    (AreWhole-back clients notes c.in_ok-sites.field-0.sites c.work_all-left.new.ends c.in-Ok.ensures.ends) in
    let ended : (length c.in-Ok-end_inboxes.inboxes.items ≡ length c.sites.inside.inboxes.items) × AreInboxes c.args.desk.now c.in-Ok-end_inboxes.inboxes.items =
    c.in-Ok-end_inboxes.ensures.inboxes c.args.desk.now
    (λ replica none within. subst (λ (desk : DeskView). IsInboxAt desk replica (get_or c.sites.inside.inboxes.items replica none)) desk_is (are.inbox replica none within)) in
    let kept : LosesNone c.in-Ok.field-0.stop = subst LosesNone (sym none) tt in
    IsSettling-whole clients notes (record { desk = c.sites.inside.desk.now; nodes = c.sites.inside.nodes.items; inboxes = c.sites.inside.inboxes.items }) c.args.desk.now (with_items c.in_ok-sites.field-0.ends c.work_all-left.new.ends).items c.in-Ok-end_inboxes.inboxes.items desk_is are whole
    (subst AreCertain (sym written) (c.in-Ok.ensures.certain kept)) ended.0 ended.1

pub settle_after-nodes-requires-clause-stop : goal.settle_after-nodes-requires-clause-stop
settle_after-nodes-requires-clause-stop g c =
    let size : length c.work_all-left.new.ends ≡ c.in_ok-sites.field-0.ends.len = search rules in
    let written : (with_items c.in_ok-sites.field-0.ends c.work_all-left.new.ends).items ≡ c.work_all-left.new.ends = with_items_is c.in_ok-sites.field-0.ends c.work_all-left.new.ends size in
    let stop : Option Stop = c.in-Ok.field-0.stop in
    subst (λ (desk : DeskView). IfSome stop (IsStop g.B.J.Journal.tells desk (AreFaultless (with_items c.in_ok-sites.field-0.ends c.work_all-left.new.ends).items))) c.in_ok-sites.ensures.desk
    (stop-less g.B.J.Journal.tells c.in_ok-sites.field-0.sites.desk (AreFaultless c.work_all-left.new.ends) (AreFaultless (with_items c.in_ok-sites.field-0.ends c.work_all-left.new.ends).items) stop (subst AreFaultless written) c.in-Ok.ensures.stop)

pub finish_all-requires-clause-ends : goal.finish_all-requires-clause-ends
finish_all-requires-clause-ends g c =
    let size : length c.work_all-left.new.ends ≡ c.in_ok-sites.field-0.ends.len = search rules in
    let nodes_is : c.sites.inside.nodes.items ≡ c.in_ok-sites.field-0.sites.nodes = ap (λ (s : SitesView). s.nodes) c.sites.view_is in
    let clients : List Client = c.args.plan.now.clients in
    let notes : List NoteView = c.in-Ok.field-0.notes.items in
    let whole : AreWhole clients notes c.sites.inside.nodes.items (with_items c.in_ok-sites.field-0.ends c.work_all-left.new.ends).items =
    at_written (AreWhole clients notes) c.in_ok-sites.field-0.sites.nodes c.sites.inside.nodes.items c.in_ok-sites.field-0.ends c.work_all-left.new.ends nodes_is size
    (AreWhole-back clients notes c.in_ok-sites.field-0.sites c.work_all-left.new.ends c.in-Ok.ensures.ends) in
    let settled : AreSettled (record { desk = c.args.desk.now; nodes = c.sites.inside.nodes.items; ends = (with_items c.in_ok-sites.field-0.ends c.work_all-left.new.ends).items; inboxes = c.in-Ok-end_inboxes.inboxes.items }) (record { desk = c.args.desk.now; nodes = c.settle_after-nodes.result.nodes.items; ends = c.settle_after-nodes.result.ends.items; inboxes = c.in-Ok-end_inboxes.inboxes.items }) =
    on_ok_at (AreSettled (record { desk = c.args.desk.now; nodes = c.sites.inside.nodes.items; ends = (with_items c.in_ok-sites.field-0.ends c.work_all-left.new.ends).items; inboxes = c.in-Ok-end_inboxes.inboxes.items }) (record { desk = c.args.desk.now; nodes = c.settle_after-nodes.result.nodes.items; ends = c.settle_after-nodes.result.ends.items; inboxes = c.in-Ok-end_inboxes.inboxes.items })) c.settle_after-nodes.result.stop c.in-Ok-stop.stop c.in-Ok-stop.is c.settle_after-nodes.ensures.settled in
    (clients, notes, settled.ends clients notes whole)

pub index_mut-requires : goal.index_mut-requires
index_mut-requires g c =
    let size : length c.work_all-left.new.ends ≡ c.in_ok-sites.field-0.ends.len = search rules in
    let are : AreSites (record { desk = c.sites.inside.desk.now; nodes = c.sites.inside.nodes.items; inboxes = c.sites.inside.inboxes.items }) = subst AreSites (sym c.sites.view_is) c.stand.ensures in
    let nodes_is : c.sites.inside.nodes.items ≡ c.in_ok-sites.field-0.sites.nodes = ap (λ (s : SitesView). s.nodes) c.sites.view_is in
    let desk_is : c.sites.inside.desk.now ≡ c.args.desk.now = ap (λ (s : SitesView). s.desk) c.sites.view_is ∙ c.in_ok-sites.ensures.desk in
    let clients : List Client = c.args.plan.now.clients in
    let notes : List NoteView = c.in-Ok.field-0.notes.items in
    let whole : AreWhole clients notes c.sites.inside.nodes.items (with_items c.in_ok-sites.field-0.ends c.work_all-left.new.ends).items =
    at_written (AreWhole clients notes) c.in_ok-sites.field-0.sites.nodes c.sites.inside.nodes.items c.in_ok-sites.field-0.ends c.work_all-left.new.ends nodes_is size
    (AreWhole-back clients notes c.in_ok-sites.field-0.sites c.work_all-left.new.ends c.in-Ok.ensures.ends) in
    let settled : AreSettled (record { desk = c.args.desk.now; nodes = c.sites.inside.nodes.items; ends = (with_items c.in_ok-sites.field-0.ends c.work_all-left.new.ends).items; inboxes = c.in-Ok-end_inboxes.inboxes.items }) (record { desk = c.args.desk.now; nodes = c.settle_after-nodes.result.nodes.items; ends = c.settle_after-nodes.result.ends.items; inboxes = c.in-Ok-end_inboxes.inboxes.items }) =
    on_ok_at (AreSettled (record { desk = c.args.desk.now; nodes = c.sites.inside.nodes.items; ends = (with_items c.in_ok-sites.field-0.ends c.work_all-left.new.ends).items; inboxes = c.in-Ok-end_inboxes.inboxes.items }) (record { desk = c.args.desk.now; nodes = c.settle_after-nodes.result.nodes.items; ends = c.settle_after-nodes.result.ends.items; inboxes = c.in-Ok-end_inboxes.inboxes.items })) c.settle_after-nodes.result.stop c.in-Ok-stop.stop c.in-Ok-stop.is c.settle_after-nodes.ensures.settled in
    let drawn =
    c.in_ok-drawn.ensures.drawn c.args.desk.now clients notes
    (ap length settled.nodes ∙ are.nodes_are ∙ ap (λ (desk : DeskView). desk.setup.replicas) desk_is)
    (λ replica none within.
    subst (λ (all : List NodeView). IsNodeAt c.args.desk.now replica (get_or all replica none)) (sym settled.nodes)
    (subst (λ (desk : DeskView). IsNodeAt desk replica (get_or c.sites.inside.nodes.items replica none)) desk_is (are.node replica none (omega (arith, within, ap length settled.nodes)))))
    (settled.ends clients notes whole) in
    let some : 0 < length c.in_ok-drawn.drawn.clerks.items =
    some_clerk c.args.plan.now.setup c.in_ok-drawn.drawn.clerks.items c.requires.plan.setup (drawn.0.count ∙ ap (λ (setup : Setup). setup.replicas) c.requires.setup) in
    search rules

pub learn_first-requires-clause-clerk : goal.learn_first-requires-clause-clerk
learn_first-requires-clause-clerk g c =
    let size : length c.work_all-left.new.ends ≡ c.in_ok-sites.field-0.ends.len = search rules in
    let are : AreSites (record { desk = c.sites.inside.desk.now; nodes = c.sites.inside.nodes.items; inboxes = c.sites.inside.inboxes.items }) = subst AreSites (sym c.sites.view_is) c.stand.ensures in
    let nodes_is : c.sites.inside.nodes.items ≡ c.in_ok-sites.field-0.sites.nodes = ap (λ (s : SitesView). s.nodes) c.sites.view_is in
    let desk_is : c.sites.inside.desk.now ≡ c.args.desk.now = ap (λ (s : SitesView). s.desk) c.sites.view_is ∙ c.in_ok-sites.ensures.desk in
    let clients : List Client = c.args.plan.now.clients in
    let notes : List NoteView = c.in-Ok.field-0.notes.items in
    let whole : AreWhole clients notes c.sites.inside.nodes.items (with_items c.in_ok-sites.field-0.ends c.work_all-left.new.ends).items =
    at_written (AreWhole clients notes) c.in_ok-sites.field-0.sites.nodes c.sites.inside.nodes.items c.in_ok-sites.field-0.ends c.work_all-left.new.ends nodes_is size
    (AreWhole-back clients notes c.in_ok-sites.field-0.sites c.work_all-left.new.ends c.in-Ok.ensures.ends) in
    let settled : AreSettled (record { desk = c.args.desk.now; nodes = c.sites.inside.nodes.items; ends = (with_items c.in_ok-sites.field-0.ends c.work_all-left.new.ends).items; inboxes = c.in-Ok-end_inboxes.inboxes.items }) (record { desk = c.args.desk.now; nodes = c.settle_after-nodes.result.nodes.items; ends = c.settle_after-nodes.result.ends.items; inboxes = c.in-Ok-end_inboxes.inboxes.items }) =
    on_ok_at (AreSettled (record { desk = c.args.desk.now; nodes = c.sites.inside.nodes.items; ends = (with_items c.in_ok-sites.field-0.ends c.work_all-left.new.ends).items; inboxes = c.in-Ok-end_inboxes.inboxes.items }) (record { desk = c.args.desk.now; nodes = c.settle_after-nodes.result.nodes.items; ends = c.settle_after-nodes.result.ends.items; inboxes = c.in-Ok-end_inboxes.inboxes.items })) c.settle_after-nodes.result.stop c.in-Ok-stop.stop c.in-Ok-stop.is c.settle_after-nodes.ensures.settled in
    let drawn =
    c.in_ok-drawn.ensures.drawn c.args.desk.now clients notes
    (ap length settled.nodes ∙ are.nodes_are ∙ ap (λ (desk : DeskView). desk.setup.replicas) desk_is)
    (λ replica none within.
    subst (λ (all : List NodeView). IsNodeAt c.args.desk.now replica (get_or all replica none)) (sym settled.nodes)
    (subst (λ (desk : DeskView). IsNodeAt desk replica (get_or c.sites.inside.nodes.items replica none)) desk_is (are.node replica none (omega (arith, within, ap length settled.nodes)))))
    (settled.ends clients notes whole) in
    let some : 0 < length c.in_ok-drawn.drawn.clerks.items =
    some_clerk c.args.plan.now.setup c.in_ok-drawn.drawn.clerks.items c.requires.plan.setup (drawn.0.count ∙ ap (λ (setup : Setup). setup.replicas) c.requires.setup) in
    ap (λ (clerk : ClerkView). clerk.table) c.index_mut.ensures.value ∙ drawn.0.table 0 c.index_mut.result.now some

pub returns-clause-finished : goal.returns-clause-finished
returns-clause-finished g c =
    let size : length c.work_all-left.new.ends ≡ c.in_ok-sites.field-0.ends.len = search rules in
    let are : AreSites (record { desk = c.sites.inside.desk.now; nodes = c.sites.inside.nodes.items; inboxes = c.sites.inside.inboxes.items }) = subst AreSites (sym c.sites.view_is) c.stand.ensures in
    let nodes_is : c.sites.inside.nodes.items ≡ c.in_ok-sites.field-0.sites.nodes = ap (λ (s : SitesView). s.nodes) c.sites.view_is in
    let desk_is : c.sites.inside.desk.now ≡ c.args.desk.now = ap (λ (s : SitesView). s.desk) c.sites.view_is ∙ c.in_ok-sites.ensures.desk in
    let written : (with_items c.in_ok-sites.field-0.ends c.work_all-left.new.ends).items ≡ c.work_all-left.new.ends = with_items_is c.in_ok-sites.field-0.ends c.work_all-left.new.ends size in
    let clients : List Client = c.args.plan.now.clients in
    let notes : List NoteView = c.in-Ok.field-0.notes.items in
    let whole : AreWhole clients notes c.sites.inside.nodes.items (with_items c.in_ok-sites.field-0.ends c.work_all-left.new.ends).items =
    at_written (AreWhole clients notes) c.in_ok-sites.field-0.sites.nodes c.sites.inside.nodes.items c.in_ok-sites.field-0.ends c.work_all-left.new.ends nodes_is size
    (AreWhole-back clients notes c.in_ok-sites.field-0.sites c.work_all-left.new.ends c.in-Ok.ensures.ends) in
    let ended : (length c.in-Ok-end_inboxes.inboxes.items ≡ length c.sites.inside.inboxes.items) × AreInboxes c.args.desk.now c.in-Ok-end_inboxes.inboxes.items =
    c.in-Ok-end_inboxes.ensures.inboxes c.args.desk.now
    (λ replica none within. subst (λ (desk : DeskView). IsInboxAt desk replica (get_or c.sites.inside.inboxes.items replica none)) desk_is (are.inbox replica none within)) in
    let settled : AreSettled (record { desk = c.args.desk.now; nodes = c.sites.inside.nodes.items; ends = (with_items c.in_ok-sites.field-0.ends c.work_all-left.new.ends).items; inboxes = c.in-Ok-end_inboxes.inboxes.items }) (record { desk = c.args.desk.now; nodes = c.settle_after-nodes.result.nodes.items; ends = c.settle_after-nodes.result.ends.items; inboxes = c.in-Ok-end_inboxes.inboxes.items }) =
    on_ok_at (AreSettled (record { desk = c.args.desk.now; nodes = c.sites.inside.nodes.items; ends = (with_items c.in_ok-sites.field-0.ends c.work_all-left.new.ends).items; inboxes = c.in-Ok-end_inboxes.inboxes.items }) (record { desk = c.args.desk.now; nodes = c.settle_after-nodes.result.nodes.items; ends = c.settle_after-nodes.result.ends.items; inboxes = c.in-Ok-end_inboxes.inboxes.items })) c.settle_after-nodes.result.stop c.in-Ok-stop.stop c.in-Ok-stop.is c.settle_after-nodes.ensures.settled in
    let drawn =
    c.in_ok-drawn.ensures.drawn c.args.desk.now clients notes
    (ap length settled.nodes ∙ are.nodes_are ∙ ap (λ (desk : DeskView). desk.setup.replicas) desk_is)
    (λ replica none within.
    subst (λ (all : List NodeView). IsNodeAt c.args.desk.now replica (get_or all replica none)) (sym settled.nodes)
    (subst (λ (desk : DeskView). IsNodeAt desk replica (get_or c.sites.inside.nodes.items replica none)) desk_is (are.node replica none (omega (arith, within, ap length settled.nodes)))))
    (settled.ends clients notes whole) in
    let some : 0 < length c.in_ok-drawn.drawn.clerks.items =
    some_clerk c.args.plan.now.setup c.in_ok-drawn.drawn.clerks.items c.requires.plan.setup (drawn.0.count ∙ ap (λ (setup : Setup). setup.replicas) c.requires.setup) in
    let stop : Option Stop = c.in-Ok-stop.stop in
    let after : ClerkView = c.learn_first.new.clerk in
    let ends : List End = c.settle_after-nodes.result.ends.items in
    let front = c.learn_first.ensures.note in
    let answer = c.settle_after-nodes.result.stop in
    let at : (none : ClerkView) → c.index_mut.result.now ≡ get_or c.in_ok-drawn.drawn.clerks.items 0 none =
    λ none. c.index_mut.ensures.value ∙ get_or_default c.in_ok-drawn.drawn.clerks.items 0 c.index_mut.result.now none some in
    let first : stop ≡ None → c.in-Ok.field-0.stop ≡ None = if_ok_at (λ (one : Option Stop). one ≡ None → c.in-Ok.field-0.stop ≡ None) answer stop c.in-Ok-stop.is c.settle_after-nodes.ensures.first in
    let certain : LosesNone stop → AreCertain ends = if_ok_at (λ (one : Option Stop). LosesNone one → AreCertain ends) answer stop c.in-Ok-stop.is c.settle_after-nodes.ensures.kept in
    let unmarked : AreUnmarked ends → AreUnmarked c.work_all-left.new.ends = λ now. subst AreUnmarked written (settled.unmarked now) in
    let replicas : c.sites.inside.desk.now.setup.replicas ≡ c.args.plan.now.setup.replicas =
    ap (λ (desk : DeskView). desk.setup.replicas) desk_is ∙ ap (λ (setup : Setup). setup.replicas) c.requires.setup in
    let sure =
    ⊎_elim
    (λ (risen : HasRisen (g.B.Shelf.faults c.open.new.shelf) (g.B.Shelf.faults c.finish_all.new.shelf)).
    inl (HasRisen-on (g.B.Shelf.faults c.args.shelf.now) (g.B.Shelf.faults c.open.new.shelf) (g.B.Shelf.faults c.finish_all.new.shelf) (g.B.Shelf.faults c.finish_all.new.shelf)
    c.in_ok-sites.ensures.never_falls c.in_ok-drawn.ensures.never_falls (omega arith) risen))
    (λ (held : HaveHeld g.B.J.Journal.tells (g.B.Shelf.stored c.finish_all.new.shelf) ends c.in_ok-drawn.drawn.clerks.items). inr held)
    c.in_ok-drawn.ensures.sure in
    subst (λ (one : Option Stop). HasFinished (record { tells = g.B.J.Journal.tells; before = g.B.Shelf.faults c.args.shelf.now; after = g.B.Shelf.faults c.finish_all.new.shelf; stored = g.B.Shelf.stored c.finish_all.new.shelf }) c.args.plan.now c.args.tries c.args.desk.now (record { drawn = record c.in_ok-drawn.drawn { clerks = with_item c.in_ok-drawn.drawn.clerks 0 after }; stop = one }))
    (sym c.learn_first.ensures.stop)
    (HasFinished-heard (record { tells = g.B.J.Journal.tells; before = g.B.Shelf.faults c.args.shelf.now; after = g.B.Shelf.faults c.finish_all.new.shelf; stored = g.B.Shelf.stored c.finish_all.new.shelf }) c.args.plan.now c.args.tries c.args.desk.now notes c.in_ok-drawn.drawn stop after ends drawn.0
    (λ kept. drawn.1 (certain kept))
    (if_ok_at (HaveEnded c.args.tries clients notes) answer stop c.in-Ok-stop.is (c.settle_after-nodes.ensures.ended c.args.tries clients notes c.in-Ok.ensures.ended))
    some
    (λ none. c.learn_first.ensures.clerk ∙ ap (λ (clerk : ClerkView). record clerk { seen = after.seen }) (at none))
    (All-weaker (λ (note : NoteView). IsPrefix note.seen c.join_all-note.result.seen) (λ (note : NoteView). IsPrefix note.seen after.seen)
    (λ note seen. IsPrefix-trans note.seen c.join_all-note.result.seen after.seen seen
    (IsPrefix-trans c.join_all-note.result.seen c.settle_after-nodes.new.note.seen after.seen c.settle_after-nodes.ensures.note.1 front)) notes c.join_all-note.ensures.notes)
    (if_ok_at (λ (one : Option Stop). IfSome one (IsStop g.B.J.Journal.tells c.args.desk.now (AreFaultless ends))) answer stop c.in-Ok-stop.is c.settle_after-nodes.ensures.stop)
    c.learn_first.ensures.heard sure
    (λ now none. subst (λ (desk : DeskView). AllZip (λ client note. IsClientServed desk.setup client note.seen) clients notes) c.in_ok-sites.ensures.desk
    (c.in-Ok.ensures.served (unmarked now) (first none)))
    (λ now none rounds.
    HaveAllMet-heard c.args.plan.now notes (record { desk = c.args.desk.now; nodes = c.sites.inside.nodes.items; ends = (with_items c.in_ok-sites.field-0.ends c.work_all-left.new.ends).items; inboxes = c.in-Ok-end_inboxes.inboxes.items }) c.sites.inside.inboxes.items c.join_all-note.result.seen c.settle_after-nodes.new.note.seen c.in_ok-drawn.drawn.clerks.items after
    (are.nodes_are ∙ replicas) (ended.0 ∙ are.inboxes_are ∙ replicas) (are.inboxes_are ∙ replicas)
    (subst (λ (s : SitesView). HavePlans c.args.plan.now s.inboxes) (sym c.sites.view_is) c.in_ok-sites.ensures.plans)
    c.in-Ok-end_inboxes.ensures.plans c.join_all-note.ensures.notes
    (if_ok_at (λ (one : Option Stop). one ≡ None → c.settle.result ≢ 0 → AreUnmarked ends → HaveMet (record { desk = c.args.desk.now; nodes = c.sites.inside.nodes.items; ends = (with_items c.in_ok-sites.field-0.ends c.work_all-left.new.ends).items; inboxes = c.in-Ok-end_inboxes.inboxes.items }) c.join_all-note.result.seen c.settle_after-nodes.new.note.seen) answer stop c.in-Ok-stop.is
    c.settle_after-nodes.ensures.met none (λ zero. rounds (sym c.settle.ensures.rounds ∙ zero)) now) some front)
    (λ now kept.
    c.in_ok-drawn.ensures.few clients (settling c.args.plan.now.settle) now (certain kept)
    (subst (λ (rounds : ℕ). AreBusy clients (settling rounds) ends) c.settle.ensures.rounds
    (on_ok_at (AreBusy clients (settling c.settle.result) ends) answer stop c.in-Ok-stop.is
    (c.settle_after-nodes.ensures.busy clients (subst (AreBusy clients 0) (sym written) c.in-Ok.ensures.busy))))
    (AreApart-settled (record { desk = c.args.desk.now; nodes = c.sites.inside.nodes.items; ends = (with_items c.in_ok-sites.field-0.ends c.work_all-left.new.ends).items; inboxes = c.in-Ok-end_inboxes.inboxes.items }) (record { desk = c.args.desk.now; nodes = c.settle_after-nodes.result.nodes.items; ends = c.settle_after-nodes.result.ends.items; inboxes = c.in-Ok-end_inboxes.inboxes.items }) settled
    (subst AreApart (sym written)
    (AreApart-back c.args.plan.now.setup.replicas c.args.plan.now.setup.conits clients notes c.in_ok-sites.field-0.sites c.work_all-left.new.ends c.requires.plan.clients c.in-Ok.ensures.ends)))))
