-- Parcels that wait in an inbox for one replica of a desk, and the fates of puts.
use Rattle.std.proofs.Common.{◌≡◌, List, length, ap, sym, ◌∙◌}
use Rattle.std.specs.Prelude.{Bool}
use Rattle.link_faults.specs.Inboxes.{Gains, fate_due, next_number}
use Rattle.link_faults.specs.Plans.{fate_of}
use Rattle.link_faults.specs.Twins.{IsAlike}
use Rattle.link_faults.specs.declared.plan.Fate.{Fate}
use Rattle.link_faults.proofs.Waiting.{Gains-all}
use Rattle.run_history.specs.Seats.{DeskView}
use Rattle.run_model.specs.declared.entry.Message.{Message}
use Rattle.locked_replica.specs.Parcels.{ParcelView}
use Rattle.postbox.specs.declared.post.Address.{Address}
use Rattle.postbox.specs.Posts.{AreFor, IsFateBy, IsFor, PostView, address_of}

-- what is put into a postbox is alike to a parcel for its replica
pub are_for-after_put : (was now : PostView) (desk : DeskView) (parcel : ParcelView) (fate : Fate) (in_front : Bool) (new : List ParcelView)
    → was ≡ now
    → desk.table ≡ now.desk
    → IsFor now.desk now.to parcel
    → AreFor was.desk was.to was.inbox.waiting
    → Gains (IsAlike (λ (p : ParcelView). p.message) (λ (p : ParcelView) (d : DeskView). p.desk ≡ d.table) parcel) fate in_front was.inbox.waiting new
    → AreFor was.desk was.to new
are_for-after_put was now desk parcel fate in_front new view_is desk_is is_for all gains =
    Gains-all (IsFor was.desk was.to) _ fate in_front was.inbox.waiting new
    (λ twin alike. (
      (alike.fitting desk).0 (is_for.0 ∙ sym desk_is) ∙ desk_is ∙ sym (ap (λ (p : PostView). p.desk) view_is),
      ap (λ (m : Message). m.to) alike.carried ∙ is_for.1 ∙ sym (ap (λ (p : PostView). p.to) view_is),
    ))
    all gains

-- the fate of the next put of a post is one by the plan of its address
pub due-by_plan : (post : PostView) (address : Address) (fate : Fate)
    → address_of post ≡ address
    → fate_due post.inbox ≡ fate
    → IsFateBy address.plan fate
due-by_plan post address fate address_is due = (
  next_number post.inbox.puts,
  length post.inbox.waiting,
  sym due ∙ ap (λ (a : Address). fate_of a.plan (next_number post.inbox.puts) (length post.inbox.waiting)) address_is,
)
