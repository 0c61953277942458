use Rattle.std.proofs.Common.{◌≡◌, ℕ, ◌<◌, ◌++◌, get_or, length, map}
use Rattle.link_faults.specs.Inboxes.{InboxState}
use Rattle.locked_replica.specs.Parcels.{ParcelView}
use Rattle.postbox.specs.Posts.{AreFor, PostboxView}
use Rattle.run_work.proofs.closing.end_inboxes.Given as goal

abbrev pub invariant-loop-inbox : goal.invariant-loop-inbox
invariant-loop-inbox g l = record {
  all : l.yielded ++ l.inbox-iterator.rest.items ≡ l.fn.inboxes.items;
  keys : l.keys.rest.items ≡ map (λ (inbox : PostboxView). inbox.cell) l.inbox-iterator.rest.items;
  plans : map (λ (inbox : InboxState ParcelView). inbox.plan) l.ended.items ≡ map (λ (box : PostboxView). box.plan) l.yielded;
  count : length l.ended.items ≡ length l.yielded;
  ended : (replica : ℕ) (no_box : PostboxView) (none : InboxState ParcelView) → replica < length l.ended.items
      → AreFor (get_or l.yielded replica no_box).desk (get_or l.yielded replica no_box).to (get_or l.ended.items replica none).waiting;
}
