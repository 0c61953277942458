-- What waits in an inbox after a put, and after the first of it was taken.
use Rattle.std.proofs.Common.{◌≡◌, ℕ, ◌+◌, ◌<◌, ◌≤◌, Bool, true, false, ◌&&◌, if◌then◌else◌, List, [], ◌∷◌, ◌++◌, All, Contains, IsNone, Option, Some, None, get_or, length, map, set, refl, sym, ap, ◌∙◌, subst, ◌↔◌, arith}
use Rattle.std.specs.Prelude.{nat_le}
use Rattle.std.specs.Option.{option_map, option_to_list}
use Rattle.std.proofs.lemmas.Bool.{lt-leb}
use Rattle.std.proofs.lemmas.Option.{none-some}
use Rattle.std.proofs.lemmas.List.{length-append, length-map, map-append}
use Rattle.std.proofs.lemmas.List.Elements.{All-head, Contains-append_left, Contains-append_right}
use Rattle.tact_base.proofs.ElementLemmas.{Contains-first}
use Rattle.run_model.specs.declared.entry.Message.{Message}
use Rattle.run_history.specs.Seats.{DeskView}
use Rattle.link_faults.specs.Inboxes.{Gains, InboxState, fate_due, joined, next_number}
use Rattle.link_faults.specs.Plans.{fate_of, items_added, names}
use Rattle.link_faults.specs.Twins.{IsAlike}
use Rattle.link_faults.specs.declared.plan.Fate.{Fate}
use Rattle.link_faults.specs.declared.plan.Fate.TheVariants.{Lost, LostFull, Doubled, Queued}
use Rattle.link_faults.specs.declared.plan.LinkPlan.{LinkPlan}
use Rattle.link_faults.specs.declared.plan.TheConstants.{INBOX_MAX}
use Rattle.locked_replica.specs.Parcels.{ParcelView}
use Rattle.run_work.specs.Rounds.{HaveCome, lose_at, messages_in, waiting_at}
use Rattle.run_work.specs.Settling.{IsSettling, SettlingView}
use Rattle.run_work.proofs.RoundSteps.{lose-there, waiting-mine, waiting-others, waiting-there}

-- a parcel alike to another
abbrev pub IsTwinOf : ParcelView → ParcelView → Type 0
IsTwinOf parcel = IsAlike (λ (p : ParcelView). p.message) (λ (p : ParcelView) (d : DeskView). p.desk ≡ d.table) parcel

abbrev messages : List ParcelView → List Message
messages parcels = map (λ (p : ParcelView). p.message) parcels

-- a put adds two at most, and one at least where the link loses none and there is room
added_most : (fate : Fate) → items_added fate ≤ 2
added_most Lost = omega arith
added_most LostFull = omega arith
added_most Doubled = omega arith
added_most Queued = omega arith

added_some : (plan : LinkPlan) (number waiting : ℕ) → plan.lose ≡ 0 → waiting < INBOX_MAX → 0 < items_added (fate_of plan number waiting)
added_some plan number waiting none room =
    let kept : names plan.lose number ≡ false = ap (λ every. names every number) none in
    let fits : nat_le INBOX_MAX waiting ≡ false = lt-leb INBOX_MAX waiting room in
    rw (kept, fits) (one_or_two (names plan.double number && nat_le (waiting + 2) INBOX_MAX))
  where
    one_or_two : (twice : Bool) → 0 < items_added (if twice then Doubled else Queued)
    one_or_two true = omega arith
    one_or_two false = omega arith

-- what joins others is at one of their ends
length-joined : (in_front : Bool) (added old : List ParcelView) → length (joined in_front added old) ≡ length added + length old
length-joined true added old = length-append added old
length-joined false added old = omega (arith, length-append old added)

old_joined : (in_front : Bool) (added old : List ParcelView) (message : Message)
    → Contains (messages old) message
    → Contains (messages (joined in_front added old)) message
old_joined true added old message within =
    rw (map-append (λ (p : ParcelView). p.message) added old) (Contains-append_right (messages added) (messages old) message within)
old_joined false added old message within =
    rw (map-append (λ (p : ParcelView). p.message) old added) (Contains-append_left (messages old) (messages added) message within)

added_joined : (in_front : Bool) (added old : List ParcelView) (message : Message)
    → Contains (messages added) message
    → Contains (messages (joined in_front added old)) message
added_joined true added old message within = old_joined false old added message within
added_joined false added old message within = old_joined true old added message within

first_twin : (parcel : ParcelView) (added : List ParcelView) → 0 < length added → All (IsTwinOf parcel) added → Contains (messages added) parcel.message
first_twin parcel [] some all = absurd (omega (arith, some))
first_twin parcel (twin ∷ rest) some all =
    Contains-first twin.message parcel.message (messages rest) (All-head (IsTwinOf parcel) twin rest all).carried

-- One replica's inbox after a put.
module _ {settling now : SettlingView} {replica : ℕ} {before : InboxState ParcelView} (is : settling ≡ now) (sound : IsSettling settling) (within : replica < length now.nodes)
    (there : before ≡ get_or settling.inboxes replica before) (after : InboxState ParcelView) (parcel : ParcelView) {fate : Fate} {in_front : Bool}
    (gains : Gains (IsTwinOf parcel) fate in_front before.waiting after.waiting) where
  abbrev put_into : SettlingView
  put_into = record settling { inboxes = set settling.inboxes replica after }

  pub HaveCome-put : HaveCome replica now put_into
  HaveCome-put =
      let mine = waiting-mine is sound within there after in
      let was = waiting-there is sound within there in
      record {
        count = omega (
          arith,
          ap length mine,
          ap length was,
          length-map after.waiting (λ (p : ParcelView). p.message),
          length-map before.waiting (λ (p : ParcelView). p.message),
          ap length gains.place,
          length-joined in_front gains.added before.waiting,
          gains.count,
          added_most fate,
        );
        kept = λ message waits.
            subst (λ ms. Contains ms message) (sym mine)
            (subst (λ ps. Contains (messages ps) message) (sym gains.place)
            (old_joined in_front gains.added before.waiting message (subst (λ ms. Contains ms message) was waits)));
        others = waiting-others after is;
      }

  pub waits-put : fate ≡ fate_due before → lose_at now replica ≡ 0 → length (waiting_at now replica) < INBOX_MAX → Contains (waiting_at put_into replica) parcel.message
  waits-put due none room =
      let mine = waiting-mine is sound within there after in
      let was = waiting-there is sound within there in
      let some : 0 < items_added (fate_due before) =
      added_some before.plan (next_number before.puts) (length before.waiting) (sym (lose-there is sound within there) ∙ none)
      (omega (arith, room, ap length was, length-map before.waiting (λ (p : ParcelView). p.message))) in
      subst (λ ms. Contains ms parcel.message) (sym mine)
      (subst (λ ps. Contains (messages ps) parcel.message) (sym gains.place)
      (added_joined in_front gains.added before.waiting parcel.message
      (first_twin parcel gains.added (omega (arith, some, ap items_added due, gains.count)) gains.twins)))

-- where nothing was put
module _ {settling now : SettlingView} {replica : ℕ} {before after : InboxState ParcelView} (is : settling ≡ now) (sound : IsSettling settling) (within : replica < length now.nodes)
    (there : before ≡ get_or settling.inboxes replica before) (same : after ≡ before) where
  pub HaveCome-none : HaveCome replica now (record settling { inboxes = set settling.inboxes replica after })
  HaveCome-none =
      let kept : waiting_at (record settling { inboxes = set settling.inboxes replica after }) replica ≡ waiting_at now replica =
      waiting-mine is sound within there after ∙ ap messages_in same ∙ sym (waiting-there is sound within there) in
      record {
        count = omega (arith, ap length kept);
        kept = λ message waits. subst (λ ms. Contains ms message) (sym kept) waits;
        others = waiting-others after is;
      }

-- the messages of a first parcel and those behind it
pub first_message : (first : Option ParcelView) (before after : List ParcelView)
    → before ≡ option_to_list first ++ after
    → messages before ≡ option_to_list (option_map (λ (p : ParcelView). p.message) first) ++ messages after
first_message None before after split = ap messages split
first_message (Some parcel) before after split = ap messages split

-- where there is none nothing waits
pub none_waits : (first : Option ParcelView) (before after : List ParcelView)
    → before ≡ option_to_list first ++ after
    → first ≡ None
    → (IsNone first ↔ (before ≡ []))
    → messages after ≡ []
none_waits None before after split none empty = ap messages (sym split ∙ empty.0 refl)
none_waits (Some parcel) before after split none empty = absurd (none-some parcel (sym none))
