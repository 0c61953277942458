-- The inbox at the end of a link, over plain lists: what waits in it, in the order in which it comes out, and its
-- counts (this project's own rule).
use Rattle.std.specs.Prelude.{◌≡◌, ℕ, ◌+◌, ◌%◌, ◌^◌, ◌≤◌, Bool, ◌==◌, List, [], ◌∷◌, ◌++◌, All, length, drop, map, fold, filter_map, Option, Some, None, if◌then◌else◌}
use Rattle.link_faults.specs.declared.plan.TheConstants.{INBOX_MAX}
use Rattle.link_faults.specs.declared.plan.LinkPlan.{LinkPlan}
use Rattle.link_faults.specs.declared.plan.Fate.{Fate}
use Rattle.link_faults.specs.declared.plan.Fate.TheVariants.{Lost, LostFull, Doubled, Queued}
use Rattle.link_faults.specs.declared.inbox.Counts.{Counts}
use Rattle.link_faults.specs.Plans.{names, fate_of, items_added}

-- the plan, the items that wait, and so many puts, copies that were put in, items taken and items lost, modulo 2^64
pub record InboxState (C : Type 0) : Type 0 where
  pub plan : LinkPlan
  pub waiting : List C
  pub puts : ℕ
  pub copies : ℕ
  pub taken : ℕ
  pub lost : ℕ

-- what is done with an inbox: an item that carries this is put, or the next is taken
pub data Event (C : Type 0) : Type 0 where
  put : C → Event C
  next : Event C

-- the number after a number of 64 bits: past the greatest they go on from 0
abbrev pub next_number : ℕ → ℕ
next_number number = (number + 1) % 2 ^ 64

module _ {C : Type 0} where
  -- the empty inbox of a plan
  abbrev pub empty_inbox : LinkPlan → InboxState C
  empty_inbox plan = record { plan = plan; waiting = []; puts = 0; copies = 0; taken = 0; lost = 0 }

  -- the fate of the next put
  abbrev pub fate_due : InboxState C → Fate
  fate_due state = fate_of state.plan (next_number state.puts) (length state.waiting)

  -- whether the next put goes to the front
  abbrev pub is_turned : InboxState C → Bool
  is_turned state = names state.plan.turn (next_number state.puts)

  -- items that wait, and others before them or else behind
  abbrev pub joined : Bool → List C → List C → List C
  joined in_front added waiting = if in_front then added ++ waiting else waiting ++ added

  -- an inbox after the next put, of an item that carries this, with this fate
  abbrev pub after_fate : InboxState C → C → Fate → InboxState C
  after_fate state c Lost = record state { puts = next_number state.puts; lost = next_number state.lost }
  after_fate state c LostFull = record state { puts = next_number state.puts; lost = next_number state.lost }
  after_fate state c Doubled =
      record state { waiting = joined (is_turned state) (c ∷ c ∷ []) state.waiting; puts = next_number state.puts; copies = next_number state.copies }
  after_fate state c Queued = record state { waiting = joined (is_turned state) (c ∷ []) state.waiting; puts = next_number state.puts }

  -- an inbox after a put
  abbrev pub after_put : InboxState C → C → InboxState C
  after_put state c = after_fate state c (fate_due state)

  -- an inbox after the first of what waits was taken, if anything waits
  abbrev pub after_next : InboxState C → InboxState C
  after_next state =
      if length state.waiting == 0 then state else record state { waiting = drop 1 state.waiting; taken = next_number state.taken }

  -- an inbox after one event
  abbrev pub after_event : InboxState C → Event C → InboxState C
  after_event state (put c) = after_put state c
  after_event state next = after_next state

  -- the inbox of a plan after events, in order
  abbrev pub inbox_after : LinkPlan → List (Event C) → InboxState C
  inbox_after plan events = fold after_event (empty_inbox plan) events

  -- what was put, in order
  abbrev pub items_put : List (Event C) → List C
  items_put events = filter_map item_of events
    where
      item_of : Event C → Option C
      item_of (put c) = Some c
      item_of next = None

  -- the counts of an inbox
  abbrev pub counts_of : InboxState C → Counts
  counts_of state = record { puts = state.puts; copies = state.copies; taken = state.taken; lost = state.lost; waiting = length state.waiting }

-- what was put and copied was taken, was lost, or waits, modulo 2^64
abbrev pub AddUp : Counts → Type 0
AddUp counts = (counts.puts + counts.copies) % 2 ^ 64 ≡ (counts.taken + counts.lost + counts.waiting) % 2 ^ 64

-- What every inbox keeps, where there is room for so many items: at most 1,024 wait, and the counts add up.
pub record IsSound (room : ℕ) (counts : Counts) : Type 0 where
  pub ample : INBOX_MAX ≤ room
  pub few : counts.waiting ≤ INBOX_MAX
  pub add_up : AddUp counts

-- an inbox, with what its items carry in place of the items
abbrev pub carried : {T C : Type 0} → (T → C) → InboxState T → InboxState C
carried carries state = record {
  plan = state.plan;
  waiting = map carries state.waiting;
  puts = state.puts;
  copies = state.copies;
  taken = state.taken;
  lost = state.lost;
}

-- The items that wait gained as many as the fate says, each as `IsTwin` says, at the end that is due; the others
-- stayed.
pub record Gains {T : Type 0} (IsTwin : T → Type 0) (fate : Fate) (in_front : Bool) (old new : List T) : Type 0 where
  pub added : List T
  pub count : length added ≡ items_added fate
  pub twins : All IsTwin added
  pub place : new ≡ joined in_front added old
