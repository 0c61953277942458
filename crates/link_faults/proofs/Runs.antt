-- Inboxes after events: their counts, and their order where the plan names no put.
use Rattle.std.proofs.Common.{◌≡◌, ◌≢◌, ℕ, ◌+◌, ◌-◌, ◌%◌, ◌^◌, ◌≤◌, Bool, true, false, ◌&&◌, ◌==◌, nat_le, if◌then◌else◌, List, [], ◌∷◌, length, drop, refl, ◌∙◌, arith, add-zero}
use Rattle.std.specs.List.{fold}
use Rattle.std.proofs.lemmas.List.{length-append, length-drop}
use Rattle.std.proofs.lemmas.Bool.{cond_both, leb-true, leb-false, eqb-false}
use Rattle.link_faults.specs.declared.plan.TheConstants.{INBOX_MAX}
use Rattle.link_faults.specs.declared.plan.LinkPlan.{LinkPlan}
use Rattle.link_faults.specs.declared.plan.Fate.{Fate}
use Rattle.link_faults.specs.declared.plan.Fate.TheVariants.{Lost, LostFull, Doubled, Queued}
use Rattle.link_faults.specs.Plans.{names, fate_of, items_added}
use Rattle.link_faults.specs.Inboxes.{AddUp, Event, put, next, InboxState, after_event, after_fate, after_next}
use Rattle.link_faults.specs.Inboxes.{after_put, counts_of, empty_inbox, fate_due, inbox_after, is_turned, items_put}
use Rattle.link_faults.specs.Inboxes.{joined, next_number}

-- what each step of a fold keeps
pub fold_keeps : {A B : Type 0} (P : B → Type 0) (f : B → A → B)
    → ((b : B) (a : A) → P b → P (f b a))
    → (b : B) (xs : List A)
    → P b
    → P (fold f b xs)
fold_keeps P f step b [] here = here
fold_keeps P f step b (x ∷ xs) here = fold_keeps P f step (f b x) xs (step b x here)

-- where there is room for what a fate adds
room_due : (plan : LinkPlan) (number waiting : ℕ)
    → waiting ≤ INBOX_MAX
    → waiting + items_added (fate_of plan number waiting) ≤ INBOX_MAX
room_due plan number waiting within =
    elim (names plan.lose number) as (λ lost. waiting + items_added (if lost then Lost else if nat_le INBOX_MAX waiting then LostFull
    else if names plan.double number && nat_le (waiting + 2) INBOX_MAX then Doubled else Queued)
    ≤ INBOX_MAX) [
      | true ↦ omega arith
      | false ↦ by (nat_le INBOX_MAX waiting) (names plan.double number) (nat_le (waiting + 2) INBOX_MAX) refl refl
    ]
  where
    by : (full named both : Bool)
        → nat_le INBOX_MAX waiting ≡ full
        → nat_le (waiting + 2) INBOX_MAX ≡ both
        → waiting + items_added (if full then LostFull else if named && both then Doubled else Queued) ≤ INBOX_MAX
    by true named both e f = omega arith
    by false true true e f = omega (arith, leb-true (waiting + 2) INBOX_MAX f)
    by false true false e f = omega (arith, leb-false INBOX_MAX waiting e)
    by false false both e f = omega (arith, leb-false INBOX_MAX waiting e)

module _ (puts copies taken lost waiting : ℕ) (add_up : (puts + copies) % 2 ^ 64 ≡ (taken + lost + waiting) % 2 ^ 64) where
  one_lost : (next_number puts + copies) % 2 ^ 64 ≡ (taken + next_number lost + waiting) % 2 ^ 64
  one_lost = omega arith

  one_queued : (next_number puts + copies) % 2 ^ 64 ≡ (taken + lost + (1 + waiting)) % 2 ^ 64
  one_queued = omega arith

  one_doubled : (next_number puts + next_number copies) % 2 ^ 64 ≡ (taken + lost + (2 + waiting)) % 2 ^ 64
  one_doubled = omega arith

  one_taken : waiting ≢ 0
      → (puts + copies) % 2 ^ 64 ≡ (next_number taken + lost + (waiting - 1)) % 2 ^ 64
  one_taken waits = omega arith

module _ {C : Type 0} where
  length-joined : (in_front : Bool) (added waiting : List C)
      → length (joined in_front added waiting) ≡ length added + length waiting
  length-joined true added waiting = length-append added waiting
  length-joined false added waiting = omega (arith, length-append waiting added)

  pub record IsCounted (state : InboxState C) : Type 0 where
    pub few : length state.waiting ≤ INBOX_MAX
    pub add_up : AddUp (counts_of state)

  counted-fate : (state : InboxState C) (c : C) (fate : Fate)
      → length state.waiting + items_added fate ≤ INBOX_MAX
      → IsCounted state
      → IsCounted (after_fate state c fate)
  counted-fate state c Lost room counted = record { few = counted.few; add_up = one_lost state.puts state.copies state.taken state.lost (length state.waiting) counted.add_up }
  counted-fate state c LostFull room counted = record { few = counted.few; add_up = one_lost state.puts state.copies state.taken state.lost (length state.waiting) counted.add_up }
  counted-fate state c Doubled room counted =
      let longer = length-joined (is_turned state) (c ∷ c ∷ []) state.waiting in
      record { few = omega arith; add_up = rw longer (one_doubled state.puts state.copies state.taken state.lost (length state.waiting) counted.add_up) }
  counted-fate state c Queued room counted =
      let longer = length-joined (is_turned state) (c ∷ []) state.waiting in
      record { few = omega arith; add_up = rw longer (one_queued state.puts state.copies state.taken state.lost (length state.waiting) counted.add_up) }

  counted-next : (state : InboxState C) → IsCounted state → IsCounted (after_next state)
  counted-next state counted =
      cond_both (length state.waiting == 0) state (record state { waiting = drop 1 state.waiting; taken = next_number state.taken }) IsCounted
      (λ _. counted)
      (λ some.
      let fewer = length-drop 1 state.waiting in
      let waits : length state.waiting ≢ 0 = eqb-false (length state.waiting) 0 some in
      record { few = omega arith; add_up = rw fewer (one_taken state.puts state.copies state.taken state.lost (length state.waiting) counted.add_up waits) })

  counted-event : (state : InboxState C) (event : Event C)
      → IsCounted state
      → IsCounted (after_event state event)
  counted-event state (put c) counted =
      counted-fate state c (fate_due state) (room_due state.plan (next_number state.puts) (length state.waiting) counted.few) counted
  counted-event state next counted = counted-next state counted

  pub counted : (plan : LinkPlan) (events : List (Event C)) → IsCounted (inbox_after plan events)
  counted plan events =
      fold_keeps IsCounted after_event counted-event (empty_inbox plan) events (record { few = omega arith; add_up = refl })

  -- puts are counted
  puts-fate : (state : InboxState C) (c : C) (fate : Fate)
      → (after_fate state c fate).puts ≡ next_number state.puts
  puts-fate state c Lost = refl
  puts-fate state c LostFull = refl
  puts-fate state c Doubled = refl
  puts-fate state c Queued = refl

  puts-next : (state : InboxState C) → (after_next state).puts ≡ state.puts
  puts-next state =
      cond_both (length state.waiting == 0) state (record state { waiting = drop 1 state.waiting; taken = next_number state.taken })
      (λ after. after.puts ≡ state.puts) (λ _. refl) (λ _. refl)

  puts_from : (events : List (Event C)) (state : InboxState C) (before : ℕ)
      → state.puts ≡ before % 2 ^ 64
      → (fold after_event state events).puts ≡ (before + length (items_put events)) % 2 ^ 64
  puts_from [] state before here = rw add-zero here
  puts_from (put c ∷ events) state before here =
      let more = puts_from events (after_put state c) (before + 1) (puts-fate state c (fate_due state) ∙ omega arith) in
      more ∙ omega arith
  puts_from (next ∷ events) state before here = puts_from events (after_next state) before (puts-next state ∙ here)

  pub puts-after : (plan : LinkPlan) (events : List (Event C))
      → (inbox_after plan events).puts ≡ length (items_put events) % 2 ^ 64
  puts-after plan events = puts_from events (empty_inbox plan) 0 refl ∙ omega arith
