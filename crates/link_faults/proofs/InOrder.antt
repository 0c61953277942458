-- Where the plan names no put and nothing was lost, what waits is what was put, without what was taken from its front.
use Rattle.std.proofs.Common.{◌≡◌, ◌≢◌, ℕ, ◌+◌, ◌^◌, ◌<◌, ◌≤◌, Bool, true, false, ◌==◌, nat_le, if◌then◌else◌, List, [], ◌∷◌, ◌++◌, length, drop, refl, sym, ap, ◌∙◌, subst, arith, add-zero}
use Rattle.std.specs.List.{fold}
use Rattle.std.proofs.lemmas.List.{append-nil, append_assoc, drop-append-le, drop-drop, length-append, length-drop}
use Rattle.std.proofs.lemmas.Bool.{cond_both, eqb-false}
use Rattle.link_faults.specs.declared.plan.TheConstants.{INBOX_MAX}
use Rattle.link_faults.specs.declared.plan.LinkPlan.{LinkPlan}
use Rattle.link_faults.specs.declared.plan.Fate.TheVariants.{LostFull, Queued}
use Rattle.link_faults.specs.Plans.{no_faults}
use Rattle.link_faults.specs.Inboxes.{Event, put, next, InboxState, after_event, after_fate, after_next, after_put, empty_inbox, inbox_after, items_put, next_number}

module _ {C : Type 0} where
  -- what is known after so many events, when these items were put
  record IsAfterPuts (items : List C) (count : ℕ) (state : InboxState C) : Type 0 where
    pub plan : state.plan ≡ no_faults
    pub few_lost : state.lost ≤ count
    pub few_taken : state.taken ≤ count
    pub rest : state.lost ≡ 0 → state.waiting ≡ drop state.taken items
    pub fits : state.lost ≡ 0 → state.taken ≤ length items

  -- a put, as the plan that names none makes it
  abbrev plain_put : InboxState C → C → Bool → InboxState C
  plain_put state c full =
      if full then record state { puts = next_number state.puts; lost = next_number state.lost }
      else record state { waiting = state.waiting ++ c ∷ []; puts = next_number state.puts }

  put-plain : (state : InboxState C) (c : C)
      → state.plan ≡ no_faults
      → after_put state c ≡ plain_put state c (nat_le INBOX_MAX (length state.waiting))
  put-plain state c plan =
      let P : LinkPlan → Type 0 = λ plan. after_put (record state { plan = plan }) c ≡ plain_put (record state { plan = plan }) c (nat_le INBOX_MAX (length state.waiting)) in
      subst P (sym plan) (by (nat_le INBOX_MAX (length state.waiting)))
    where
      by : (full : Bool)
          → after_fate (record state { plan = no_faults }) c (if full then LostFull else Queued) ≡ plain_put (record state { plan = no_faults }) c full
      by true = refl
      by false = refl

  module _ (items : List C) (count : ℕ) (state : InboxState C) (few : count + 1 < 2 ^ 64) (known : IsAfterPuts items count state) where
    after_puts-put : (c : C) → IsAfterPuts (items ++ c ∷ []) (count + 1) (after_put state c)
    after_puts-put c =
        let longer = length-append items (c ∷ []) in
        rw (put-plain state c known.plan) (
        cond_both (nat_le INBOX_MAX (length state.waiting)) (record state { puts = next_number state.puts; lost = next_number state.lost })
        (record state { waiting = state.waiting ++ c ∷ []; puts = next_number state.puts }) (IsAfterPuts (items ++ c ∷ []) (count + 1))
        (λ _. record {
          plan = known.plan;
          few_lost = omega (arith, known.few_lost);
          few_taken = omega (arith, known.few_taken);
          rest = λ none. absurd (omega (arith, known.few_lost));
          fits = λ none. absurd (omega (arith, known.few_lost));
        })
        (λ _. record {
          plan = known.plan;
          few_lost = omega (arith, known.few_lost);
          few_taken = omega (arith, known.few_taken);
          rest = λ none. ap (λ waiting. waiting ++ c ∷ []) (known.rest none) ∙ sym (drop-append-le state.taken items (c ∷ []) (known.fits none));
          fits = λ none. omega (arith, known.fits none);
        }))

    after_puts-next : IsAfterPuts items (count + 1) (after_next state)
    after_puts-next =
        cond_both (length state.waiting == 0) state (record state { waiting = drop 1 state.waiting; taken = next_number state.taken }) (IsAfterPuts items (count + 1))
        (λ _. record {
          plan = known.plan;
          few_lost = omega (arith, known.few_lost);
          few_taken = omega (arith, known.few_taken);
          rest = known.rest;
          fits = known.fits;
        })
        (λ some.
        let waits : length state.waiting ≢ 0 = eqb-false (length state.waiting) 0 some in
        let number : next_number state.taken ≡ state.taken + 1 = omega (arith, known.few_taken) in
        record {
          plan = known.plan;
          few_lost = omega (arith, known.few_lost);
          few_taken = omega (arith, known.few_taken);
          rest = λ none. rw number (ap (drop 1) (known.rest none) ∙ drop-drop 1 state.taken items);
          fits = λ none.
              let long = ap length (known.rest none) ∙ length-drop state.taken items in
              omega (arith, long);
        })

  after_puts-events : (events : List (Event C)) (items : List C) (count : ℕ) (state : InboxState C)
      → count + length events < 2 ^ 64
      → IsAfterPuts items count state
      → IsAfterPuts (items ++ items_put events) (count + length events) (fold after_event state events)
  after_puts-events [] items count state few known = rw (append-nil, add-zero) known
  after_puts-events (put c ∷ events) items count state few known =
      let P : List C → ℕ → Type 0 = λ all n. IsAfterPuts all n (fold after_event (after_put state c) events) in
      let after = after_puts-events events (items ++ c ∷ []) (count + 1) (after_put state c) (omega arith) (after_puts-put items count state (omega arith) known c) in
      let counted : count + 1 + length events ≡ count + length (put c ∷ events) = omega arith in
      let moved = rw (append_assoc items (c ∷ []) (items_put events)) at after in
      subst (P (items ++ c ∷ items_put events)) counted moved
  after_puts-events (next ∷ events) items count state few known =
      let P : ℕ → Type 0 = λ n. IsAfterPuts (items ++ items_put events) n (fold after_event (after_next state) events) in
      let after = after_puts-events events items (count + 1) (after_next state) (omega arith) (after_puts-next items count state (omega arith) known) in
      let counted : count + 1 + length events ≡ count + length (next ∷ events) = omega arith in
      subst P counted after

  pub in_order : (events : List (Event C))
      → length events < 2 ^ 64
      → (inbox_after no_faults events).lost ≡ 0
      → (inbox_after no_faults events).waiting ≡ drop (inbox_after no_faults events).taken (items_put events)
  in_order events few none =
      let empty : IsAfterPuts [] 0 (empty_inbox no_faults) = record { plan = refl; few_lost = omega arith; few_taken = omega arith; rest = λ _. refl; fits = λ _. omega arith } in
      (after_puts-events events [] 0 (empty_inbox no_faults) (omega arith) empty).rest none
