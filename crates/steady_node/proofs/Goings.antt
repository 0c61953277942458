-- How a session goes on: by a refusal that it marks, by an entry, and one after the other.
use Rattle.std.proofs.Common.{◌≡◌, ◌≢◌, ℕ, ◌+◌, ◌<◌, ◌≤◌, ◌^◌, ◌==◌, Bool, true, false, cond, List, [], ◌∷◌, ◌++◌, filter, length, take, refl, sym, ap, ◌∙◌, subst, ⊎_elim, arith}
use Rattle.std.specs.Prelude.{nat_lt}
use Rattle.std.proofs.lemmas.Bool.{cases_lt, eq-eqb, le-ltb, lt-ltb}
use Rattle.std.proofs.lemmas.List.{length-append}
use Rattle.std.proofs.lemmas.List.Elements.{filter-append}
use Rattle.std.proofs.Math.Seq.{take-append_seam}
use Rattle.tact_base.specs.Setup.{Setup}
use Rattle.run_model.specs.Histories.{IsPrefix, is_call_of, part_of}
use Rattle.run_model.specs.declared.call.Reply.{Reply}
use Rattle.run_model.specs.declared.call.Request.{Request}
use Rattle.run_model.specs.declared.entry.Act.{Act}
use Rattle.run_model.specs.declared.entry.Entry.{Entry}
use Rattle.run_model.proofs.PrefixLemmas.{IsPrefix-filter, IsPrefix-length, IsPrefix-refl, IsPrefix-trans}
use Rattle.locked_replica.specs.declared.fault.NodeFault.{NodeFault}
use Rattle.locked_replica.specs.declared.fault.NodeFault.TheVariants as fault
use Rattle.replica_lock.specs.Ledgers.{risen}
use Rattle.replica_lock.specs.Sessions.{HasCalled, HasHeard, HasMade, IsAtNode, NodeView, SessionView, call_after, entry_after, failed_by, own_calls}
use Rattle.steady_node.specs.Going.{GoesOn, IsUnmarked, entries_left}

-- a mark doesn't fall
pub risen-least : (mark : ℕ) → mark ≤ risen mark
risen-least mark = go (nat_lt mark (2 ^ 60)) refl
  where
    go : (less : Bool) → nat_lt mark (2 ^ 60) ≡ less → mark ≤ risen mark
    go true is = rw (is) (omega arith)
    go false is = rw (is) (omega arith)

pub risen-some : (mark : ℕ) → risen mark ≢ 0
risen-some mark none =
    ⊎_elim (λ (few : mark < 2 ^ 60). absurd (omega (arith, none, ap (λ (b : Bool). cond b (mark + 1) mark) (lt-ltb mark (2 ^ 60) few))))
    (λ (many : 2 ^ 60 ≤ mark). absurd (omega (arith, none, ap (λ (b : Bool). cond b (mark + 1) mark) (le-ltb mark (2 ^ 60) many))))
    (cases_lt mark (2 ^ 60))

-- a session with other numbers and more seen
abbrev gone : SessionView → ℕ → ℕ → ℕ → ℕ → Bool → List Entry → SessionView
gone session calls made faults halts doubt seen =
    record session { calls = calls; made = made; faults = faults; halts = halts; doubt = doubt; seen = seen }

pub going : (most : ℕ) (before after : SessionView) (calls made faults halts : ℕ) (doubt : Bool)
    → after ≡ gone before calls made faults halts doubt after.seen
    → IsPrefix before.seen after.seen
    → before.faults ≤ faults
    → before.halts ≤ halts
    → made ≤ before.made + most
    → GoesOn most before after
going most before after calls made faults halts doubt is told more_faults more_halts few = record {
  value = subst (λ (s : SessionView). s ≡ gone before s.calls s.made s.faults s.halts s.doubt s.seen) (sym is) refl;
  told = told;
  faults = omega (arith, more_faults, ap (λ (s : SessionView). s.faults) is);
  halts = omega (arith, more_halts, ap (λ (s : SessionView). s.halts) is);
  few = λ unmarked. omega (arith, few, ap (λ (s : SessionView). s.made) is);
}

pub GoesOn-same : (most : ℕ) (session : SessionView) → GoesOn most session session
GoesOn-same most session =
    going most session session session.calls session.made session.faults session.halts session.doubt refl (IsPrefix-refl session.seen) (omega arith) (omega arith) (omega arith)

-- a mark stays
pub unmarked-before : (most : ℕ) (before after : SessionView) → GoesOn most before after → IsUnmarked after → IsUnmarked before
unmarked-before most before after on unmarked = (omega (arith, on.faults, unmarked.0), omega (arith, on.halts, unmarked.1))

pub GoesOn-trans : (few more : ℕ) (before between after : SessionView)
    → GoesOn few before between
    → GoesOn more between after
    → GoesOn (few + more) before after
GoesOn-trans few more before between after first second = record {
  value = second.value ∙ ap (λ (s : SessionView). gone s after.calls after.made after.faults after.halts after.doubt after.seen) first.value;
  told = IsPrefix-trans before.seen between.seen after.seen first.told second.told;
  faults = omega (arith, first.faults, second.faults);
  halts = omega (arith, first.halts, second.halts);
  few = λ unmarked.
      let then_few = second.few unmarked in
      let first_few = first.few (unmarked-before more between after second unmarked) in
      omega (arith, then_few, first_few);
}

-- where it is marked, with any count of entries
pub GoesOn-marked : (few most : ℕ) (before after : SessionView) → (IsUnmarked after → ⊥) → GoesOn few before after → GoesOn most before after
GoesOn-marked few most before after marked on = record {
  value = on.value;
  told = on.told;
  faults = on.faults;
  halts = on.halts;
  few = λ unmarked. absurd (marked unmarked);
}

-- a session that goes on is of its node, its replica and its client
pub IsAtNode-on : (node : NodeView) (most : ℕ) (before after : SessionView) → GoesOn most before after → IsAtNode node before → IsAtNode node after
IsAtNode-on node most before after on at = record {
  cell = ap (λ (s : SessionView). s.cell) on.value ∙ at.cell;
  desk = ap (λ (s : SessionView). s.desk) on.value ∙ at.desk;
  conits = ap (λ (s : SessionView). s.conits) on.value ∙ at.conits;
  replica = ap (λ (s : SessionView). s.replica) on.value ∙ at.replica;
}

pub replica-on : (most : ℕ) (before after : SessionView) → GoesOn most before after → after.replica ≡ before.replica
replica-on most before after on = ap (λ (s : SessionView). s.replica) on.value

pub client-on : (most : ℕ) (before after : SessionView) → GoesOn most before after → after.client ≡ before.client
client-on most before after on = ap (λ (s : SessionView). s.client) on.value

module _ (setup : Setup) (before after : SessionView) where
  -- after a call that was refused, by what is marked
  pub GoesOn-failed : (most : ℕ) (told : NodeFault) → HasHeard setup before (failed_by told before) after → GoesOn most before after
  GoesOn-failed most fault.Halted heard =
      going most before after before.calls before.made before.faults (risen before.halts) before.doubt heard.value heard.told (omega arith) (risen-least before.halts) (omega arith)
  GoesOn-failed most fault.JournalFault heard =
      going most before after before.calls before.made (risen before.faults) before.halts true heard.value heard.told (risen-least before.faults) (omega arith) (omega arith)
  GoesOn-failed most (fault.Full count stamp) heard =
      going most before after before.calls before.made before.faults before.halts before.doubt heard.value heard.told (omega arith) (omega arith) (omega arith)
  GoesOn-failed most fault.NoMemory heard =
      going most before after before.calls before.made before.faults before.halts before.doubt heard.value heard.told (omega arith) (omega arith) (omega arith)

  -- after an entry that is no call, and after a call
  pub GoesOn-made : (moment : ℕ) (done : Act) → HasMade setup before after moment done → GoesOn 1 before after
  GoesOn-made moment done made =
      going 1 before after before.calls (before.made + 1) before.faults before.halts before.doubt made.counts
      (IsPrefix-trans before.seen made.front after.seen made.told (entry_after before made.front moment done ∷ [], made.seen)) (omega arith) (omega arith) (omega arith)

  pub GoesOn-called : (moment : ℕ) (asked : Request) (given : Reply) → HasCalled setup before after moment asked given → GoesOn 1 before after
  GoesOn-called moment asked given called =
      going 1 before after (before.calls + 1) (before.made + 1) before.faults before.halts before.doubt called.counts
      (IsPrefix-trans before.seen called.front after.seen called.told (call_after before called.front moment asked given ∷ [], called.seen)) (omega arith) (omega arith) (omega arith)

-- more of the calls of its client was seen, and more of its replica's part
pub own_calls-on : (before after : SessionView)
    → IsPrefix before.seen after.seen
    → after.replica ≡ before.replica
    → after.client ≡ before.client
    → IsPrefix (own_calls before) (own_calls after)
own_calls-on before after told at client =
    subst (λ (r : ℕ). IsPrefix (own_calls before) (filter (λ (entry : Entry). is_call_of after.client entry.act) (part_of after.seen r))) (sym at)
    (subst (λ (k : ℕ). IsPrefix (own_calls before) (filter (λ (entry : Entry). is_call_of k entry.act) (part_of after.seen before.replica))) (sym client)
    (IsPrefix-filter (λ (entry : Entry). is_call_of before.client entry.act) (part_of before.seen before.replica) (part_of after.seen before.replica)
    (IsPrefix-filter (λ (entry : Entry). entry.replica == before.replica) before.seen after.seen told)))

-- the calls that a session had counted are the first ones of those that it sees later
pub first_calls : (before after : SessionView) (count : ℕ)
    → IsPrefix before.seen after.seen
    → after.replica ≡ before.replica
    → after.client ≡ before.client
    → count ≡ length (own_calls before)
    → take count (own_calls after) ≡ own_calls before
first_calls before after count told at client counted =
    let more = own_calls-on before after told at client in
    ap (λ (n : ℕ). take n (own_calls after)) counted
    ∙ ap (take (length (own_calls before))) more.1
    ∙ take-append_seam (own_calls before) more.0

part-on : (before after : SessionView)
    → IsPrefix before.seen after.seen
    → after.replica ≡ before.replica
    → length (part_of before.seen before.replica) ≤ length (part_of after.seen after.replica)
part-on before after told at =
    subst (λ (r : ℕ). length (part_of before.seen before.replica) ≤ length (part_of after.seen r)) (sym at)
    (IsPrefix-length (part_of before.seen before.replica) (part_of after.seen before.replica)
    (IsPrefix-filter (λ (entry : Entry). entry.replica == before.replica) before.seen after.seen told))

-- its replica can make no more entries than it could, and fewer after one was made
pub left-on : (before after : SessionView) → IsPrefix before.seen after.seen → after.replica ≡ before.replica → entries_left after ≤ entries_left before
left-on before after told at = omega (arith, part-on before after told at)

one_entry : (entry : Entry) (replica : ℕ) → entry.replica ≡ replica → length (part_of (entry ∷ []) replica) ≡ 1
one_entry entry replica at = rw (eq-eqb entry.replica replica at) refl

part-more : (front : List Entry) (entry : Entry) (replica : ℕ)
    → entry.replica ≡ replica
    → length (part_of (front ++ entry ∷ []) replica) ≡ length (part_of front replica) + 1
part-more front entry replica at =
    ap length (filter-append (λ (e : Entry). e.replica == replica) front (entry ∷ []))
    ∙ length-append (part_of front replica) (part_of (entry ∷ []) replica)
    ∙ ap (λ (n : ℕ). length (part_of front replica) + n) (one_entry entry replica at)

pub left-made : (setup : Setup) (before after : SessionView) (moment : ℕ) (done : Act)
    → HasMade setup before after moment done
    → entries_left after < entries_left before
left-made setup before after moment done made =
    let entry : Entry = entry_after before made.front moment done in
    let at : after.replica ≡ before.replica = ap (λ (s : SessionView). s.replica) made.counts in
    let more : length (part_of after.seen after.replica) ≡ length (part_of made.front before.replica) + 1 =
    ap (λ (r : ℕ). length (part_of after.seen r)) at
    ∙ ap (λ (seen : List Entry). length (part_of seen before.replica)) made.seen
    ∙ part-more made.front entry before.replica refl in
    let least : length (part_of before.seen before.replica) ≤ length (part_of made.front before.replica) =
    IsPrefix-length (part_of before.seen before.replica) (part_of made.front before.replica)
    (IsPrefix-filter (λ (e : Entry). e.replica == before.replica) before.seen made.front made.told) in
    omega (arith, more, least, made.due.room)
