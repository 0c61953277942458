-- What a closed history has of a replica and of a client: told by a front of it that was seen, by the pairs that the
-- replica's clerk drew, and by the setup.
use Rattle.std.proofs.Common.{◌≡◌, ℕ, ◌<◌, ◌≤◌, ◌==◌, false, List, [], flat_map, length, map, refl, sym, ap, ◌∙◌, subst, ne_eqb, arith}
use Rattle.std.proofs.lemmas.List.Elements.{All-weaker}
use Rattle.std.proofs.lemmas.List.Folds.{flat_map-map}
use Rattle.tact_base.specs.Roomy.{Roomy}
use Rattle.tact_base.specs.Setup.{Setup}
use Rattle.tact_base.specs.declared.limits.TheConstants.{CLIENTS, HISTORY_MAX}
use Rattle.tact_base.proofs.ListLemmas.{filter_none}
use Rattle.run_model.specs.Histories.{part_of, calls_in, calls_of, is_call_of, IsPrefix}
use Rattle.run_model.specs.Ranges.{IsActInRange, IsEntryInRange}
use Rattle.run_model.specs.Runs.{IsRun}
use Rattle.run_model.specs.declared.entry.Act.{Act}
use Rattle.run_model.specs.declared.entry.Act.TheVariants as act
use Rattle.run_model.specs.declared.entry.Entry.{Entry}
use Rattle.run_model.proofs.EntriesInRange.{part_in_range}
use Rattle.run_model.proofs.PrefixLemmas.{IsPrefix-filter, IsPrefix-whole}
use Rattle.run_history.specs.Closing.{all_drawn}
use Rattle.run_history.specs.Seats.{ClerkView}
use Rattle.run_history.specs.Ticks.{drawn_by, entries_of, IsMerge}
use Rattle.run_history.proofs.RunLemmas.{parts_are_short, replicas_in_run}
use Rattle.run_history.proofs.TickLemmas.{entries_of-drawn_by}

-- a replica's part in a front is a front of its part
pub IsPrefix-part_of : (seen history : List Entry) (replica : ℕ)
    → IsPrefix seen history
    → IsPrefix (part_of seen replica) (part_of history replica)
IsPrefix-part_of seen history replica front = IsPrefix-filter (λ (entry : Entry). entry.replica == replica) seen history front

-- a front that has as many calls of a client as were stored has all of them
pub calls_of-stored : (seen history : List Entry) (pairs : List (ℕ × Entry)) (replica client : ℕ)
    → IsPrefix seen history
    → part_of history replica ≡ entries_of pairs
    → calls_in (entries_of pairs) client ≡ length (calls_of seen replica client)
    → calls_of history replica client ≡ calls_of seen replica client
calls_of-stored seen history pairs replica client front stored size =
    let same : length (calls_of seen replica client) ≡ length (calls_of history replica client) =
    sym size ∙ ap (λ part. calls_in part client) (sym stored) in
    sym (IsPrefix-whole (calls_of seen replica client) (calls_of history replica client)
    (IsPrefix-filter (λ (entry : Entry). is_call_of client entry.act) (part_of seen replica) (part_of history replica)
    (IsPrefix-part_of seen history replica front))
    (omega (arith, same)))

-- the entries of what a replica drew are its part
pub entries_of-drawn : (history : List Entry) (pairs : List (ℕ × Entry)) (replica : ℕ)
    → pairs ≡ drawn_by history replica
    → entries_of pairs ≡ part_of history replica
entries_of-drawn history pairs replica drawn = ap entries_of drawn ∙ entries_of-drawn_by history replica

-- a front that has a full part of a replica has all of it
pub part_of-full : (setup : Setup) (seen history : List Entry) (replica : ℕ)
    → IsRun setup history
    → IsPrefix seen history
    → length (part_of seen replica) ≡ HISTORY_MAX
    → part_of history replica ≡ part_of seen replica
part_of-full setup seen history replica run front full =
    let part = IsPrefix-part_of seen history replica front in
    sym (IsPrefix-whole (part_of seen replica) (part_of history replica) part
    (omega (arith, full, parts_are_short setup history run replica)))

-- an act in range is no call of a client that there can't be
no_call : (setup : Setup) (replica client : ℕ) (done : Act)
    → IsActInRange setup replica done
    → CLIENTS ≤ client
    → is_call_of client done ≡ false
no_call setup replica client (act.Call caller number request reply) within past = ne_eqb caller client (omega (arith, within.0))
no_call setup replica client (act.Send message) within past = refl
no_call setup replica client (act.Take message) within past = refl
no_call setup replica client (act.Lend to conit amount) within past = refl
no_call setup replica client (act.Back owner conit amount) within past = refl
no_call setup replica client act.Restart within past = refl

-- in a run there is no call of a client that there can't be
pub calls_of-none : (setup : Setup) (history : List Entry) (replica client : ℕ)
    → IsRun setup history
    → CLIENTS ≤ client
    → calls_of history replica client ≡ []
calls_of-none setup history replica client run past =
    filter_none (λ (entry : Entry). is_call_of client entry.act) (part_of history replica)
    (All-weaker (IsEntryInRange setup) (λ (entry : Entry). is_call_of client entry.act ≡ false)
    (λ entry within. no_call setup entry.replica client entry.act within.act past)
    (part_of history replica) (part_in_range setup history run replica))

-- and no entry of a replica that the setup hasn't
pub part_of-none : (setup : Setup) (history : List Entry) (replica : ℕ)
    → IsRun setup history
    → setup.replicas ≤ replica
    → part_of history replica ≡ []
part_of-none setup history replica run past =
    filter_none (λ (entry : Entry). entry.replica == replica) history
    (All-weaker (λ (entry : Entry). entry.replica < setup.replicas) (λ (entry : Entry). entry.replica == replica ≡ false)
    (λ entry below. ne_eqb entry.replica replica (omega arith))
    history (replicas_in_run setup history run))

-- what two functions give of the elements of two lists joins to the same, where they give the same of each
flat_map_same : {X Y A : Type 0} (f : X → List A) (g : Y → List A) (xs : List X) (ys : List Y)
    → map f xs ≡ map g ys
    → flat_map f xs ≡ flat_map g ys
flat_map_same {A = A} f g xs ys same =
    let each = λ (items : List A). items in
    sym (flat_map-map each f xs) ∙ ap (flat_map each) same ∙ flat_map-map each g ys

-- the history that clerks drew is the merge of what was stored for each of them
pub IsMerge-parts : (clerks : List ClerkView) (parts : List (Roomy (ℕ × Entry))) (history : List Entry)
    → map (λ (clerk : ClerkView). clerk.pairs) clerks ≡ map (λ (part : Roomy (ℕ × Entry)). part.items) parts
    → IsMerge (all_drawn clerks) history
    → IsMerge (flat_map (λ (part : Roomy (ℕ × Entry)). part.items) parts) history
IsMerge-parts clerks parts history same merge =
    subst (λ pairs. IsMerge pairs history)
    (flat_map_same (λ (clerk : ClerkView). clerk.pairs) (λ (part : Roomy (ℕ × Entry)). part.items) clerks parts same) merge
