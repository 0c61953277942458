-- A front of a history, and the length of a run.
use Rattle.std.proofs.Common.{◌≡◌, ℕ, zero, suc, ◌+◌, ◌*◌, ◌<◌, ◌≤◌, ◌==◌, nat_lt, true, List, [], ◌∷◌, ◌++◌, All, filter, length, refl, sym, ap, ◌∙◌, subst, arith, length-append}
use Rattle.std.proofs.lemmas.Bool.Decides.{nat_tests}
use Rattle.std.proofs.lemmas.List.Elements.{All-weaker, Contains-append_left, filter-append, filter_map-append}
use Rattle.tact_base.specs.declared.limits.TheConstants.{HISTORY_MAX}
use Rattle.tact_base.proofs.ListLemmas.{filter_all}
use Rattle.tact_base.specs.Setup.{Setup}
use Rattle.run_model.specs.Histories.{part_of, sent_in, sent_by_act, IsPrefix}
use Rattle.run_model.specs.Ranges.{IsEntryInRange}
use Rattle.run_model.specs.Runs.{IsDue, IsLawful, IsRun, WasSent}
use Rattle.run_model.specs.declared.entry.Act.{Act}
use Rattle.run_model.specs.declared.entry.Act.TheVariants as act
use Rattle.run_model.specs.declared.entry.Entry.{Entry}
use Rattle.run_model.proofs.EntriesInRange.{entries_in_range}
use Rattle.run_model.proofs.PartLemmas.{part_of-push_cases}
use Rattle.run_model.proofs.RunInduction.{over_runs}

-- what was sent in a front was sent in the whole
pub WasSent-more : (seen history : List Entry) (done : Act) → IsPrefix seen history
    → WasSent seen done → WasSent history done
WasSent-more seen history (act.Take message) (rest, is) sent =
    let here = part_of seen message.from in
    let whole : part_of history message.from ≡ here ++ part_of rest message.from =
    ap (λ h. part_of h message.from) is ∙ filter-append (λ (entry : Entry). entry.replica == message.from) seen rest in
    let all : sent_in (part_of history message.from) ≡ sent_in here ++ sent_in (part_of rest message.from) =
    ap sent_in whole ∙ filter_map-append (λ (entry : Entry). sent_by_act entry.act) here (part_of rest message.from) in
    rw all (Contains-append_left (sent_in here) (sent_in (part_of rest message.from)) message sent)
WasSent-more seen history (act.Call client number request reply) prefix sent = tt
WasSent-more seen history (act.Send message) prefix sent = tt
WasSent-more seen history (act.Lend to conit amount) prefix sent = tt
WasSent-more seen history (act.Back owner conit amount) prefix sent = tt
WasSent-more seen history act.Restart prefix sent = tt

-- an entry that may follow a front that has all of its replica may follow the whole
pub IsLawful-more : (setup : Setup) (seen history : List Entry) (entry : Entry)
    → IsPrefix seen history → part_of seen entry.replica ≡ part_of history entry.replica
    → IsLawful setup seen entry → IsLawful setup history entry
IsLawful-more setup seen history entry prefix whole lawful = record {
  due = subst (λ part. IsDue setup part entry) whole lawful.due;
  sent = WasSent-more seen history entry.act prefix lawful.sent;
}

-- in a run no part is longer than it may be
pub parts_are_short : (setup : Setup) (history : List Entry) → IsRun setup history → (replica : ℕ)
    → length (part_of history replica) ≤ HISTORY_MAX
parts_are_short setup = over_runs setup (λ history. (replica : ℕ) → length (part_of history replica) ≤ HISTORY_MAX)
    (λ replica. omega arith)
    (λ before entry run lawful short.
    part_of-push_cases before entry (λ replica part. length part ≤ HISTORY_MAX)
    (omega (arith, lawful.due.room, length-append (part_of before entry.replica) (entry ∷ []))) short)

-- the entries of the replicas below a number
unfoldable below : ℕ → List Entry → List Entry
below n history = filter (λ (entry : Entry). nat_lt entry.replica n) history

below-zero : (history : List Entry) → length (below 0 history) ≡ 0
unfolding below
below-zero [] = refl
below-zero (entry ∷ history) = grind (arith, nat_tests, below-zero history)

-- those of one replica more
below-more : (n : ℕ) (history : List Entry)
    → length (below (n + 1) history) ≡ length (below n history) + length (part_of history n)
unfolding below
below-more n [] = refl
below-more n (entry ∷ history) = grind (arith, nat_tests, below-more n history)

below-short : (history : List Entry) (most n : ℕ)
    → ((replica : ℕ) → length (part_of history replica) ≤ most)
    → length (below n history) ≤ n * most
below-short history most zero short = omega (arith, below-zero history)
below-short history most (suc n) short =
    let more : length (below (suc n) history) ≡ length (below n history) + length (part_of history n) = ap (λ k. length (below k history)) (omega arith) ∙ below-more n history in
    let times : suc n * most ≡ n * most + most = grind arith in
    omega (arith, below-short history most n short, short n)

-- in a run each entry's replica is one of the setup
pub replicas_in_run : (setup : Setup) (history : List Entry) → IsRun setup history
    → All (λ (entry : Entry). entry.replica < setup.replicas) history
replicas_in_run setup history run =
    All-weaker (IsEntryInRange setup) (λ (entry : Entry). entry.replica < setup.replicas) (λ entry within. within.replica) history (entries_in_range setup history run)

-- a run has no more entries than its replicas may have in all
pub run_is_short : (setup : Setup) (history : List Entry) → IsRun setup history
    → length history ≤ setup.replicas * HISTORY_MAX
unfolding below
run_is_short setup history run =
    let whole : below setup.replicas history ≡ history = filter_all (λ (entry : Entry). nat_lt entry.replica setup.replicas) history
    (All-weaker (λ (entry : Entry). entry.replica < setup.replicas) (λ (entry : Entry). nat_lt entry.replica setup.replicas ≡ true)
    (λ entry within. grind (arith, nat_tests)) history (replicas_in_run setup history run)) in
    rw (sym (ap length whole)) (below-short history HISTORY_MAX setup.replicas (parts_are_short setup history run))
