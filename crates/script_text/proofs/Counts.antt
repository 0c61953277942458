-- How many entries a line of a script makes: at most two of each replica, and four in all.
use Rattle.std.proofs.Common.{◌≡◌, ◌≢◌, ℕ, ◌+◌, ◌≤◌, Bool, true, false, cond, nat_le, List, [], ◌∷◌, ◌++◌, length, Option, None, Some, refl, sym, ap, ◌∙◌, ⊎_elim, arith}
use Rattle.std.specs.List.{slice_get}
use Rattle.std.proofs.lemmas.Bool.{cases_eq}
use Rattle.std.proofs.lemmas.List.{length_push}
use Rattle.tact_base.specs.Setup.{Setup}
use Rattle.run_model.specs.Histories.{part_of, sent_in}
use Rattle.run_model.specs.Loans.{home, free}
use Rattle.run_model.specs.ScriptRuns.{Played, enters, sends, takes_one, passes, zeros, after_line}
use Rattle.run_model.specs.declared.entry.Act.{Act}
use Rattle.run_model.specs.declared.call.Request.TheVariants as request
use Rattle.run_model.specs.declared.entry.Entry.{Entry}
use Rattle.run_model.specs.declared.entry.Message.{Message}
use Rattle.run_model.specs.declared.script_line.Line.{Line}
use Rattle.run_model.specs.declared.script_line.Line.TheVariants as line
use Rattle.run_model.proofs.PartLemmas.{part_of-push_other, part_of-push_cases}
use Rattle.script_text.specs.LineRanges.{IsLineInRange}
use Rattle.script_text.proofs.Played.{entry_of, calling, sending, taking, lending, returning, restarting}

-- how many entries of a replica there are
abbrev pub count_of : Played → ℕ → ℕ
count_of played replica = length (part_of played.history replica)

-- one more entry
pub entry_counts : (history : List Entry) (entry : Entry) (replica : ℕ)
    → length (part_of (history ++ entry ∷ []) replica) ≤ length (part_of history replica) + 1
entry_counts history entry =
    part_of-push_cases history entry (λ replica part. length part ≤ length (part_of history replica) + 1)
    (omega (arith, length_push (part_of history entry.replica) entry)) (λ replica. omega arith)

pub entry_stays : (history : List Entry) (entry : Entry) (replica : ℕ)
    → replica ≢ entry.replica
    → length (part_of (history ++ entry ∷ []) replica) ≡ length (part_of history replica)
entry_stays history entry replica other = ap length (part_of-push_other history entry replica (λ same. other (sym same)))

-- so many more of each replica, and in all
pub record Grows (most : ℕ) (old new : Played) : Type 0 where
  pub each : (replica : ℕ) → count_of new replica ≤ count_of old replica + most
  pub all : length new.history ≤ length old.history + most + most

pub grows_not : (most : ℕ) (played : Played) → Grows most played played
grows_not most played = record { each = λ replica. omega arith; all = omega arith }

pub grows_by_entry : (most : ℕ) (played : Played) (replica : ℕ) (does : List Entry → ℕ → Act)
    → 1 ≤ most
    → Grows most played (enters played replica does)
grows_by_entry most played replica does some = record {
  each = λ other. omega (arith, entry_counts played.history (entry_of played replica does) other);
  all = omega (arith, length_push played.history (entry_of played replica does));
}

taking_grows : (most : ℕ) (played : Played) (replica : ℕ) (found : Option Message)
    → 1 ≤ most
    → Grows most played (takes_one played replica found)
taking_grows most played replica None some = grows_not most played
taking_grows most played replica (Some message) some = grows_by_entry most played replica (taking message) some

taking_stays : (played : Played) (replica other : ℕ) (found : Option Message)
    → other ≢ replica
    → count_of (takes_one played replica found) other ≡ count_of played other
taking_stays played replica other None differ = refl
taking_stays played replica other (Some message) differ = entry_stays played.history (entry_of played replica (taking message)) other differ

-- one sends to another, which takes the message
pub passing_grows : (setup : Setup) (played : Played) (from to : ℕ)
    → to ≢ from
    → Grows 1 played (passes setup played from to)
passing_grows setup played from to others =
    let sent = sends setup played from to (zeros setup) in
    let number = length (sent_in (part_of played.history from)) in
    let found = slice_get (sent_in (part_of sent.history from)) number in
    let sending_is = grows_by_entry 1 played from (sending setup from to (zeros setup)) (omega arith) in
    let taking_is = taking_grows 1 sent to found (omega arith) in
    record {
      each = λ replica. ⊎_elim
          (λ (same : replica ≡ from).
          omega (arith, sending_is.each replica, taking_stays sent to replica found (λ taker. others (sym taker ∙ same))))
          (λ (differ : replica ≡ from → ⊥).
          omega (arith, entry_stays played.history (entry_of played from (sending setup from to (zeros setup))) replica differ, taking_is.each replica))
          (cases_eq replica from);
      all = omega (arith, length_push played.history (entry_of played from (sending setup from to (zeros setup))), taking_all sent to found);
    }
  where
    taking_all : (played : Played) (replica : ℕ) (found : Option Message)
        → length (takes_one played replica found).history ≤ length played.history + 1
    taking_all played replica None = omega arith
    taking_all played replica (Some message) = omega (arith, length_push played.history (entry_of played replica (taking message)))

two_grow : (old mid new : Played) → Grows 1 old mid → Grows 1 mid new → Grows 2 old new
two_grow old mid new first second = record {
  each = λ replica. omega (arith, first.each replica, second.each replica);
  all = omega (arith, first.all, second.all);
}

-- a loan or a return, which may be over its limit
moving_grows : (played : Played) (replica : ℕ) (does : List Entry → ℕ → Act) (within : Bool)
    → Grows 2 played (cond within (enters played replica does) played)
moving_grows played replica does true = grows_by_entry 2 played replica does (omega arith)
moving_grows played replica does false = grows_not 2 played

pub line_grows : (setup : Setup) (played : Played) (l : Line)
    → IsLineInRange setup l
    → Grows 2 played (after_line setup played l)
line_grows setup played (line.Start n m a k) names = absurd names
line_grows setup played (line.Bound o c a k) names = grows_not 2 played
line_grows setup played (line.At moment) names = record { each = λ replica. omega arith; all = omega arith }
line_grows setup played (line.Write replica client op weights) names = grows_by_entry 2 played replica (calling setup replica client (request.Write weights op)) (omega arith)
line_grows setup played (line.Held replica client op weight) names = grows_by_entry 2 played replica (calling setup replica client (request.Held weight op)) (omega arith)
line_grows setup played (line.Reserve replica client conit amount) names = grows_by_entry 2 played replica (calling setup replica client (request.Reserve conit amount)) (omega arith)
line_grows setup played (line.Release replica client conit amount) names = grows_by_entry 2 played replica (calling setup replica client (request.Release conit amount)) (omega arith)
line_grows setup played (line.Read replica client key needs) names = grows_by_entry 2 played replica (calling setup replica client (request.Read key needs)) (omega arith)
line_grows setup played (line.Send from to firsts) names = grows_by_entry 2 played from (sending setup from to firsts) (omega arith)
line_grows setup played (line.Take replica from number) names = taking_grows 2 played replica (slice_get (sent_in (part_of played.history from)) number) (omega arith)
line_grows setup played (line.Sync first second) names =
    two_grow played (passes setup played first second) (passes setup (passes setup played first second) second first)
    (passing_grows setup played first second names.others) (passing_grows setup (passes setup played first second) second first (λ same. names.others (sym same)))
line_grows setup played (line.Lend owner holder conit amount) names =
    moving_grows played owner (lending holder conit amount) (nat_le amount (home setup owner (part_of played.history owner) conit))
line_grows setup played (line.Back holder owner conit amount) names =
    moving_grows played holder (returning owner conit amount) (nat_le amount (free setup holder (part_of played.history holder) owner conit))
line_grows setup played (line.Restart replica) names = grows_by_entry 2 played replica restarting (omega arith)
line_grows setup played (line.Show replica) names = grows_not 2 played
line_grows setup played (line.Ref conit) names = grows_not 2 played
