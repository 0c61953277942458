-- What the workers' clients have noted as the workers leave one by one, and where a run stopped.
use Rattle.std.proofs.Common.{◌≡◌, ◌≢◌, ◌⊎◌, ℕ, Bool, true, false, List, [], ◌∷◌, ◌++◌, IfOk, IfSome, Option, Some, None, Result, Ok, Err, length, refl, sym, ap, ◌∙◌, subst, ⊎_elim}
use Rattle.std.specs.Prelude.{if◌then◌else◌}
use Rattle.std.specs.List.{AllZip}
use Rattle.std.proofs.lemmas.Bool.{false≢true}
use Rattle.run_model.specs.Histories.{calls_of, part_of}
use Rattle.tact_base.specs.Setup.{Setup}
use Rattle.run_history.specs.Seats.{DeskView, NoteView}
use Rattle.locked_replica.specs.declared.fault.RestartFault.{RestartFault}
use Rattle.locked_replica.specs.declared.fault.RestartFault.TheVariants as fault
use Rattle.replica_lock.specs.Sessions.{NodeView, SessionView, own_calls}
use Rattle.steady_node.specs.Endings.{IsCause}
use Rattle.steady_node.specs.declared.ending.Ending.{Ending}
use Rattle.work_load.specs.Attempts.{Attempts, Begun}
use Rattle.work_load.proofs.AttemptLemmas.{Begun-from_Attempts}
use Rattle.run_work.proofs.Zips.{AllZip-join, AllZip-less}
use Rattle.work_load.specs.declared.plan.Client.{Client}
use Rattle.run_work.specs.Ends.{HasNoted, HaveEnded, HaveServed, LosesNone, IsStop, first_of, is_before, note_of, stop_of, stop_with}
use Rattle.run_work.specs.Serving.{IsClientServed}
use Rattle.run_work.specs.Sites.{AreSites, SitesView}
use Rattle.run_work.specs.Stops.{IsFailed, IsStopBy, is_failure}
use Rattle.run_work.specs.Working.{HasLeftOff, HasWorked, IsEnding, WorkerView}
use Rattle.run_work.specs.declared.leaving.Stop.{Stop}

-- the client's calls that are noted: all items done, and begun
abbrev IsDone : ℕ → Client → NoteView → Type 0
IsDone tries client note = HasNoted (Attempts tries client.items) client note

abbrev IsBegun : ℕ → Client → NoteView → Type 0
IsBegun tries client note = HasNoted (Begun tries client.items) client note

-- who has done all has begun
have_begun : (tries : ℕ) (clients : List Client) (notes : List NoteView) (stop : Option Stop)
    → HaveEnded tries clients notes stop
    → LosesNone stop
    → AllZip (IsBegun tries) clients notes
have_begun tries clients notes None ended kept =
    AllZip-less (IsDone tries) (IsBegun tries) clients notes (λ client note done. Begun-from_Attempts tries client.items (calls_of note.seen client.replica client.client) done) ended
have_begun tries clients notes (Some stop) ended kept = ended kept

-- the calls of a worker's client that its note has
noted_own : (worker : WorkerView)
    → worker.session.replica ≡ worker.client.replica
    → worker.session.client ≡ worker.client.client
    → own_calls worker.session ≡ calls_of worker.session.seen worker.client.replica worker.client.client
noted_own worker at number =
    ap (λ (replica : ℕ). calls_of worker.session.seen replica worker.session.client) at
    ∙ ap (λ (n : ℕ). calls_of worker.session.seen worker.client.replica n) number

-- where of two stops the first loses no call, neither does
chosen : (P : Stop → Type 0) (first : Bool) (one other : Stop) → P one → P other → P (if first then one else other)
chosen P true one other p q = p
chosen P false one other p q = q

IsKeptIn : Stop → Type 0
IsKeptIn stop = stop.ending.lost ≡ false

first_kept : (before : Option Stop) (other : Stop) → (first_of before other).ending.lost ≡ false → LosesNone before × (other.ending.lost ≡ false)
first_kept None other kept = (tt, kept)
first_kept (Some one) other kept = go one.ending.lost refl other.ending.lost refl
  where
    lost : Type 0
    lost = (one.ending.lost ≡ false) × (other.ending.lost ≡ false)

    go : (mine : Bool) → one.ending.lost ≡ mine → (its : Bool) → other.ending.lost ≡ its → lost
    go false is false its_is = (is, its_is)
    go true is true its_is =
        absurd (false≢true (sym kept ∙ chosen (λ (stop : Stop). stop.ending.lost ≡ true) (is_before one other) one other is its_is))
    go true is false its_is =
        let first : is_before one other ≡ true = rw (is, its_is) refl in
        absurd (false≢true (sym kept ∙ ap (λ (b : Bool). (if b then one else other).ending.lost) first ∙ is))
    go false is true its_is =
        let second : is_before one other ≡ false = rw (is, its_is) refl in
        absurd (false≢true (sym kept ∙ ap (λ (b : Bool). (if b then one else other).ending.lost) second ∙ its_is))

-- where no call is lost when one more worker has left, none was before, and its session isn't in doubt
pub kept_before : (tells : Bool) (tries : ℕ) (worker : WorkerView) (before after : Option Stop)
    → HasLeftOff tells tries worker.client worker.session worker.end
    → after ≡ stop_with worker worker.end before
    → LosesNone after
    → LosesNone before × (worker.session.doubt ≡ false)
kept_before tells tries worker before after has is kept = go worker.end has (subst LosesNone is kept)
  where
    go : (end : Option Ending)
        → HasLeftOff tells tries worker.client worker.session end
        → LosesNone (stop_with worker end before)
        → LosesNone before × (worker.session.doubt ≡ false)
    go None has kept = (kept, has.0)
    go (Some ending) has kept =
        let both = first_kept before (stop_of worker ending) kept in
        (both.0, has.0.certain both.1)

-- one more worker has left
pub HaveEnded-more : (tells : Bool) (tries : ℕ) (clients : List Client) (notes : List NoteView) (worker : WorkerView) (before after : Option Stop)
    → worker.session.replica ≡ worker.client.replica
    → worker.session.client ≡ worker.client.client
    → HasLeftOff tells tries worker.client worker.session worker.end
    → after ≡ stop_with worker worker.end before
    → HaveEnded tries clients notes before
    → HaveEnded tries (clients ++ worker.client ∷ []) (notes ++ note_of worker ∷ []) after
HaveEnded-more tells tries clients notes worker before after at number has is ended =
    subst (HaveEnded tries (clients ++ worker.client ∷ []) (notes ++ note_of worker ∷ [])) (sym is) (go worker.end before has ended)
  where
    begun : Attempts tries worker.client.items (own_calls worker.session) → IsBegun tries worker.client (note_of worker)
    begun done =
        Begun-from_Attempts tries worker.client.items (calls_of worker.session.seen worker.client.replica worker.client.client)
        (subst (Attempts tries worker.client.items) (noted_own worker at number) done)

    go : (end : Option Ending) (before : Option Stop)
        → HasLeftOff tells tries worker.client worker.session end
        → HaveEnded tries clients notes before
        → HaveEnded tries (clients ++ worker.client ∷ []) (notes ++ note_of worker ∷ []) (stop_with worker end before)
    go None None has ended =
        AllZip-join (IsDone tries) clients notes worker.client (note_of worker) ended
        (subst (Attempts tries worker.client.items) (noted_own worker at number) has.1)
    go None (Some stop) has ended = λ kept. AllZip-join (IsBegun tries) clients notes worker.client (note_of worker) (ended kept) (begun has.1)
    go (Some ending) before has ended = λ kept.
        let both = first_kept before (stop_of worker ending) kept in
        AllZip-join (IsBegun tries) clients notes worker.client (note_of worker) (have_begun tries clients notes before ended both.0)
        (subst (Begun tries worker.client.items) (noted_own worker at number) (has.1 both.1))

-- and each client of a worker that did not stop was served
pub HaveServed-more : (setup : Setup) (clients : List Client) (notes : List NoteView) (worker : WorkerView) (before after : Option Stop)
    → worker.node.desk.setup ≡ setup
    → (worker.end ≡ None → IsClientServed worker.node.desk.setup worker.client worker.session.seen)
    → after ≡ stop_with worker worker.end before
    → HaveServed setup clients notes before
    → HaveServed setup (clients ++ worker.client ∷ []) (notes ++ note_of worker ∷ []) after
HaveServed-more setup clients notes worker before after is has stopped served none = go worker.end refl (sym stopped ∙ none)
  where
    go : (end : Option Ending)
        → worker.end ≡ end
        → stop_with worker end before ≡ None
        → AllZip (λ (client : Client) (note : NoteView). IsClientServed setup client note.seen) (clients ++ worker.client ∷ []) (notes ++ note_of worker ∷ [])
    go None done same =
        AllZip-join (λ (client : Client) (note : NoteView). IsClientServed setup client note.seen) clients notes worker.client (note_of worker) (served same)
        (subst (λ (s : Setup). IsClientServed s worker.client worker.session.seen) is (has done))
    go (Some ending) done same = absurd cc

-- what a stop says stays where less is without faults
pub IsStop-less : (tells : Bool) (desk : DeskView) (Before After : Type 0) (stop : Stop) → (After → Before) → IsStop tells desk Before stop → IsStop tells desk After stop
IsStop-less tells desk Before After stop less is = record { table = is.table; cause = is.cause; failed = λ failed after. is.failed failed (less after) }

pub stop-less : (tells : Bool) (desk : DeskView) (Before After : Type 0) (stop : Option Stop)
    → (After → Before)
    → IfSome stop (IsStop tells desk Before)
    → IfSome stop (IsStop tells desk After)
stop-less tells desk Before After None less is = tt
stop-less tells desk Before After (Some stop) less is = IsStop-less tells desk Before After stop less is

-- where a worker ended before its last item, it stopped
pub cause_of : (tells : Bool) (session : SessionView) (told : RestartFault) (replica : ℕ)
    → session.replica ≡ replica
    → IsCause tells session told
    → IsStopBy tells told (part_of session.seen replica)
cause_of tells session (fault.Full count stamp) replica at cause = subst (λ (r : ℕ). IsStopBy tells (fault.Full count stamp) (part_of session.seen r)) at cause
cause_of tells session fault.NoMemory replica at cause = tt
cause_of tells session fault.JournalFault replica at cause = tt
cause_of tells session fault.JournalReadFault replica at cause = tt
cause_of tells session (fault.Foreign place) replica at cause = cause

pub marked_of : (tells : Bool) (session : SessionView) (told : RestartFault) → is_failure told ≡ true → IsCause tells session told → session.faults ≢ 0
marked_of tells session fault.JournalFault is cause = cause
marked_of tells session fault.JournalReadFault is cause = cause
marked_of tells session (fault.Full count stamp) is cause = absurd (false≢true is)
marked_of tells session fault.NoMemory is cause = absurd (false≢true is)
marked_of tells session (fault.Foreign place) is cause = absurd (false≢true is)

own_stop : (tells : Bool) (desk : DeskView) (Faultless : Type 0) (worker : WorkerView) (ending : Ending)
    → worker.node.desk ≡ desk
    → worker.session.replica ≡ worker.client.replica
    → (Faultless → worker.session.faults ≡ 0)
    → IsEnding tells worker.session ending
    → IsStop tells desk Faultless (stop_of worker ending)
own_stop tells desk Faultless worker ending desk_is at faultless is = record {
  table = ap (λ (d : DeskView). d.table) desk_is;
  cause = cause_of tells worker.session ending.fault worker.client.replica at is.cause;
  failed = λ failed none.
      ⊎_elim
      (λ (told : is_failure ending.fault ≡ true). marked_of tells worker.session ending.fault told is.cause (faultless none))
      (λ (lost : ending.lost ≡ true). is.marked lost (faultless none))
      failed;
}

pub IsStop-more : (tells : Bool) (tries : ℕ) (desk : DeskView) (Before After : Type 0) (worker : WorkerView) (before after : Option Stop)
    → worker.node.desk ≡ desk
    → worker.session.replica ≡ worker.client.replica
    → (After → Before)
    → (After → worker.session.faults ≡ 0)
    → HasLeftOff tells tries worker.client worker.session worker.end
    → after ≡ stop_with worker worker.end before
    → IfSome before (IsStop tells desk Before)
    → IfSome after (IsStop tells desk After)
IsStop-more tells tries desk Before After worker before after desk_is at less faultless has stopped is =
    subst (λ (stop : Option Stop). IfSome stop (IsStop tells desk After)) (sym stopped) (go worker.end before has is)
  where
    go : (end : Option Ending) (before : Option Stop)
        → HasLeftOff tells tries worker.client worker.session end
        → IfSome before (IsStop tells desk Before)
        → IfSome (stop_with worker end before) (IsStop tells desk After)
    go None before has is = stop-less tells desk Before After before less is
    go (Some ending) None has is = own_stop tells desk After worker ending desk_is at faultless has.0
    go (Some ending) (Some one) has is =
        chosen (IsStop tells desk After) (is_before one (stop_of worker ending)) one (stop_of worker ending)
        (IsStop-less tells desk Before After one less is) (own_stop tells desk After worker ending desk_is at faultless has.0)

-- a worker's node is of the desk of the sites, and of its client's replica
pub desk_of : (tells : Bool) (sites : SitesView) (tries : ℕ) (worker : WorkerView) → AreSites sites → HasWorked tells sites tries worker → worker.node.desk ≡ sites.desk
desk_of tells sites tries worker are has = ap (λ (node : NodeView). node.desk) (has.node worker.node) ∙ (are.node worker.client.replica worker.node has.replica).0

pub replica_of : (tells : Bool) (sites : SitesView) (tries : ℕ) (worker : WorkerView)
    → AreSites sites
    → HasWorked tells sites tries worker
    → worker.session.replica ≡ worker.client.replica
replica_of tells sites tries worker are has =
    has.at.replica ∙ ap (λ (node : NodeView). node.replica) (has.node worker.node) ∙ (are.node worker.client.replica worker.node has.replica).1

-- where no worker stopped, all clients have ended however the settling did
pub HaveEnded-after : {E : Type 0} (tries : ℕ) (clients : List Client) (notes : List NoteView) (answer : Result (Option Stop) E)
    → HaveEnded tries clients notes None
    → IfOk answer (HaveEnded tries clients notes)
HaveEnded-after tries clients notes (Ok None) ended = ended
HaveEnded-after tries clients notes (Ok (Some stop)) ended = λ kept. have_begun tries clients notes None ended tt
HaveEnded-after tries clients notes (Err fault) ended = tt
