-- Where a session ends, and what its stop says.
use Rattle.std.proofs.Common.{◌≡◌, Bool, true, List, Result, Ok, Err, IfErr, IfSome, sym, ap, ◌∙◌, subst, ⊎_elim}
use Rattle.std.specs.Result.{result_err}
use Rattle.std.proofs.lemmas.Bool.{false≢true}
use Rattle.run_model.specs.Histories.{part_of}
use Rattle.run_model.specs.declared.entry.Entry.{Entry}
use Rattle.run_history.specs.Seats.{DeskView}
use Rattle.locked_replica.specs.declared.fault.NodeFault.{NodeFault}
use Rattle.locked_replica.specs.declared.fault.NodeFault.TheVariants as fault
use Rattle.replica_lock.specs.Sessions.{HasHeard, SessionView, marked_by}
use Rattle.tact_base.specs.Setup.{Setup}
use Rattle.run_work.specs.Ends.{IsKeptStop}
use Rattle.run_work.specs.Stops.{IsStopBy, is_failure}
use Rattle.run_work.specs.Working.{IsKeptEnd}
use Rattle.run_work.specs.declared.leaving.Stop.{Stop}
use Rattle.run_work.proofs.Stopping.{IsStop-less, cause_of, marked_of}

-- the stop of a session that ended, where no call is lost
pub IsKeptStop-ended : (tells : Bool) (desk : DeskView) (session : SessionView) (stop : Stop)
    → IsKeptEnd tells session stop.ending
    → stop.note.table ≡ desk.table
    → stop.note.seen ≡ session.seen
    → stop.replica ≡ session.replica
    → IsKeptStop tells desk (session.faults ≡ 0) stop
IsKeptStop-ended tells desk session stop kept table seen replica = (
  record {
    table = table;
    cause = subst (λ (seen : List Entry). IsStopBy tells stop.ending.fault (part_of seen stop.replica)) (sym seen)
        (cause_of tells session stop.ending.fault stop.replica (sym replica) kept.0);
    failed =
        ⊎_elim
        (λ (told : is_failure stop.ending.fault ≡ true). marked_of tells session stop.ending.fault told kept.0)
        (λ (lost : stop.ending.lost ≡ true). absurd (false≢true (sym kept.1 ∙ lost)));
  },
  kept.1,
)

-- it says as much where less is without faults
pub IsKeptStop-less : (tells : Bool) (desk : DeskView) (One Other : Type 0) (stop : Stop)
    → (Other → One)
    → IsKeptStop tells desk One stop
    → IsKeptStop tells desk Other stop
IsKeptStop-less tells desk One Other stop less is = (IsStop-less tells desk One Other stop less is.0, is.1)

-- an answer that stops with one, and what its error tells
pub stops-less : {X : Type 0} (tells : Bool) (desk : DeskView) (One Other : Type 0) (answer : Result X Stop)
    → (Other → One)
    → IfErr answer (IsKeptStop tells desk One)
    → IfErr answer (IsKeptStop tells desk Other)
stops-less tells desk One Other (Ok x) less is = tt
stops-less tells desk One Other (Err stop) less is = IsKeptStop-less tells desk One Other stop less is

pub stop-told : {X : Type 0} (P : Stop → Type 0) (answer : Result X Stop) → IfErr answer P → IfSome (result_err answer) P
stop-told P (Ok x) is = tt
stop-told P (Err stop) is = is

-- no entry was made for a session that was told a fault, which it marks
pub made-marked : (setup : Setup) (before after : SessionView) (told : NodeFault)
    → HasHeard setup before (marked_by told before) after
    → after.made ≡ before.made
made-marked setup before after fault.Halted heard = ap (λ (s : SessionView). s.made) heard.value
made-marked setup before after fault.JournalFault heard = ap (λ (s : SessionView). s.made) heard.value
made-marked setup before after (fault.Full count stamp) heard = ap (λ (s : SessionView). s.made) heard.value
made-marked setup before after fault.NoMemory heard = ap (λ (s : SessionView). s.made) heard.value
