-- What is told of an answer of a run that comes with no text: why it comes, and that it may.
use Rattle.std.proofs.Common.{ℕ, ◌≤◌, List, [], Option, length, refl, inr}
use Rattle.run_model.specs.declared.status.Status.{Status}
use Rattle.run_model.specs.declared.status.Status.TheVariants as status
use Rattle.run_work.specs.Shelves.{ShelfEnd}
use Rattle.script_run.specs.Playing.{input_max}
use Rattle.tact_io.specs.Source.{IsAllOf, IsAtEnd}
use Rattle.tact_top.specs.Answers.{Completes, HasCause}
use Rattle.tact_top.specs.Running.{AsksOfRun, IsLoadFault, IsUnwritten}
use Rattle.tact_top.proofs.Played.{completes}

module _ (shelf : ShelfEnd) (tries : ℕ) (input : List ℕ) (left rest : Option (List ℕ)) (reads reads' writes writes' : ℕ) where
  pub unwritten_cause : (answer : Status)
      → IsUnwritten shelf input answer
      → IsAllOf left input
      → length input ≤ input_max
      → IsAtEnd rest
      → HasCause (AsksOfRun shelf tries) IsLoadFault answer left rest reads reads' writes writes'
  unwritten_cause status.NoMemory u all few end = tt
  unwritten_cause (status.BadInput place kind) u all few end = (end, (input, all, few, u))
  unwritten_cause (status.JournalFault replica) u all few end = (end, (input, all, few, ([], inr (u, refl))))
  unwritten_cause (status.JournalForeign replica place) u all few end = (end, (input, all, few, ([], inr (u, refl))))
  unwritten_cause status.Done u all few end = absurd u.2
  unwritten_cause (status.Bad entry cause) u all few end = absurd u.2
  unwritten_cause (status.Full replica count clock) u all few end = absurd u.2
  unwritten_cause (status.Usage kind) u all few end = absurd u.2
  unwritten_cause status.TooLong u all few end = absurd u.2
  unwritten_cause status.ReadFault u all few end = absurd u.2
  unwritten_cause status.WriteFault u all few end = absurd u.2

  -- so without a fault what is asked for comes
  pub unwritten_completes : (answer : Status)
      → IsUnwritten shelf input answer
      → IsAllOf left input
      → length input ≤ input_max
      → IsAtEnd rest
      → Completes (AsksOfRun shelf tries) IsLoadFault answer left reads reads' writes writes'
  unwritten_completes answer u all few end =
      completes (AsksOfRun shelf tries) IsLoadFault rest reads reads' writes writes' answer left (unwritten_cause answer u all few end)
