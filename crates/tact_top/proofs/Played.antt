-- What is told of `play`, by the words that all commands have in common; and that without a fault what is asked for
-- comes.
use Rattle.std.proofs.Common.{◌≡◌, ℕ, ◌≤◌, ◌⊎◌, List, Option, Some, None, length, refl, subst, inl, inr, arith}
use Rattle.run_model.specs.declared.status.InputKind.{InputKind}
use Rattle.run_model.specs.declared.status.InputKind.TheVariants as input
use Rattle.run_model.specs.declared.status.Status.{Status}
use Rattle.run_model.specs.declared.status.Status.TheVariants as status
use Rattle.script_run.specs.Playing as play
use Rattle.tact_io.specs.Faults.{HasRisen}
use Rattle.tact_top.specs.Answers.{Asking, Faulting, Completes, HasCause, IsRead, Writes}
use Rattle.tact_top.specs.ScriptForm.{IsPlayed, IsScriptFault}

module _ (rest before after : Option (List ℕ)) (reads reads' writes writes' : ℕ) where
  pub played_cause : (answer : Status) (left : Option (List ℕ))
      → play.HasCause answer left rest reads reads' writes writes'
      → play.Writes answer left before after
      → HasCause IsPlayed IsScriptFault answer left rest reads reads' writes writes'
  played_cause status.Done left c w = (c.0, (w.2.0, w.2.1, w.2.2, (w.0, (refl, w.2.3))))
  played_cause (status.Bad entry cause) left c w = absurd c
  played_cause (status.Usage kind) left c w = absurd c
  played_cause (status.BadInput place (input.Line kind)) left c w = c
  played_cause (status.BadInput place (input.Bytes kind)) left c w = absurd c
  played_cause (status.BadInput place (input.Load kind)) left c w = absurd c
  played_cause (status.Full replica count clock) left c w = absurd c
  played_cause (status.JournalFault replica) left c w = absurd c
  played_cause (status.JournalForeign replica place) left c w = absurd c
  played_cause status.TooLong left c w = c
  played_cause status.ReadFault left c w = c
  played_cause status.WriteFault left c w = c
  played_cause status.NoMemory left c w = tt

  pub played_writes : (answer : Status) (left : Option (List ℕ))
      → play.HasCause answer left rest reads reads' writes writes'
      → play.Writes answer left before after
      → Writes IsPlayed answer left before after
  played_writes status.Done left c w = (w.0, w.1, (w.2.0, w.2.1, w.2.2, (refl, w.2.3)))
  played_writes (status.Bad entry cause) left c w = absurd c
  played_writes (status.Full replica count clock) left c w = absurd c
  played_writes (status.JournalFault replica) left c w = absurd c
  played_writes (status.JournalForeign replica place) left c w = absurd c
  played_writes (status.Usage kind) left c w = w
  played_writes (status.BadInput place kind) left c w = w
  played_writes status.TooLong left c w = w
  played_writes status.ReadFault left c w = w
  played_writes status.WriteFault left c w = (w.0, w.1, (w.2.0, w.2.1, w.2.2, (status.Done, (refl, w.2.3))))
  played_writes status.NoMemory left c (inl same) = inl same
  played_writes status.NoMemory left c (inr w) = inr (w.0, w.1, (w.2.0, w.2.1, w.2.2, (status.Done, (refl, w.2.3))))

module _ (Asks : Asking) (Faults : Faulting) (rest : Option (List ℕ)) (reads reads' writes writes' : ℕ) where
  -- what is asked for by the input that was read, which is the script
  of_script : (answer : Status) (script : List ℕ)
      → IsRead (Some script) rest (λ input. (text : List ℕ) × Asks input answer text)
      → (text : List ℕ) × Asks script answer text
  of_script answer script read = subst (λ (input : List ℕ). (text : List ℕ) × Asks input answer text) read.1.1 read.1.3

  asked : (answer : Status) (script : List ℕ)
      → HasCause Asks Faults answer (Some script) rest reads reads' writes writes'
      → ¬ HasRisen reads reads'
      → ¬ HasRisen writes writes'
      → length script ≤ play.input_max
      → ((place : ℕ) (kind : InputKind) → ¬ Faults script place kind)
      → (answer ≡ status.NoMemory) ⊎ ((text : List ℕ) × Asks script answer text)
  asked status.Done script c no_read no_write few good = inr (of_script status.Done script c)
  asked (status.Bad entry cause) script c no_read no_write few good = inr (of_script (status.Bad entry cause) script c)
  asked (status.Full replica count clock) script c no_read no_write few good = inr (of_script (status.Full replica count clock) script c)
  asked (status.JournalFault replica) script c no_read no_write few good = inr (of_script (status.JournalFault replica) script c)
  asked (status.JournalForeign replica place) script c no_read no_write few good = inr (of_script (status.JournalForeign replica place) script c)
  asked (status.Usage kind) script c no_read no_write few good = absurd c
  asked (status.BadInput place kind) script c no_read no_write few good = absurd (good place kind (subst (λ (input : List ℕ). Faults input place kind) c.1.1 c.1.3))
  asked status.TooLong script c no_read no_write few good = absurd (omega (arith, c, few))
  asked status.ReadFault script c no_read no_write few good = absurd (no_read c)
  asked status.WriteFault script c no_read no_write few good = absurd (no_write c)
  asked status.NoMemory script c no_read no_write few good = inl refl

  pub completes : (answer : Status) (left : Option (List ℕ))
      → HasCause Asks Faults answer left rest reads reads' writes writes'
      → Completes Asks Faults answer left reads reads' writes writes'
  completes answer None c no_read no_write = tt
  completes answer (Some script) c no_read no_write = asked answer script c no_read no_write
