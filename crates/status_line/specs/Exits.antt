-- The exit statuses of the program.
use Rattle.std.specs.Prelude.{ℕ}
use Rattle.run_model.specs.declared.status.Status.{Status}
use Rattle.run_model.specs.declared.status.Status.TheVariants.{Done, Bad, Usage, BadInput, TooLong, Full, JournalFault, JournalForeign, ReadFault, WriteFault, NoMemory}

-- the number that the program exits with
abbrev pub exit_number : Status → ℕ
exit_number Done = 0
exit_number (Bad entry cause) = 1
exit_number (Usage kind) = 2
exit_number (BadInput place kind) = 3
exit_number TooLong = 4
exit_number ReadFault = 5
exit_number WriteFault = 6
exit_number (JournalFault replica) = 7
exit_number (Full replica count clock) = 8
exit_number NoMemory = 9
exit_number (JournalForeign replica place) = 10
