use Rattle.std.proofs.Common.{◌≡◌, map, take}
use Rattle.tact_io.specs.Memory.{call_of}
use Rattle.tact_io.proofs.memory_journal.calls_of.Given as goal

abbrev pub invariant-loop-fail : goal.invariant-loop-fail
invariant-loop-fail l = l.calls ≡ map call_of (take l.fail-index l.fails)
