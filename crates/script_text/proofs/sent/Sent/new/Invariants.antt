use Rattle.std.proofs.Common.{◌≡◌, [], replicate}
use Rattle.script_text.proofs.sent.Sent.new.Given as goal

abbrev pub invariant-loop : goal.invariant-loop
invariant-loop l = l.receivers.items ≡ replicate l.counter []
