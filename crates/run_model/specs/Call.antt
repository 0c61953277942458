-- Requests and replies.
use Rattle.std.specs.Prelude.{Bool, true, false}
use Rattle.run_model.specs.declared.call.Reply.{Reply}
use Rattle.run_model.specs.declared.call.Reply.TheVariants.{WaitHeld, WaitShare, WaitLent, WaitOrder, WaitStale}

-- the same request may be answered otherwise later; all other replies are final
abbrev pub is_waiting : Reply → Bool
is_waiting (WaitHeld conit peer reserved weight share) = true
is_waiting (WaitShare conit peer missing reserved weight share) = true
is_waiting (WaitLent conit holder out total num) = true
is_waiting (WaitOrder conit replica tentative order) = true
is_waiting (WaitStale conit replica moment wanted) = true
is_waiting _ = false
