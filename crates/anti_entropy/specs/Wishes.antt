-- The replica that a waiting reply waits for (this project's own rule).
use Rattle.std.specs.Prelude.{ℕ, Option, Some, None}
use Rattle.run_model.specs.declared.call.Reply.{Reply}
use Rattle.run_model.specs.declared.call.Reply.TheVariants.{WaitShare, WaitLent, WaitOrder, WaitStale}

-- the other replica that a reply names as what it waits for; what is held is held by the answering replica itself
abbrev pub wish_of : Reply → Option ℕ
wish_of (WaitShare conit peer missing reserved weight share) = Some peer
wish_of (WaitLent conit holder out total num) = Some holder
wish_of (WaitOrder conit replica tentative order) = Some replica
wish_of (WaitStale conit replica moment wanted) = Some replica
wish_of other = None
