-- The comments on an act are those on the needs that it met.
use Rattle.std.proofs.Common.{◌≡◌, ℕ, List, refl}
use Rattle.std.specs.List.{flat_map}
use Rattle.tact_base.specs.Setup.{Setup}
use Rattle.run_model.specs.ScriptRuns.{need_text, act_comments}
use Rattle.run_model.specs.declared.call.Reply.{Reply}
use Rattle.run_model.specs.declared.call.Reply.TheVariants as reply
use Rattle.run_model.specs.declared.call.Request.{Request}
use Rattle.run_model.specs.declared.call.Request.TheVariants as request
use Rattle.run_model.specs.declared.entry.Act.{Act}
use Rattle.run_model.specs.declared.entry.Act.TheVariants as act
use Rattle.run_model.specs.declared.entry.Entry.{Entry}
use Rattle.script_run.specs.Stages.{needs_met, needs_in}

module _ (setup : Setup) (history : List Entry) (replica moment : ℕ) where
  call_comments : (client number : ℕ) (asked : Request) (given : Reply)
      → flat_map (need_text setup history replica moment) (needs_met asked given) ≡ act_comments setup history replica moment (act.Call client number asked given)
  call_comments client number (request.Write weights op) given = refl
  call_comments client number (request.Held weight op) given = refl
  call_comments client number (request.Reserve conit amount) given = refl
  call_comments client number (request.Release conit amount) given = refl
  call_comments client number (request.Read key needs) (reply.Done index stamp) = refl
  call_comments client number (request.Read key needs) reply.Granted = refl
  call_comments client number (request.Read key needs) reply.Released = refl
  call_comments client number (request.Read key needs) (reply.Value value sums) = refl
  call_comments client number (request.Read key needs) (reply.TooHeavy conit peer weight share) = refl
  call_comments client number (request.Read key needs) (reply.WaitHeld conit peer reserved weight share) = refl
  call_comments client number (request.Read key needs) (reply.WaitShare conit peer missing reserved weight share) = refl
  call_comments client number (request.Read key needs) (reply.WaitLent conit holder out total num) = refl
  call_comments client number (request.Read key needs) (reply.WaitOrder conit named tentative order) = refl
  call_comments client number (request.Read key needs) (reply.WaitStale conit named at wanted) = refl
  call_comments client number (request.Read key needs) (reply.NotHeld conit held amount) = refl

  pub comments_are : (done : Act)
      → flat_map (need_text setup history replica moment) (needs_in done) ≡ act_comments setup history replica moment done
  comments_are (act.Call client number asked given) = call_comments client number asked given
  comments_are (act.Send message) = refl
  comments_are (act.Take message) = refl
  comments_are (act.Lend to conit amount) = refl
  comments_are (act.Back owner conit amount) = refl
  comments_are act.Restart = refl
