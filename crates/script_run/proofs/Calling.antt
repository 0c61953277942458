-- What a line of a client comes to.
use Rattle.std.proofs.Common.{◌≡◌, List, [], Option, Some, refl, ap, subst}
use Rattle.std.proofs.lemmas.Option.{none-some}
use Rattle.std.specs.Option.{option_map_or}
use Rattle.tact_base.specs.Setup.{Setup}
use Rattle.run_model.specs.ScriptRuns.{Played, calls, after_line, line_comment}
use Rattle.run_model.specs.declared.entry.Entry.{Entry}
use Rattle.run_model.specs.declared.script_line.Line.{Line}
use Rattle.run_model.specs.declared.script_line.Line.TheVariants as line
use Rattle.script_text.specs.LineRanges.{IsCallInRange}
use Rattle.script_run.specs.Stages.{Asked, asked_by, IsReadyFor}

-- a line of a client that can be done: its call is in range, and is all that the line makes and tells
pub record IsCallOf (setup : Setup) (l : Line) (asked : Asked) : Type 0 where
  pub in_range : IsCallInRange setup asked.replica asked.client asked.request
  pub makes : (before : Played) → after_line setup before l ≡ calls setup before asked.replica asked.client asked.request
  pub tells : (history : List Entry) → line_comment setup history l ≡ []

-- a line asks one thing
its_own : {asked other : Asked} → Some asked ≡ Some other → asked ≡ other
its_own {asked} is = ap (λ (it : Option Asked). option_map_or (λ a. a) it asked) is

pub is_call_of : (setup : Setup) (history : List Entry) (l : Line) (asked : Asked)
    → asked_by l ≡ Some asked
    → IsReadyFor setup history l
    → IsCallOf setup l asked
is_call_of setup history (line.Write replica client op weights) asked is ready =
    subst (IsCallOf setup (line.Write replica client op weights)) (its_own is)
    (record { in_range = ready.0; makes = λ before. refl; tells = λ h. refl })
is_call_of setup history (line.Held replica client op weight) asked is ready =
    subst (IsCallOf setup (line.Held replica client op weight)) (its_own is)
    (record { in_range = ready.0; makes = λ before. refl; tells = λ h. refl })
is_call_of setup history (line.Reserve replica client conit amount) asked is ready =
    subst (IsCallOf setup (line.Reserve replica client conit amount)) (its_own is)
    (record { in_range = ready.0; makes = λ before. refl; tells = λ h. refl })
is_call_of setup history (line.Release replica client conit amount) asked is ready =
    subst (IsCallOf setup (line.Release replica client conit amount)) (its_own is)
    (record { in_range = ready.0; makes = λ before. refl; tells = λ h. refl })
is_call_of setup history (line.Read replica client key needs) asked is ready =
    subst (IsCallOf setup (line.Read replica client key needs)) (its_own is)
    (record { in_range = ready.0; makes = λ before. refl; tells = λ h. refl })
is_call_of setup history (line.Start replicas conits alpha loan) asked is ready = absurd (none-some asked is)
is_call_of setup history (line.Bound owner conit alpha loan) asked is ready = absurd (none-some asked is)
is_call_of setup history (line.At moment) asked is ready = absurd (none-some asked is)
is_call_of setup history (line.Send from to firsts) asked is ready = absurd (none-some asked is)
is_call_of setup history (line.Take replica from number) asked is ready = absurd (none-some asked is)
is_call_of setup history (line.Sync first second) asked is ready = absurd (none-some asked is)
is_call_of setup history (line.Lend owner holder conit amount) asked is ready = absurd (none-some asked is)
is_call_of setup history (line.Back holder owner conit amount) asked is ready = absurd (none-some asked is)
is_call_of setup history (line.Restart replica) asked is ready = absurd (none-some asked is)
is_call_of setup history (line.Show replica) asked is ready = absurd (none-some asked is)
is_call_of setup history (line.Ref conit) asked is ready = absurd (none-some asked is)
