-- What a session has heard, and what was made for it, in two steps of a turn.
use Rattle.std.proofs.Common.{◌≡◌, ℕ, ◌+◌, false, [], ◌∷◌, ◌++◌, ap, ◌∙◌, subst}
use Rattle.tact_base.specs.Setup.{Setup}
use Rattle.run_model.specs.Histories.{part_of}
use Rattle.run_model.specs.Runs.{IsDue}
use Rattle.run_model.specs.declared.entry.Act.{Act}
use Rattle.run_model.specs.declared.entry.Entry.{Entry}
use Rattle.run_model.proofs.PrefixLemmas.{IsPrefix-trans}
use Rattle.locked_replica.specs.Locks.{HasEntered, LockedView, made_place, one_more_at}
use Rattle.replica_lock.specs.Restarts.{HasBegun}
use Rattle.replica_lock.specs.Sessions.{HasHeard, HasMade, SessionView, TurnView, entry_after}
use Rattle.replica_lock.proofs.Hearing.{IsMarking}

-- A session that heard, and then another step.
module _ {setup : Setup} {old between : SessionView} (first : HasHeard setup old old between) where
  same_doubt : old.doubt ≡ false → between.doubt ≡ false
  same_doubt certain = ap (λ (s : SessionView). s.doubt) first.value ∙ certain

  -- which told it a fault that it marks
  pub heard_twice : {new : SessionView} (mark : SessionView → SessionView) → IsMarking mark → HasHeard setup between (mark between) new → HasHeard setup old (mark old) new
  heard_twice {new} mark is second = record {
    value =
        second.value
        ∙ ap (λ (s : SessionView). let marked : SessionView = record (mark s) { seen = new.seen } in marked) first.value
        ∙ ap (λ (s : SessionView). let marked : SessionView = record s { seen = new.seen } in marked) (is.keeps old between.seen);
    told = IsPrefix-trans old.seen between.seen new.seen first.told second.told;
    calls = λ certain. second.calls (same_doubt certain) ∙ first.calls certain;
    run = second.run;
    promised = second.promised;
  }

  -- or made an entry for its client
  pub made_heard : {new : SessionView} (moment : ℕ) (done : Act) → HasMade setup between new moment done → HasMade setup old new moment done
  made_heard {new} moment done made = record {
    front = made.front;
    seen = made.seen ∙ ap (λ (s : SessionView). made.front ++ entry_after s made.front moment done ∷ []) first.value;
    told = IsPrefix-trans old.seen between.seen made.front first.told made.told;
    due = subst (λ (s : SessionView). IsDue setup (part_of made.front s.replica) (entry_after s made.front moment done)) first.value made.due;
    calls = λ certain. made.calls (same_doubt certain) ∙ first.calls certain;
    run = made.run;
    promised = made.promised;
    counts = made.counts ∙ ap (λ (s : SessionView). let more : SessionView = record s { made = s.made + 1; seen = new.seen } in more) first.value;
  }

  -- the entry comes behind all that the session had seen first
  pub entered_heard : {before after : LockedView} {entry : Entry} → HasEntered before after between.seen entry → HasEntered before after old.seen entry
  entered_heard entered = record {
    front = entered.front;
    seen = entered.seen;
    mine = entered.mine;
    told = IsPrefix-trans old.seen between.seen entered.front first.told entered.told;
    part = entered.part;
    stored = entered.stored;
    run = entered.run;
  }

  pub begun_heard : {before after : TurnView} (moment : ℕ) → HasBegun before after between moment → HasBegun before after old moment
  begun_heard {before} {after} moment begun = record {
    entered = entered_heard begun.entered;
    totals = begun.totals ∙ ap (λ (s : SessionView). one_more_at (made_place s.conits s.client) before.state.totals) first.value;
    book = begun.book ∙ ap (λ (s : SessionView). one_more_at (made_place s.conits s.client) before.book) first.value;
    owes = begun.owes;
    counts = begun.counts;
  }
