-- What the workers leave as they leave one by one.
use Rattle.std.proofs.Common.{◌≡◌, ℕ, ◌+◌, ◌<◌, Bool, false, List, [], ◌∷◌, ◌++◌, All, IfSome, Option, None, get_or, length, map, refl, ap, sym, ◌∙◌, subst, arith}
use Rattle.std.specs.List.{list_any}
use Rattle.std.proofs.lemmas.List.{length-map, length_push, map_push}
use Rattle.std.proofs.lemmas.List.Elements.{All-nil, All-push}
use Rattle.tact_base.proofs.ListLemmas.{fold-push}
use Rattle.run_history.specs.Seats.{DeskView, NoteView}
use Rattle.replica_lock.specs.Rosters.{RosterView}
use Rattle.replica_lock.specs.Sessions.{IsAtNode, NodeView, SessionView}
use Rattle.steady_node.specs.Going.{IsUnmarked}
use Rattle.work_load.specs.Clients.{is_of}
use Rattle.work_load.specs.declared.plan.Client.{Client}
use Rattle.run_work.specs.Ends.{AreBusy, AreCertain, AreEnds, AreFaultless, AreUnmarked, HasCome, HaveEnded, HaveServed, LosesNone, IsStop, first_stop, note_of, stop_with}
use Rattle.run_work.specs.Sites.{AreSites, SitesView}
use Rattle.run_work.specs.Working.{HasWorked, WorkerView}
use Rattle.run_work.specs.declared.leaving.Left.{Left}
use Rattle.run_work.specs.declared.leaving.Stop.{Stop}
use Rattle.run_work.specs.declared.seat.End.{End}
use Rattle.run_work.proofs.Coming.{OfEach, OfEach-after, OfEach-before, OfEach-come}
use Rattle.run_work.proofs.Ended.{all_there}
use Rattle.run_work.proofs.Ending.{AreEnds-come}
use Rattle.run_work.proofs.Reach.{AreBusy-come, AreBusy-none}
use Rattle.run_work.proofs.Settled.{some_element}
use Rattle.run_work.proofs.Stopping.{HaveEnded-more, HaveServed-more, IsStop-more, desk_of, kept_before, replica_of}

abbrev pub clients_of : List WorkerView → List Client
clients_of workers = map (λ (worker : WorkerView). worker.client) workers

abbrev IsOfDesk : SitesView → NoteView → Type 0
IsOfDesk sites note = note.table ≡ sites.desk.table

-- some workers have left, and these ends have what they left
pub record IsLeaving (tells : Bool) (sites : SitesView) (tries : ℕ) (seated : List Client) (back : List WorkerView) (left : Left) (at_first ends : List End) : Type 0 where
  pub ends_are : AreEnds seated (clients_of back) left.notes.items sites ends
  pub count : length left.notes.items ≡ length back
  pub ended : HaveEnded tries (clients_of back) left.notes.items left.stop
  pub served : AreUnmarked ends → HaveServed sites.desk.setup (clients_of back) left.notes.items left.stop
  pub certain : LosesNone left.stop → AreCertain ends
  pub notes : All (IsOfDesk sites) left.notes.items
  pub first : left.stop ≡ first_stop back
  pub stop : IfSome left.stop (IsStop tells sites.desk (AreFaultless ends))
  pub busy : AreBusy (clients_of back) 0 ends
  pub rosters : map (λ (end : End). end.roster) ends ≡ map (λ (end : End). end.roster) at_first

-- at first no session is back
no_sessions : (seated : List Client) (sites : SitesView) (ends : List End) → AreEnds seated [] [] sites ends → (P : SessionView → Type 0) → OfEach P ends
no_sessions seated sites ends are P = λ replica none within.
    let node : NodeView = some_element sites.nodes replica (omega (arith, within, are.count)) in
    empty (get_or ends replica none).sessions.items (are.each replica node none within).back_are
  where
    empty : (sessions : List SessionView) → map (λ (session : SessionView). session.client) sessions ≡ [] → All P sessions
    empty [] none = All-nil P
    empty (session ∷ sessions) none = absurd (omega (arith, ap length none))

pub IsLeaving-start : (tells : Bool) (sites : SitesView) (tries : ℕ) (seated : List Client) (left : Left) (ends : List End)
    → left.notes.items ≡ []
    → left.stop ≡ None
    → AreEnds seated [] [] sites ends
    → IsLeaving tells sites tries seated [] left ends ends
IsLeaving-start tells sites tries seated left ends notes stop are = record {
  ends_are = subst (λ (all : List NoteView). AreEnds seated [] all sites ends) (sym notes) are;
  count = ap length notes;
  ended = rw (notes, stop) tt;
  served = λ unmarked. rw (notes, stop) (λ none. tt);
  certain = λ kept. no_sessions seated sites ends are (λ session. session.doubt ≡ false);
  notes = rw notes (All-nil (IsOfDesk sites));
  first = stop;
  stop = rw stop tt;
  busy = AreBusy-none seated sites ends are;
  rosters = refl;
}

-- when none is left all have
pub IsLeaving-all : (tells : Bool) (sites : SitesView) (tries : ℕ) (seated : List Client) (before rest all : List WorkerView) (left : Left) (at_first ends : List End)
    → before ++ rest ≡ all
    → length rest ≡ 0
    → IsLeaving tells sites tries seated before left at_first ends
    → IsLeaving tells sites tries seated all left at_first ends
IsLeaving-all tells sites tries seated before rest all left at_first ends whole none =
    subst (λ (back : List WorkerView). IsLeaving tells sites tries seated back left at_first ends) (all_there before rest all whole none)

module _ (tells : Bool) (sites : SitesView) (tries : ℕ) (seated : List Client) (back : List WorkerView) (left now : Left) (at_first before after : List End) (worker : WorkerView)
    (are : AreSites sites)
    (has : HasWorked tells sites tries worker)
    (new : list_any (is_of worker.client.replica worker.client.client) (clients_of back) ≡ false)
    (leaving : IsLeaving tells sites tries seated back left at_first before)
    (noted : now.notes.items ≡ left.notes.items ++ note_of worker ∷ [])
    (stopped : now.stop ≡ stop_with worker worker.end left.stop)
    (come : HasCome worker.session worker.client.replica before after)
    (kept : map (λ (end : End). end.roster) after ≡ map (λ (end : End). end.roster) before) where
  there : worker.client.replica < length before
  there = omega (arith, has.replica, leaving.ends_are.count)

  at : worker.session.replica ≡ worker.client.replica
  at = replica_of tells sites tries worker are has

  desk : worker.node.desk ≡ sites.desk
  desk = desk_of tells sites tries worker are has

  some : End
  some = some_element before worker.client.replica there

  joined : (P : List Client → List NoteView → Type 0)
      → P (clients_of back ++ worker.client ∷ []) (left.notes.items ++ note_of worker ∷ [])
      → P (clients_of (back ++ worker ∷ [])) now.notes.items
  joined P is =
      subst (λ (clients : List Client). P clients now.notes.items) (sym (map_push (λ (w : WorkerView). w.client) back worker))
      (subst (P (clients_of back ++ worker.client ∷ [])) (sym noted) is)

  pub IsLeaving-more : IsLeaving tells sites tries seated (back ++ worker ∷ []) now at_first after
  IsLeaving-more = record {
    ends_are = joined (λ clients notes. AreEnds seated clients notes sites after)
        (AreEnds-come seated (clients_of back) left.notes.items worker.client (note_of worker) worker.session refl at has.number
        (leaving.count ∙ sym (length-map back (λ (w : WorkerView). w.client))) new sites before after there
        (λ none. subst (λ (node : NodeView). IsAtNode node worker.session) (has.node none) has.at) leaving.ends_are come);
    count = ap length noted ∙ length_push left.notes.items (note_of worker) ∙ ap (λ (k : ℕ). k + 1) leaving.count ∙ sym (length_push back worker);
    ended = joined (λ clients notes. HaveEnded tries clients notes now.stop)
        (HaveEnded-more tells tries (clients_of back) left.notes.items worker left.stop now.stop at has.number has.ended stopped leaving.ended);
    served = λ unmarked.
        joined (λ clients notes. HaveServed sites.desk.setup clients notes now.stop)
        (HaveServed-more sites.desk.setup (clients_of back) left.notes.items worker left.stop now.stop (ap (λ (d : DeskView). d.setup) desk)
        (λ done. has.served done (OfEach-come IsUnmarked worker.session worker.client.replica before after there come some unmarked)) stopped
        (leaving.served (OfEach-before IsUnmarked worker.session worker.client.replica before after there come unmarked)));
    certain = λ none_lost.
        let both = kept_before tells tries worker left.stop now.stop has.ended stopped none_lost in
        OfEach-after (λ session. session.doubt ≡ false) worker.session worker.client.replica before after there come (leaving.certain both.0) both.1;
    notes = subst (All (IsOfDesk sites)) (sym noted) (All-push (IsOfDesk sites) left.notes.items (note_of worker) leaving.notes (ap (λ (d : DeskView). d.table) desk));
    first = stopped
        ∙ ap (λ (stop : Option Stop). stop_with worker worker.end stop) leaving.first
        ∙ sym (fold-push (λ (stop : Option Stop) (one : WorkerView). stop_with one one.end stop) None back worker);
    stop = IsStop-more tells tries sites.desk (AreFaultless before) (AreFaultless after) worker left.stop now.stop desk at
        (OfEach-before (λ session. session.faults ≡ 0) worker.session worker.client.replica before after there come)
        (OfEach-come (λ session. session.faults ≡ 0) worker.session worker.client.replica before after there come some)
        has.ended stopped leaving.stop;
    busy = subst (λ (clients : List Client). AreBusy clients 0 after) (sym (map_push (λ (w : WorkerView). w.client) back worker))
        (AreBusy-come (clients_of back) worker.client 0 worker.session before after has.busy there come leaving.busy);
    rosters = kept ∙ leaving.rosters;
  }
