-- What a closed history is of a plan: by what its clerks drew and what its clients' notes have seen.
use Rattle.std.proofs.Common.{◌≡◌, ◌⊎◌, ℕ, ◌<◌, ◌≤◌, zero, suc, Bool, true, false, List, [], ◌∷◌, All, IfSome, Option, Some, None, filter, get_or, length, map, take, refl, sym, ap, ◌∙◌, subst, inl, inr, ⊎_elim, arith}
use Rattle.std.specs.Prelude.{IfErr, IfOk, Result, Ok, Err}
use Rattle.std.specs.List.{AllZip, list_any}
use Rattle.std.proofs.lemmas.Bool.{cases_lt, cond-true, cond-false, or_parts}
use Rattle.std.proofs.lemmas.List.{nil_from_length}
use Rattle.std.proofs.lemmas.List.Elements.{All-weaker}
use Rattle.tact_base.specs.Setup.{Setup}
use Rattle.tact_base.specs.declared.limits.TheConstants.{CLIENTS, HISTORY_MAX}
use Rattle.tact_io.specs.Faults.{HasRisen}
use Rattle.run_model.specs.Histories.{IsPrefix, calls_in, calls_of, is_call_of, part_of}
use Rattle.run_model.specs.Promises.{IsKept}
use Rattle.run_model.specs.Runs.{IsRun}
use Rattle.run_model.specs.Taking.{clock}
use Rattle.run_model.specs.declared.entry.Entry.{Entry}
use Rattle.run_model.proofs.PrefixLemmas.{IsPrefix-trans}
use Rattle.run_history.specs.Seats.{ClerkView, DeskView, NoteView, fresh_clerk}
use Rattle.run_history.specs.Closing.{AreAllThere}
use Rattle.run_history.specs.Ticks.{drawn_by, entries_of}
use Rattle.locked_replica.specs.declared.fault.RestartFault.{RestartFault}
use Rattle.locked_replica.specs.declared.fault.RestartFault.TheVariants as node
use Rattle.work_load.specs.Attempts.{Attempts, Begun, reach}
use Rattle.work_load.specs.Clients.{is_of}
use Rattle.work_load.specs.Entries.{EachAfter}
use Rattle.work_load.specs.Ranges.{IsClientAfter}
use Rattle.work_load.specs.Workloads.{Workload}
use Rattle.work_load.specs.declared.plan.Client.{Client}
use Rattle.work_load.specs.declared.plan.Item.{Item}
use Rattle.run_work.specs.Ends.{AreDrawn, HaveDrawn, HaveEnded, HasNoted, LosesNone, noted_calls}
use Rattle.run_work.specs.Finished.{HasFinished, IsFaultOf, IsHeard, IsStopHeard, fault_for}
use Rattle.run_work.specs.Runs.{ArePutBack, IsDoneRun, IsFullRun, IsRunOf, IsStoppedRun}
use Rattle.run_work.specs.Shelves.{IsOpenFault, IsStored, IsSure, ShelfEnd}
use Rattle.run_work.specs.Stops.{IsStopBy, is_failure}
use Rattle.run_work.specs.declared.closing.Drawn.{Drawn}
use Rattle.run_work.specs.declared.leaving.Stop.{Stop}
use Rattle.run_work.specs.declared.run.Finished.{Finished}
use Rattle.run_work.specs.declared.run.RunFault.{RunFault}
use Rattle.run_work.specs.declared.run.RunFault.TheVariants as fault
use Rattle.run_work.proofs.Closed.{calls_of-none, calls_of-stored, entries_of-drawn, part_of-full, part_of-none}
use Rattle.run_work.proofs.Ending.{each_at}
use Rattle.run_work.proofs.Noted.{is_of-itself, noted_calls-none}
use Rattle.run_work.proofs.ServedLemmas.{IsServed-noted}
use Rattle.run_work.proofs.Zips.{AllZip-at}
use Rattle.run_work.specs.Serving.{IsClientServed}
use Rattle.run_work.proofs.Reach.{reached_by}

-- the calls that are noted of a client that none before it is are those that its note has seen
pub noted_calls-at : (clients : List Client) (notes : List NoteView) (at : ℕ) (client no_client : Client) (none : NoteView)
    → list_any (is_of client.replica client.client) (take at clients) ≡ false
    → get_or clients at no_client ≡ client
    → at < length clients
    → at < length notes
    → noted_calls clients notes client.replica client.client ≡ calls_of (get_or notes at none).seen client.replica client.client
noted_calls-at [] notes at client no_client none other stands within noted = absurd (omega (arith, within))
noted_calls-at (first ∷ clients) [] at client no_client none other stands within noted = absurd (omega (arith, noted))
noted_calls-at (first ∷ clients) (note ∷ notes) zero client no_client none other stands within noted =
    cond-true (is_of client.replica client.client first) (calls_of note.seen client.replica client.client) (noted_calls clients notes client.replica client.client)
    (ap (is_of client.replica client.client) stands ∙ is_of-itself client)
noted_calls-at (first ∷ clients) (note ∷ notes) (suc at) client no_client none other stands within noted =
    let parts = or_parts (is_of client.replica client.client first) (list_any (is_of client.replica client.client) (take at clients)) other in
    cond-false (is_of client.replica client.client first) (calls_of note.seen client.replica client.client) (noted_calls clients notes client.replica client.client) parts.0
    ∙ noted_calls-at clients notes at client no_client none parts.1 stands (omega (arith, within)) (omega (arith, noted))

-- what closing a desk gives
pub record IsClosed (setup : Setup) (clerks : List ClerkView) (history : List Entry) : Type 0 where
  pub run : IsRun setup history
  pub kept : IsKept setup history
  pub parts : All (λ (clerk : ClerkView). clerk.pairs ≡ drawn_by history clerk.replica) clerks
  pub seen : All (λ (clerk : ClerkView). IsPrefix clerk.seen history) clerks

module _ (desk : DeskView) (drawn : Drawn) (history : List Entry) (are : AreDrawn desk drawn) (is : IsClosed desk.setup drawn.clerks.items history) where
  -- what the clerk of a replica drew
  abbrev pairs_at : ℕ → List (ℕ × Entry)
  pairs_at replica = (get_or drawn.clerks.items replica (fresh_clerk desk.table 0)).pairs

  pub stored_at : (replica : ℕ) → replica < desk.setup.replicas → part_of history replica ≡ entries_of (pairs_at replica)
  stored_at replica below =
      let none : ClerkView = fresh_clerk desk.table 0 in
      let within : replica < length drawn.clerks.items = omega (arith, below, are.count) in
      sym (entries_of-drawn history (pairs_at replica) replica
      (is.parts replica none within ∙ ap (drawn_by history) (are.replica_is replica none within)))

module _ (clients : List Client) (notes : List NoteView) (desk : DeskView) (drawn : Drawn) (history : List Entry)
    (are : AreDrawn desk drawn) (counted : HaveDrawn clients notes drawn) (is : IsClosed desk.setup drawn.clerks.items history) where
  abbrev drawn_at : ℕ → List (ℕ × Entry)
  drawn_at replica = pairs_at desk drawn history are is replica

  kept_at : (replica : ℕ) → replica < desk.setup.replicas → part_of history replica ≡ entries_of (drawn_at replica)
  kept_at = stored_at desk drawn history are is

  calls_at : (replica number : ℕ) → replica < desk.setup.replicas → number < CLIENTS
      → calls_in (entries_of (drawn_at replica)) number ≡ length (noted_calls clients notes replica number)
  calls_at replica number below few =
      let none : ClerkView = fresh_clerk desk.table 0 in
      let within : replica < length drawn.clerks.items = omega (arith, below, are.count) in
      counted replica number none within few

  -- the history has the calls that a client's note has seen
  calls_seen : (note : NoteView) (replica number : ℕ)
      → replica < desk.setup.replicas
      → number < CLIENTS
      → IsPrefix note.seen history
      → noted_calls clients notes replica number ≡ calls_of note.seen replica number
      → calls_of history replica number ≡ calls_of note.seen replica number
  calls_seen note replica number below few front noted =
      calls_of-stored note.seen history (drawn_at replica) replica number front (kept_at replica below)
      (calls_at replica number below few ∙ ap length noted)

  -- and none of a client that isn't there
  pub no_calls : (replica number : ℕ)
      → list_any (is_of replica number) clients ≡ false
      → calls_of history replica number ≡ []
  no_calls replica number other =
      ⊎_elim
      (λ (few : number < CLIENTS).
      ⊎_elim
      (λ (below : replica < desk.setup.replicas).
      nil_from_length (calls_of history replica number)
      (ap (λ (part : List Entry). calls_in part number) (kept_at replica below)
      ∙ calls_at replica number below few ∙ ap length (noted_calls-none clients notes replica number other)))
      (λ past. ap (filter (λ (entry : Entry). is_call_of number entry.act)) (part_of-none desk.setup history replica is.run past))
      (cases_lt replica desk.setup.replicas))
      (λ past. calls_of-none desk.setup history replica number is.run past)
      (cases_lt number CLIENTS)

  -- so the calls of each client are those that its note has seen
  pub calls_noted : EachAfter (IsClientAfter desk.setup.replicas desk.setup.conits) [] clients
      → All (λ (note : NoteView). IsPrefix note.seen history) notes
      → (at : ℕ) (no_client : Client) (none : NoteView)
      → at < length clients
      → at < length notes
      → (let client = get_or clients at no_client in calls_of history client.replica client.client ≡ calls_of (get_or notes at none).seen client.replica client.client)
  calls_noted each heard at no_client none within noted =
      let client : Client = get_or clients at no_client in
      let after = each_at (IsClientAfter desk.setup.replicas desk.setup.conits) [] clients at no_client each within in
      calls_seen (get_or notes at none) client.replica client.client after.replica after.number (heard at none noted)
      (noted_calls-at clients notes at client no_client none after.other refl within noted)

  pub clients_made : (Made : List Item → List Entry → Type 0)
      → EachAfter (IsClientAfter desk.setup.replicas desk.setup.conits) [] clients
      → AllZip (λ (client : Client). HasNoted (Made client.items) client) clients notes
      → All (λ (note : NoteView). IsPrefix note.seen history) notes
      → All (λ (client : Client). Made client.items (calls_of history client.replica client.client)) clients
  clients_made Made each zip heard = λ at no_client within.
      let none : NoteView = record { table = desk.table; seen = [] } in
      let client : Client = get_or clients at no_client in
      let noted = AllZip-at (λ (one : Client). HasNoted (Made one.items) one) clients notes at no_client none zip within in
      subst (Made client.items) (sym (calls_noted each heard at no_client none within noted.0)) noted.1

-- the history is a run of the plan
IsRunOf-closed : (Made : List Item → List Entry → Type 0) (plan : Workload) (notes : List NoteView) (desk : DeskView) (drawn : Drawn) (history : List Entry)
    → desk.setup ≡ plan.setup
    → EachAfter (IsClientAfter plan.setup.replicas plan.setup.conits) [] plan.clients
    → AreDrawn desk drawn
    → HaveDrawn plan.clients notes drawn
    → IsClosed desk.setup drawn.clerks.items history
    → AllZip (λ (client : Client). HasNoted (Made client.items) client) plan.clients notes
    → All (λ (note : NoteView). IsPrefix note.seen history) notes
    → IsRunOf Made plan history
IsRunOf-closed Made plan notes desk drawn history setup each are counted is zip heard = record {
  run = subst (λ (s : Setup). IsRun s history) setup is.run;
  promised = subst (λ (s : Setup). IsKept s history) setup is.kept;
  clients = clients_made plan.clients notes desk drawn history are counted is Made
      (subst (λ (s : Setup). EachAfter (IsClientAfter s.replicas s.conits) [] plan.clients) (sym setup) each) zip heard;
  others = no_calls plan.clients notes desk drawn history are counted is;
}

-- what the first clerk has seen the history has seen
pub heard_in : (setup : Setup) (clerks : List ClerkView) (history : List Entry) (note : NoteView)
    → 0 < length clerks
    → IsClosed setup clerks history
    → IsHeard clerks note
    → IsPrefix note.seen history
heard_in setup clerks history note some is heard =
    let none : ClerkView = fresh_clerk note.table 0 in
    IsPrefix-trans note.seen (get_or clerks 0 none).seen history (heard none) (is.seen 0 none some)

module _ (shelf : ShelfEnd) (plan : Workload) (tries : ℕ) (desk : DeskView) (finished : Finished) (history : List Entry)
    (setup : desk.setup ≡ plan.setup)
    (each : EachAfter (IsClientAfter plan.setup.replicas plan.setup.conits) [] plan.clients)
    (some : 0 < length finished.drawn.clerks.items)
    (has : HasFinished shelf plan tries desk finished)
    (is : IsClosed desk.setup finished.drawn.clerks.items history) where
  heard_all : All (λ (note : NoteView). IsPrefix note.seen history) has.notes
  heard_all =
      All-weaker (IsHeard finished.drawn.clerks.items) (λ (note : NoteView). IsPrefix note.seen history)
      (λ note. heard_in desk.setup finished.drawn.clerks.items history note some is) has.notes has.heard

  heard_seen : (seen : List Entry) → ((none : ClerkView) → IsPrefix seen (get_or finished.drawn.clerks.items 0 none).seen) → IsPrefix seen history
  heard_seen seen heard =
      let none : ClerkView = fresh_clerk desk.table 0 in
      IsPrefix-trans seen (get_or finished.drawn.clerks.items 0 none).seen history (heard none) (is.seen 0 none some)

  -- what a replica drew is its part, and its pieces are stored where no journal failed
  part_at : (replica : ℕ) → replica < desk.setup.replicas → part_of history replica ≡ entries_of (pairs_at desk finished.drawn history has.drawn is replica)
  part_at = stored_at desk finished.drawn history has.drawn is

  within_at : (replica : ℕ) → replica < desk.setup.replicas → replica < length finished.drawn.clerks.items
  within_at replica below = omega (arith, below, has.drawn.count)

  put_back : IsSure shelf → ArePutBack shelf plan history
  put_back sure = λ replica below.
      let here : replica < desk.setup.replicas = omega (arith, below, ap (λ (s : Setup). s.replicas) setup) in
      subst (IsStored shelf.stored replica) (sym (part_at replica here)) (has.pieces sure replica (fresh_clerk desk.table 0) (within_at replica here))

  -- a run that did not stop is done
  pub IsDoneRun-closed : finished.stop ≡ None → IsDoneRun shelf plan tries history
  IsDoneRun-closed none =
      let at_desk = subst (λ (s : Setup). EachAfter (IsClientAfter s.replicas s.conits) [] plan.clients) (sym setup) each in
      let counted : HaveDrawn plan.clients has.notes finished.drawn = has.counted (subst LosesNone (sym none) tt) in
      record {
        run = IsRunOf-closed (Attempts tries) plan has.notes desk finished.drawn history setup each has.drawn counted is
            (subst (HaveEnded tries plan.clients has.notes) none has.ended) heard_all;
        served = λ sure.
            IsServed-noted plan history has.notes (record { table = desk.table; seen = [] })
            (λ at no_client no_note within noted. calls_noted plan.clients has.notes desk finished.drawn history has.drawn counted is at_desk heard_all at no_client no_note within noted)
            (no_calls plan.clients has.notes desk finished.drawn history has.drawn counted is)
            heard_all
            (subst (λ (s : Setup). AllZip (λ (client : Client) (note : NoteView). IsClientServed s client note.seen) plan.clients has.notes) setup (has.served sure none))
            (λ rounds.
            let all = has.met sure none rounds in
            (all.front, all.history, all.noted, heard_seen all.history all.heard, all.met));
        put_back = put_back;
      }

  -- a full replica could reach as many entries
  reached_at : IsSure shelf → LosesNone finished.stop → (replica : ℕ) → length (part_of history replica) ≡ HISTORY_MAX → HISTORY_MAX ≤ reach plan history replica
  reached_at sure kept replica full =
      ⊎_elim
      (λ (below : replica < desk.setup.replicas).
      reached_by plan history (entries_of (pairs_at desk finished.drawn history has.drawn is replica)) replica (part_at replica below) full
      (has.few sure kept replica (fresh_clerk desk.table 0) (within_at replica below)))
      (λ past. absurd (omega (arith, full, ap length (part_of-none desk.setup history replica is.run past))))
      (cases_lt replica desk.setup.replicas)

  -- and one that stopped is full, where no call is lost
  full_run : (stop : Stop) (count stamp : ℕ)
      → finished.stop ≡ Some stop
      → stop.ending.lost ≡ false
      → IsPrefix stop.note.seen history
      → IsStopBy shelf.tells (node.Full count stamp) (part_of stop.note.seen stop.replica)
      → IsFullRun shelf plan tries stop.replica count stamp history
  full_run stop count stamp stopped kept front told =
      let part : part_of history stop.replica ≡ part_of stop.note.seen stop.replica = part_of-full desk.setup stop.note.seen history stop.replica is.run front told.0 in
      let none_lost : LosesNone finished.stop = subst LosesNone (sym stopped) kept in
      let begun : HaveEnded tries plan.clients has.notes (Some stop) = subst (HaveEnded tries plan.clients has.notes) stopped has.ended in
      record {
        run = IsRunOf-closed (Begun tries) plan has.notes desk finished.drawn history setup each has.drawn (has.counted none_lost) is (begun kept) heard_all;
        full = ap length part ∙ told.0;
        count_is = told.1;
        clock_is = told.2 ∙ ap clock (sym part);
        reached = λ sure. reached_at sure none_lost stop.replica (ap length part ∙ told.0);
        put_back = put_back;
      }

  pub IsStoppedRun-closed : (told : RunFault) → IsFaultOf history finished.stop told → IsStoppedRun shelf plan tries told
  IsStoppedRun-closed told of = go finished.stop refl of has.stop
    where
      by_fault : (stop : Stop) (why : RestartFault) (lost : Bool)
          → finished.stop ≡ Some stop
          → stop.ending.lost ≡ lost
          → IsPrefix stop.note.seen history
          → IsStopBy shelf.tells why (part_of stop.note.seen stop.replica)
          → ((is_failure why ≡ true) ⊎ (lost ≡ true) → HasRisen shelf.before shelf.after)
          → IsStoppedRun shelf plan tries (fault_for stop.replica why lost history)
      by_fault stop (node.Full count stamp) false stopped kept front full failed = full_run stop count stamp stopped kept front full
      by_fault stop (node.Full count stamp) true stopped kept front full failed = failed (inr refl)
      by_fault stop node.JournalFault lost stopped kept front full failed = failed (inl refl)
      by_fault stop node.JournalReadFault lost stopped kept front full failed = failed (inl refl)
      by_fault stop (node.Foreign place) lost stopped kept front full failed = full
      by_fault stop node.NoMemory lost stopped kept front full failed = tt

      go : (stop : Option Stop)
          → finished.stop ≡ stop
          → IsFaultOf history stop told
          → IfSome stop (IsStopHeard shelf finished.drawn.clerks.items)
          → IsStoppedRun shelf plan tries told
      go None same of heard = absurd of
      go (Some stop) same of heard =
          subst (IsStoppedRun shelf plan tries) (sym of)
          (by_fault stop stop.ending.fault stop.ending.lost same refl (heard_in desk.setup finished.drawn.clerks.items history stop.note some is heard.heard) heard.cause heard.failed)

-- what a run's end gives of each outcome
pub done_by : (shelf : ShelfEnd) (plan : Workload) (tries : ℕ) (run : List Entry) (stop : Option Stop) (result : Result (List Entry) RunFault)
    → (stop ≡ None → IsDoneRun shelf plan tries run)
    → IfOk result (λ (ended : List Entry). (ended ≡ run) × (stop ≡ None))
    → IfOk result (IsDoneRun shelf plan tries)
done_by shelf plan tries run stop (Ok ended) done is = subst (IsDoneRun shelf plan tries) (sym is.0) (done is.1)
done_by shelf plan tries run stop (Err told) done is = is

pub stopped_by : (shelf : ShelfEnd) (plan : Workload) (tries : ℕ) (run : List Entry) (stop : Option Stop) (result : Result (List Entry) RunFault)
    → ((told : RunFault) → IsFaultOf run stop told → IsStoppedRun shelf plan tries told)
    → IfErr result (IsFaultOf run stop)
    → IfErr result (IsStoppedRun shelf plan tries)
stopped_by shelf plan tries run stop (Ok ended) stopped is = is
stopped_by shelf plan tries run stop (Err told) stopped is = stopped told is

-- what a function tells of an element stands at its place among what it tells of all
map_at : {A B : Type 0} (f : A → B) (xs : List A) (at : ℕ) (d : A) (e : B)
    → at < length xs
    → (at < length (map f xs)) × (get_or (map f xs) at e ≡ f (get_or xs at d))
map_at f [] at d e within = absurd (omega (arith, within))
map_at f (x ∷ xs) zero d e within = (omega arith, refl)
map_at f (x ∷ xs) (suc at) d e within =
    let rest = map_at f xs at d e (omega (arith, within)) in
    (omega (arith, rest.0), rest.1)

-- there is a clerk of each replica of the desk
pub clerks_are : (desk : DeskView) (drawn : Drawn)
    → AreDrawn desk drawn
    → AreAllThere desk.setup.replicas drawn.clerks.items
clerks_are desk drawn are = λ replica below.
    let none : ClerkView = fresh_clerk desk.table 0 in
    let within : replica < length drawn.clerks.items = omega (arith, below, are.count) in
    let there = map_at (λ (clerk : ClerkView). clerk.replica) drawn.clerks.items replica none replica within in
    (replica, there.0, there.1 ∙ are.replica_is replica none within)

-- a run that didn't begin, or had to end
pub stopped_open : (shelf : ShelfEnd) (plan : Workload) (tries : ℕ) (told : RunFault)
    → IsOpenFault shelf.before shelf.after told
    → IsStoppedRun shelf plan tries told
stopped_open shelf plan tries (fault.JournalFault replica) is = is
stopped_open shelf plan tries fault.NoMemory is = tt
stopped_open shelf plan tries (fault.Full replica count clock run) is = absurd is
stopped_open shelf plan tries (fault.JournalForeign replica place) is = absurd is
