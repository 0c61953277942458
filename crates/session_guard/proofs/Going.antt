-- A journey goes on by a step.
use Rattle.std.proofs.Common.{◌≡◌, ℕ, ◌+◌, ◌<◌, ◌≤◌, ◌&&◌, ◌-◌, Bool, false, cond, List, [], ◌∷◌, ◌++◌, length, get_or, map, set, take, Option, None, Some, refl, sym, ap, ap₂, ◌∙◌, subst, subst₂, ⊎_elim, arith}
use Rattle.std.specs.List.{slice_get}
use Rattle.std.proofs.lemmas.Bool.{ne_eqb}
use Rattle.std.proofs.lemmas.List.{get_or-map, length-set, length_push, map-set}
use Rattle.std.proofs.lemmas.Option.{get_or_from_slice_get, slice_get_cases, slice_get_within}
use Rattle.tact_base.proofs.ListLemmas.{get_or-map_range, map_range_agree}
use Rattle.tact_base.specs.Setup.{IsSetup, Setup, replicas_of}
use Rattle.tact_base.specs.declared.write.Write.{Write}
use Rattle.run_model.specs.Histories.{calls_in, moment_at, part_of, sent_in}
use Rattle.run_model.specs.Messages.{message_of}
use Rattle.run_model.specs.Replies.{reply_of}
use Rattle.run_model.specs.Runs.{IsDue, IsLawful, IsRun}
use Rattle.run_model.specs.ScriptRuns.{zeros}
use Rattle.run_model.specs.Taking.{have, log_of}
use Rattle.run_model.specs.declared.call.Reply.{Reply}
use Rattle.run_model.specs.declared.call.Request.{Request}
use Rattle.run_model.specs.declared.entry.Act.{Act}
use Rattle.run_model.specs.declared.entry.Act.TheVariants as act
use Rattle.run_model.specs.declared.entry.Entry.{Entry}
use Rattle.run_model.specs.declared.entry.Message.{Message}
use Rattle.run_model.proofs.PrefixLemmas.{EachAfter-last}
use Rattle.replica_core.specs.States.{Core, log_at}
use Rattle.replica_core.specs.Stands.{Stands}
use Rattle.replica_set.specs.Sets.{IsOneOf, entry_of, with_act}
use Rattle.replica_set.proofs.OneReplica.{set_cases}
use Rattle.replica_network.specs.Networks.{NetworkState, after_call, after_send, after_take, played_at, taken}
use Rattle.replica_network.proofs.Longer.{longer}
use Rattle.session_guard.proofs.Calls.{settled}
use Rattle.session_guard.proofs.Carrying.{IsNoLess-refl, carried_on}
use Rattle.session_guard.proofs.TripLemmas.{trip_of-same}
use Rattle.session_guard.specs.Journeys.{GoesOnBy, IsClient, Keeps, Stays, made_in}
use Rattle.session_guard.specs.Passes.{PassState, fresh_pass, haves_of, lack_of, pass_after}
use Rattle.session_guard.specs.Roaming.{Roamed, moved, pass_at, stepped, visited}
use Rattle.session_guard.specs.Trips.{is_granted, is_stop}
use Rattle.session_guard.specs.Visits.{IsWriteOrRead, haves_at}
use Rattle.session_guard.specs.declared.client.Client.{Client}
use Rattle.session_guard.specs.declared.journey.Journey.{Journey}
use Rattle.session_guard.specs.declared.steps.Outcome.{Outcome}
use Rattle.session_guard.specs.declared.steps.Outcome.TheVariants.{Moved, Visited}
use Rattle.session_guard.specs.declared.steps.Step.{Step}
use Rattle.session_guard.specs.declared.steps.Step.TheVariants as step
use Rattle.session_guard.specs.declared.steps.Visit.TheVariants.{Answered}

-- what a replica has is what its part says
pub haves_stand : (setup : Setup) (replica : ℕ) (part : List Entry) (core : Core)
    → Stands part core
    → IsOneOf setup replica core
    → haves_at core ≡ haves_of setup replica part
haves_stand setup replica part core stands one =
    let n = core.setup.replicas in
    let each : map (λ (origin : ℕ). length (log_at core origin)) (replicas_of core.setup) ≡ map (have core.replica part) (replicas_of core.setup) =
    map_range_agree (λ (origin : ℕ). length (log_at core origin)) (have core.replica part) n
    (λ origin within.
    ap length (ap (λ (logs : List (List Write)). get_or logs origin []) stands.writes.logs ∙ get_or-map_range (log_of core.replica part) n origin [] within)) in
    each ∙ ap₂ (λ (s : Setup) (r : ℕ). haves_of s r part) one.setup one.replica

-- what is made, by its parts
same_made : (entries entries' : List Entry) (passes passes' : List PassState) (outcomes outcomes' : List Outcome)
    → entries ≡ entries'
    → passes ≡ passes'
    → outcomes ≡ outcomes'
    → let one : Roamed = record { entries = entries; passes = passes; outcomes = outcomes } in
    one ≡ record { entries = entries'; passes = passes'; outcomes = outcomes' }
same_made entries entries' passes passes' outcomes outcomes' e p o = cc

abbrev pass_of : Client → PassState
pass_of client = client.pass

-- the pass of a client
pub pass_there : (clients : List Client) (pass : ℕ) (client : Client)
    → slice_get clients pass ≡ Some client
    → pass_at (map pass_of clients) pass ≡ client.pass
pass_there clients pass client found =
    get_or-map pass_of clients pass client (fresh_pass 0) (slice_get_within clients pass client found)
    ∙ ap pass_of (get_or_from_slice_get clients pass client client found)

-- a journey that stays keeps what it kept
pub keeps_same : (old new : Journey) → Keeps old → Stays old new → Keeps new
keeps_same old new keeps stays = record {
  good = subst (λ (n : NetworkState). IsSetup n.setup) (sym stays.network) keeps.good;
  run = subst (λ (n : NetworkState). IsRun n.setup n.entries) (sym stays.network) keeps.run;
  few = omega (arith, keeps.few, ap length stays.clients);
  clients = λ number client found.
      subst (λ (n : NetworkState). IsClient n.setup n.entries number client) (sym stays.network)
      (keeps.clients number client (ap (λ (cs : List Client). slice_get cs number) (sym stays.clients) ∙ found));
}

-- a client that doesn't stop at an entry
client_goes_by : (setup : Setup) (history : List Entry) (entry : Entry) (number : ℕ) (client : Client)
    → is_stop number entry.act ≡ false
    → IsClient setup history number client
    → IsClient setup (longer history entry) number client
client_goes_by setup history entry number client by is = record {
  trip = is.trip ∙ sym (trip_of-same history entry number by);
  carried = carried_on setup history entry client.pass client.pass client.trip is.carried is.carried.is_pass (IsNoLess-refl setup client.pass);
}

-- One more entry.
module _ (old new : Journey) (keeps : Keeps old) (entry : Entry) (same : new.network.setup ≡ old.network.setup)
    (entries_are : new.network.entries ≡ longer old.network.entries entry) (run : IsRun new.network.setup new.network.entries) where
  made_due : IsDue old.network.setup (part_of old.network.entries entry.replica) entry
  made_due = (EachAfter-last (IsLawful old.network.setup) old.network.entries entry (subst₂ IsRun same entries_are run)).due

  grows : length new.network.entries ≤ length old.network.entries + 1
  grows = omega (arith, ap length entries_are, length_push old.network.entries entry)

  keeps_more : length new.clients.items ≡ length old.clients.items
      → ((number : ℕ) (client : Client) → slice_get new.clients.items number ≡ Some client
      → IsClient old.network.setup (longer old.network.entries entry) number client)
      → Keeps new
  keeps_more many clients = record {
    good = subst IsSetup (sym same) keeps.good;
    run = run;
    few = omega (arith, keeps.few, many);
    clients = λ number client found.
        subst₂ (λ s (es : List Entry). IsClient s es number client) (sym same) (sym entries_are) (clients number client found);
  }

-- A message that is sent or taken.
module _ (old new : Journey) (moment : ℕ) (keeps : Keeps old) (clients_are : new.clients.items ≡ old.clients.items) (run : IsRun new.network.setup new.network.entries) where
  moves_on : (next : Step) (after : NetworkState) (replica : ℕ) (done : Act)
      → new.network ≡ after
      → after ≡ record { setup = old.network.setup; entries = with_act old.network.entries replica moment done }
      → ((number : ℕ) → is_stop number done ≡ false)
      → ((outcomes : List Outcome) → stepped old.network.setup (made_in old outcomes) moment next ≡ moved (made_in old outcomes) after)
      → GoesOnBy old new moment next Moved
  moves_on next after replica done network_is after_is by step_is =
      let one = entry_of old.network.entries replica moment done in
      let same : new.network.setup ≡ old.network.setup = ap (λ (n : NetworkState). n.setup) (network_is ∙ after_is) in
      let entries_are : new.network.entries ≡ longer old.network.entries one = ap (λ (n : NetworkState). n.entries) (network_is ∙ after_is) in
      record {
        keeps = keeps_more old new keeps one same entries_are run (ap length clients_are)
            (λ number client found.
            client_goes_by old.network.setup old.network.entries one number client (by number)
            (keeps.clients number client (ap (λ (cs : List Client). slice_get cs number) (sym clients_are) ∙ found)));
        setup = same;
        many = ap length clients_are;
        made = λ outcomes.
            step_is outcomes
            ∙ same_made _ _ _ _ (outcomes ++ Moved ∷ []) (outcomes ++ Moved ∷ []) (ap (λ (n : NetworkState). n.entries) (sym network_is)) (ap (map pass_of) (sym clients_are)) refl;
        grows = grows old new keeps one same entries_are run;
      }

  pub sends_on : (from to : ℕ) → new.network ≡ after_send old.network moment from to → GoesOnBy old new moment (step.Send from to) Moved
  sends_on from to network_is =
      let setup = old.network.setup in
      let part = part_of old.network.entries from in
      moves_on (step.Send from to) (after_send old.network moment from to) from (act.Send (message_of setup from part (moment_at part moment) to (zeros setup)))
      network_is refl (λ number. refl) (λ outcomes. refl)

  pub takes_on : (number : ℕ)
      → number < length (sent_in old.network.entries)
      → new.network ≡ after_take old.network moment number
      → GoesOnBy old new moment (step.Take number) Moved
  takes_on number within network_is =
      let sent = sent_in old.network.entries in
      ⊎_elim
      (λ (found : (m : Message) × (number < length sent) × (slice_get sent number ≡ Some m) × (get_or sent number m ≡ m)). there found.0 found.2)
      (λ (none : (length sent ≤ number) × (slice_get sent number ≡ None)). absurd (omega (arith, within, none.0)))
      (slice_get_cases sent number).1
    where
      there : (message : Message)
          → slice_get (sent_in old.network.entries) number ≡ Some message
          → GoesOnBy old new moment (step.Take number) Moved
      there message named =
          moves_on (step.Take number) (after_take old.network moment number) message.to (act.Take message) network_is
          (ap (λ (o : Option Message). let one : NetworkState = record old.network { entries = (taken (played_at old.network.entries moment) o).history } in one) named)
          (λ number. refl) (λ outcomes. refl)

-- A call.
module _ (old new : Journey) (keeps : Keeps old) (pass replica moment : ℕ) (asked : Request) (given : Reply) (client after : Client)
    (among : replica < old.network.setup.replicas) (network_is : new.network ≡ after_call old.network moment replica pass asked)
    (due : given ≡ reply_of old.network.setup replica (part_of old.network.entries replica) (moment_at (part_of old.network.entries replica) moment) asked)
    (run : IsRun new.network.setup new.network.entries) (kind : IsWriteOrRead asked) (there : slice_get old.clients.items pass ≡ Some client)
    (nothing : lack_of (haves_of old.network.setup replica (part_of old.network.entries replica)) client.pass ≡ None)
    (clients_are : new.clients.items ≡ set old.clients.items pass after) where
  abbrev called : Entry
  called = entry_of old.network.entries replica moment (act.Call pass (calls_in (part_of old.network.entries replica) pass) asked given)

  same : new.network.setup ≡ old.network.setup
  same = ap (λ (n : NetworkState). n.setup) network_is

  entries_are : new.network.entries ≡ longer old.network.entries called
  entries_are =
      ap (λ (n : NetworkState). n.entries) network_is
      ∙ ap (λ (g : Reply). with_act old.network.entries replica moment (act.Call pass (calls_in (part_of old.network.entries replica) pass) asked g)) (sym due)

  pub call_due : IsDue old.network.setup (part_of old.network.entries replica) called
  call_due = made_due old new keeps called same entries_are run

  -- where the client settles
  module _ (pass_is : after.pass ≡ pass_after (haves_of old.network.setup replica (part_of old.network.entries replica)) replica client.pass given)
      (trip_is : after.trip ≡ cond (is_granted given) (client.trip ++ length old.network.entries ∷ [])
      (take (length (client.trip ++ length old.network.entries ∷ []) - 1) (client.trip ++ length old.network.entries ∷ []))) where
    abbrev due_pass : PassState
    due_pass = pass_after (haves_of old.network.setup replica (part_of old.network.entries replica)) replica client.pass given

    abbrev due_trip : List ℕ
    due_trip = cond (is_granted given) (client.trip ++ length old.network.entries ∷ [])
        (take (length (client.trip ++ length old.network.entries ∷ []) - 1) (client.trip ++ length old.network.entries ∷ []))

    after_is : after ≡ record { pass = due_pass; trip = due_trip }
    after_is = ap₂ (λ (p : PassState) (t : List ℕ). let one : Client = record { pass = p; trip = t } in one) pass_is trip_is

    it_goes_on : IsClient old.network.setup (longer old.network.entries called) pass after
    it_goes_on = subst (IsClient old.network.setup (longer old.network.entries called) pass) (sym after_is)
        (settled old.network.setup old.network.entries keeps.run client pass replica (moment_at (part_of old.network.entries replica) moment)
        (calls_in (part_of old.network.entries replica) pass) asked (keeps.clients pass client there) among kind nothing given call_due)

    others_go_by : (number : ℕ) → (number ≡ pass → ⊥) → is_stop number called.act ≡ false
    others_go_by number other = ap (λ (is : Bool). is && is_granted given) (ne_eqb pass number (λ same. other (sym same)))

    call_keeps : Keeps new
    call_keeps =
        keeps_more old new keeps called same entries_are run (ap length clients_are ∙ length-set old.clients.items pass after)
        (λ number one found.
        set_cases old.clients.items pass after (IsClient old.network.setup (longer old.network.entries called)) it_goes_on
        (λ k other apart found.
        client_goes_by old.network.setup old.network.entries called k other (others_go_by k apart) (keeps.clients k other found))
        number one
        (ap (λ (clients : List Client). slice_get clients number) (sym clients_are) ∙ found))

    call_made : (outcomes : List Outcome)
        → stepped old.network.setup (made_in old outcomes) moment (step.Visit pass replica asked) ≡ made_in new (outcomes ++ Visited (Answered given) ∷ [])
    call_made outcomes =
        let haves = haves_of old.network.setup replica (part_of old.network.entries replica) in
        let passes = map pass_of old.clients.items in
        let there_is : pass_at passes pass ≡ client.pass = pass_there old.clients.items pass client there in
        ap (visited old.network.setup (made_in old outcomes) moment pass replica asked) (ap (lack_of haves) there_is ∙ nothing)
        ∙ same_made _ _ _ _ _ _ (ap (λ (n : NetworkState). n.entries) (sym network_is))
        (ap₂ (λ (p : PassState) (g : Reply). set passes pass (pass_after haves replica p g)) there_is (sym due)
        ∙ ap (set passes pass) (sym pass_is)
        ∙ sym (map-set pass_of old.clients.items pass after)
        ∙ ap (map pass_of) (sym clients_are))
        (ap (λ (g : Reply). outcomes ++ Visited (Answered g) ∷ []) (sym due))

    pub calls_on : GoesOnBy old new moment (step.Visit pass replica asked) (Visited (Answered given))
    calls_on = record {
      keeps = call_keeps;
      setup = same;
      many = ap length clients_are ∙ length-set old.clients.items pass after;
      made = call_made;
      grows = grows old new keeps called same entries_are run;
    }
