-- The message that a replica sends.
use Rattle.std.proofs.Common.{◌≡◌, ◌≢◌, ℕ, ◌<◌, ◌≤◌, ◌==◌, min, max, Bool, false, cond, List, [], ◌∷◌, ◌++◌, length, get_or, take, drop, map, refl, sym, ap, ap₂, ◌∙◌, subst, ⊎_elim, arith}
use Rattle.std.proofs.lemmas.Bool.{cases_eq, eq-eqb, ne_eqb}
use Rattle.std.proofs.lemmas.List.{length_push}
use Rattle.tact_base.proofs.ListLemmas.{All-range, flat_map_agree, get_or-map_range, length-filter_map, map_range_agree}
use Rattle.tact_base.specs.Counts.{first_index}
use Rattle.tact_base.specs.declared.limits.TheConstants.{MESSAGE_WRITES, MOMENT_MAX, HISTORY_MAX}
use Rattle.tact_base.specs.declared.write.Cover.{Cover}
use Rattle.tact_base.specs.Setup.{IsSetup}
use Rattle.run_model.specs.Histories.{last_moment, moment_at, sent_in}
use Rattle.run_model.specs.Taking.{log_of, have, cover_of}
use Rattle.run_model.specs.Loans.{lent, returned}
use Rattle.split_budget.specs.Budgets.{lent_to, returned_to}
use Rattle.run_model.specs.Messages.{first_for, writes_for, message_of}
use Rattle.run_model.specs.Ranges.{IsActInRange}
use Rattle.run_model.specs.Runs.{IsActDue, IsDue}
use Rattle.run_model.specs.declared.entry.Act.TheVariants as act
use Rattle.run_model.specs.declared.entry.Entry.{Entry}
use Rattle.run_model.specs.declared.entry.Message.{Message}
use Rattle.run_model.proofs.Accepted.{log_of-same}
use Rattle.run_model.proofs.Firsts.{message_again}
use Rattle.run_model.proofs.PartLemmas.{sent_by, sent_in-push_some, calls_in-push}
use Rattle.run_model.proofs.SoundViews.{cover_of-same, cover_of-other}
use Rattle.run_promises.proofs.DueInRange.{due_message_in_range}
use Rattle.replica_core.specs.States.{Core, AreBasesHad, base_at, log_at, cover_at, known_at, own_cover, origins_of, is_full, entered, with_sent, HasPlaces}
use Rattle.replica_core.specs.Sending.{cover_told, first_told, writes_told, next_message}
use Rattle.replica_core.specs.Stands.{Stands}
use Rattle.replica_core.proofs.StandsByPlace.{log_at-part, cover_at-part}
use Rattle.run_model.proofs.SentMessages.{same_message}
use Rattle.replica_core.proofs.StandsAfterQuiet.{Stands-quiet}
use Rattle.replica_core.proofs.DueEntries.{entry_of, sound, moment_in, not_full, is_due}

-- where it stands for a part, it sends the message that is due after it
module _ (part : List Entry) (core : Core) (stands : Stands part core) (among : core.replica < core.setup.replicas) where
  stands_have : (origin : ℕ)
      → origin < core.setup.replicas
      → length (log_at core origin) ≡ have core.replica part origin
  stands_have origin within = ap length (log_at-part part core stands.writes origin within)

  stands_cover : (moment origin : ℕ)
      → origin < core.setup.replicas
      → cover_told core moment origin ≡ cover_of core.replica part moment origin
  stands_cover moment origin within = ⊎_elim
      (λ (same : origin ≡ core.replica).
      ap (λ yes. cond yes (own_cover core moment) (cover_at core origin)) (eq-eqb origin core.replica same)
      ∙ ap₂ (λ (n k : ℕ). let c : Cover = record { count = n; stamp = k; moment = moment } in c)
      (ap length (log_at-part part core stands.writes core.replica among ∙ log_of-same core.replica part)) stands.writes.clock
      ∙ sym (cover_of-same core.replica part moment) ∙ ap (cover_of core.replica part moment) (sym same))
      (λ (other : origin ≡ core.replica → ⊥).
      ap (λ yes. cond yes (own_cover core moment) (cover_at core origin)) (ne_eqb origin core.replica other)
      ∙ cover_at-part part core stands.writes origin within ∙ cover_of-other core.replica part (last_moment part) origin other ∙ sym (cover_of-other core.replica part moment origin other))
      (cases_eq origin core.replica)

  stands_first : (to : ℕ) (given : List ℕ)
      → to < core.setup.replicas
      → (origin : ℕ)
      → origin < core.setup.replicas
      → first_told core to given origin ≡ first_for core.replica part to given origin
  stands_first to given to_in origin within =
      ap (λ (n : ℕ). first_index to origin n (known_at core to origin) (get_or given origin 0)) (stands_have origin within)
      ∙ ap (λ (n : ℕ). first_index to origin (have core.replica part origin) n (get_or given origin 0)) (stands.writes.known to origin to_in within)

  abbrev firsts : ℕ → List ℕ → List ℕ
  firsts to given = map (first_told core to given) (origins_of core)

  stands_writes : (to : ℕ) (given : List ℕ)
      → to < core.setup.replicas
      → writes_told core (firsts to given) ≡ writes_for core.setup core.replica part to given
  stands_writes to given to_in =
      ap (take MESSAGE_WRITES)
      (flat_map_agree (λ origin. drop (get_or (firsts to given) origin 0) (log_at core origin))
      (λ origin. drop (first_for core.replica part to given origin) (log_of core.replica part origin)) (origins_of core)
      (All-range (λ origin. drop (get_or (firsts to given) origin 0) (log_at core origin) ≡ drop (first_for core.replica part to given origin) (log_of core.replica part origin)) 0 core.setup.replicas
      (λ origin low high.
      let within : origin < core.setup.replicas = omega (arith, high) in
      ap₂ drop (get_or-map_range (first_told core to given) core.setup.replicas origin 0 within ∙ stands_first to given to_in origin within) (log_at-part part core stands.writes origin within))))

  pub next_due : (moment to : ℕ) (given : List ℕ)
      → to < core.setup.replicas
      → (to ≡ core.replica → ⊥)
      → next_message core moment to given ≡ message_of core.setup core.replica part moment to given
  next_due moment to given to_in other = same_message core.replica core.replica to _ _ _ _ _ _ _ _ _ _ _ _ _ _
      refl stands.counts.sends
      (map_range_agree (λ origin. length (log_at core origin)) (have core.replica part) core.setup.replicas stands_have)
      (map_range_agree (cover_told core moment) (cover_of core.replica part moment) core.setup.replicas (stands_cover moment))
      (map_range_agree (first_told core to given) (first_for core.replica part to given) core.setup.replicas (stands_first to given to_in))
      (stands_writes to given to_in)
      (map_range_agree (lent_to core.budgets to) (lent core.setup core.replica part to) core.setup.conits
      (λ conit within. stands.budgets.lent to conit to_in other within))
      (map_range_agree (returned_to core.budgets to) (returned part to) core.setup.conits
      (λ conit within. stands.budgets.returned to conit to_in other within))

-- What is given up the receiver is known to have, so the writes that it is told begin no earlier.
pub bases_told : (core : Core)
    → AreBasesHad core
    → (to : ℕ) (given : List ℕ)
    → to < core.setup.replicas
    → (to ≡ core.replica → ⊥)
    → (origin : ℕ)
    → origin < core.setup.replicas
    → base_at core origin ≤ get_or (map (first_told core to given) (origins_of core)) origin 0
bases_told core bases to given to_in other origin within =
    let have = length (log_at core origin) in
    let told = λ (yes : Bool). cond yes have (min have (max (get_or given origin 0) (known_at core to origin))) in
    let first : get_or (map (first_told core to given) (origins_of core)) origin 0 ≡ told (origin == to) =
    get_or-map_range (first_told core to given) core.setup.replicas origin 0 within in
    ⊎_elim
    (λ (same : origin ≡ to). omega (arith, first, ap told (eq-eqb origin to same), bases.within origin within))
    (λ (apart : origin ≡ to → ⊥).
    omega (arith, first, ap told (ne_eqb origin to apart), bases.within origin within, bases.had to origin to_in within (λ is. apart (sym is)) other))
    (cases_eq origin to)

-- It stands for its part with the message sent.
module _ (part : List Entry) (core : Core) (stands : Stands part core) (good : IsSetup core.setup) (free : is_full core ≡ false) (places : HasPlaces core)
    (handed : ℕ) (handed_in : handed ≤ MOMENT_MAX) (to : ℕ) (to_in : to < core.setup.replicas) (other : to ≢ core.replica) (given : List ℕ) where
  abbrev message : Message
  message = next_message core (max handed core.counts.last) to given

  pub sent_due : message ≡ message_of core.setup core.replica part (moment_at part handed) to given
  sent_due =
      next_due part core stands places.among (max handed core.counts.last) to given to_in other
      ∙ ap (λ (m : ℕ). message_of core.setup core.replica part m to given) (ap (max handed) stands.counts.last)

  abbrev entry : Entry
  entry = entry_of core.replica part handed (act.Send message)

  -- the entry of it is due
  pub sent_is_due : IsDue core.setup part entry
  sent_is_due =
      let at = moment_at part handed in
      let whole = message_of core.setup core.replica part at to given in
      let room : length part < HISTORY_MAX = omega (arith, stands.counts.count, (not_full core free).0) in
      let known = sound part core stands free places.among handed handed_in (act.Send message) in
      let moment_ok : at ≤ MOMENT_MAX = moment_in part core stands free places.among handed handed_in (act.Send message) in
      is_due part core stands free places.among handed handed_in (act.Send message)
      (subst (λ (m : Message). IsActInRange core.setup core.replica (act.Send m)) (sym sent_due)
      (due_message_in_range core.setup good core.replica part known places.among room at moment_ok to to_in (λ same. other (sym same)) given, refl))
      (subst (λ (m : Message). IsActDue core.setup core.replica part at (act.Send m)) (sym sent_due)
      (message_again core.setup core.replica part to given at))

  pub Stands-sent : Stands (part ++ entry ∷ []) (entered (with_sent core) handed)
  Stands-sent =
      let sends = act.Send message in
      let more : sent_in (part ++ entry ∷ []) ≡ sent_in part ++ message ∷ [] = sent_in-push_some part entry message refl in
      let few : length (sent_in part) ≤ length part = length-filter_map sent_by part in
      let room = not_full core free in
      Stands-quiet part core stands free places handed handed_in sends (with_sent core).counts sent_is_due tt
      (record { accepts = λ replica moment. refl; takes = refl; grants = λ conit. refl; uses = λ conit. refl; lends = λ peer conit. refl; gives = λ peer conit. refl })
      places.calls_sized
      (record {
        calls = λ client within. stands.counts.calls client within ∙ sym (calls_in-push part entry client ∙ omega arith);
        sends = omega (arith, stands.counts.sends, ap length more, length_push (sent_in part) message, few, stands.counts.count, room.0);
        count = stands.counts.count;
        last = stands.counts.last;
      })
