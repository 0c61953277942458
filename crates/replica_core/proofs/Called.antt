-- A call of a client is due where its reply is, and the replica stands for its part with it.
use Rattle.std.proofs.Common.{◌≡◌, ℕ, ◌+◌, ◌-◌, ◌<◌, ◌≤◌, ◌==◌, true, false, cond, List, [], ◌∷◌, ◌++◌, length, get_or, set, None, refl, sym, ap, ◌∙◌, ⊎_elim, arith, get_or-set_same, get_or-set_other}
use Rattle.std.proofs.lemmas.Bool.{cases_eq, eq-eqb, ne_eqb}
use Rattle.std.proofs.lemmas.List.{length-set}
use Rattle.std.proofs.lemmas.List.Sums.{length-filter, count_by-le-length, sum_by_push}
use Rattle.tact_base.specs.Counts.{one_more}
use Rattle.tact_base.specs.declared.limits.TheConstants.{CLIENTS}
use Rattle.run_model.specs.Histories.{moment_at, is_call_of, calls_in}
use Rattle.run_model.specs.Missing.{granted_on, used_on, granted_by, used_by, reserved}
use Rattle.run_model.specs.OwnWrites.{asked_write, done_as, accepted_as}
use Rattle.run_model.specs.Replies.{reply_of}
use Rattle.run_model.specs.Runs.{IsDue}
use Rattle.run_model.specs.declared.call.Reply.{Reply}
use Rattle.run_model.specs.declared.call.Request.{Request}
use Rattle.run_model.specs.declared.entry.Act.{Act}
use Rattle.run_model.specs.declared.entry.Act.TheVariants as act
use Rattle.run_model.specs.declared.entry.Entry.{Entry}
use Rattle.run_model.proofs.PartLemmas.{accepted_in, sent_in-push_none, calls_in-push}
use Rattle.run_promises.proofs.KeepsShares.{KeepsShares-part}
use Rattle.run_promises.proofs.PartSound.{PartSound-part}
use Rattle.replica_core.specs.Calling.{MayAsk}
use Rattle.replica_core.specs.States.{Core, HasPlaces, with_call, entered}
use Rattle.replica_core.specs.Stands.{Stands}
use Rattle.replica_core.proofs.DueEntries.{entry_of, is_due, goes_on, has_grown}
use Rattle.replica_core.proofs.QuietEntries.{AreWritesReady-quiet, weights-same, lent-same, returned-same, BudgetsStand-further}
use Rattle.replica_core.proofs.StandsAfterEntry.{AreCountsReady, Stands-entered}
use Rattle.replica_core.proofs.StandsAfterQuiet.{Stands-quiet}

-- counts of a part are far from the end of their type
calls-few : (part : List Entry) (client : ℕ) → calls_in part client ≤ length part
calls-few part client =
    let test = λ (e : Entry). is_call_of client e.act in
    omega (arith, length-filter test part, count_by-le-length test part)

-- a reply that refuses a request: nothing is accepted, reserved or used
pub record IsRefusal (asked : Request) (given : Reply) : Type 0 where
  pub accepts : (replica moment : ℕ) → accepted_as replica moment (asked_write asked) (done_as given) ≡ None
  pub grants : (conit : ℕ) → granted_on conit asked given ≡ 0
  pub uses : (conit : ℕ) → used_on conit asked given ≡ 0

module _ (part : List Entry) (core : Core) (stands : Stands part core) (places : HasPlaces core) (handed client : ℕ) (asked : Request) (may : MayAsk core handed client asked)
    (given : Reply) (is : given ≡ reply_of core.setup core.replica part (moment_at part handed) asked) where
  abbrev pub called : Act
  called = act.Call client (calls_in part client) asked given

  abbrev pub entry : Entry
  entry = entry_of core.replica part handed called

  abbrev further : List Entry
  further = part ++ entry ∷ []

  pub due : IsDue core.setup part entry
  due = is_due part core stands may.not_full places.among handed may.moment_in called (may.client_in, may.in_range) (refl, is)

  calls_are : (one : ℕ)
      → one < CLIENTS
      → get_or (with_call core client).counts.calls one 0 ≡ calls_in further one
  calls_are one within =
      let more = one_more (get_or core.counts.calls client 0) in
      let few = calls-few part client in
      let short = (PartSound-part core.setup core.replica part stands.is_part).few in
      ⊎_elim
      (λ (same : one ≡ client).
      let pushed : calls_in further one ≡ calls_in part one + cond (client == one) 1 0 = calls_in-push part entry one in
      let yes : (client == one) ≡ true = eq-eqb client one (sym same) in
      let step : calls_in further one ≡ calls_in part one + 1 = pushed ∙ ap (λ b. calls_in part one + cond b 1 0) yes in
      let here : get_or (set core.counts.calls client more) one 0 ≡ more =
      ap (λ k. get_or (set core.counts.calls client more) k 0) same ∙ get_or-set_same core.counts.calls client more 0 (omega (arith, may.client_in, places.calls_sized)) in
      omega (arith, here, step, stands.counts.calls client may.client_in, ap (calls_in part) same, few, short))
      (λ (other : one ≡ client → ⊥).
      let pushed : calls_in further one ≡ calls_in part one + cond (client == one) 1 0 = calls_in-push part entry one in
      let no : (client == one) ≡ false = ne_eqb client one (λ same. other (sym same)) in
      let step : calls_in further one ≡ calls_in part one + 0 = pushed ∙ ap (λ b. calls_in part one + cond b 1 0) no in
      let here : get_or (set core.counts.calls client more) one 0 ≡ get_or core.counts.calls one 0 = get_or-set_other core.counts.calls client one more 0 other in
      omega (arith, here, step, stands.counts.calls one within))
      (cases_eq one client)

  pub calls_sized : length (with_call core client).counts.calls ≡ CLIENTS
  calls_sized = length-set core.counts.calls client (one_more (get_or core.counts.calls client 0)) ∙ places.calls_sized

  pub counts_ready : AreCountsReady part entry (with_call core client).counts
  counts_ready = record {
    calls = calls_are;
    sends = stands.counts.sends ∙ sym (ap length (sent_in-push_none part entry refl));
    count = stands.counts.count;
    last = stands.counts.last;
  }

  -- a refused call changes nothing but the count of the client's calls
  pub Stands-refused : IsRefusal asked given → Stands further (entered (with_call core client) handed)
  Stands-refused refuses =
      Stands-quiet part core stands may.not_full places handed may.moment_in called (with_call core client).counts due tt
      (record { accepts = refuses.accepts; takes = refl; grants = refuses.grants; uses = refuses.uses; lends = λ peer conit. refl; gives = λ peer conit. refl })
      calls_sized counts_ready

  -- one that accepts no write may change what is reserved
  pub Stands-reserved : accepted_in entry ≡ None
      → (reserves : List ℕ)
      → ((conit : ℕ) → conit < core.setup.conits → get_or reserves conit 0 ≡ reserved further conit)
      → Stands further (entered (record (with_call core client) { budgets = record core.budgets { reserved = reserves } }) handed)
  Stands-reserved accepts reserves are =
      let after : Core = record (with_call core client) { budgets = record core.budgets { reserved = reserves } } in
      let kept = core.budgets in
      let before = stands.budgets in
      let placed : HasPlaces after =
      record {
        among = places.among;
        bases_sized = places.bases_sized;
        logs_sized = places.logs_sized;
        covers_sized = places.covers_sized;
        known_sized =
            places.known_sized;
        calls_sized = calls_sized;
      } in
      Stands-entered part entry after handed
      (record {
        before = stands.is_part;
        is_part = goes_on part core stands may.not_full places.among handed may.moment_in called due tt;
        grows = has_grown part core stands may.not_full places.among handed may.moment_in called due;
        writes = AreWritesReady-quiet part entry after stands.writes placed accepts refl;
        budgets = BudgetsStand-further core.setup core.replica part entry kept before refl kept.weights reserves kept.lent kept.returned
            (weights-same core.setup core.replica part entry kept before refl accepts)
            are
            (lent-same core.setup core.replica part entry kept before refl (λ peer conit. refl))
            (returned-same core.setup core.replica part entry kept before refl (λ peer conit. refl));
        counts = counts_ready;
      }) refl placed refl

  -- What is reserved where an amount on a conit is granted, or used.
  module _ (at amount : ℕ) (at_in : at < core.setup.conits) (sized : length core.budgets.reserved ≡ core.setup.conits) where
    abbrev before : ℕ
    before = get_or core.budgets.reserved at 0

    -- elsewhere nothing changes, and there it is the new number
    changed : (number : ℕ)
        → ((conit : ℕ) → (conit ≡ at → ⊥) → (granted_by conit called ≡ 0) × (used_by conit called ≡ 0))
        → number ≡ reserved further at
        → (conit : ℕ)
        → conit < core.setup.conits
        → get_or (set core.budgets.reserved at number) conit 0 ≡ reserved further conit
    changed number elsewhere here conit within = ⊎_elim
        (λ (same : conit ≡ at).
        ap (λ k. get_or (set core.budgets.reserved at number) k 0) same
        ∙ get_or-set_same core.budgets.reserved at number 0 (omega (arith, at_in, sized)) ∙ here ∙ ap (reserved further) (sym same))
        (λ (other : conit ≡ at → ⊥).
        get_or-set_other core.budgets.reserved at conit number 0 other
        ∙ omega (
          arith,
          stands.budgets.reserved conit within,
          (elsewhere conit other).0,
          (elsewhere conit other).1,
          sum_by_push (λ (e : Entry). granted_by conit e.act)
              part entry,
          sum_by_push (λ (e : Entry). used_by conit e.act) part entry,
        ))
        (cases_eq conit at)

    pub reserved-more : ((conit : ℕ) → granted_by conit called ≡ cond (at == conit) amount 0)
        → ((conit : ℕ) → used_by conit called ≡ 0)
        → (conit : ℕ)
        → conit < core.setup.conits
        → get_or (set core.budgets.reserved at (before + amount)) conit 0 ≡ reserved further conit
    reserved-more grants uses = changed (before + amount)
        (λ conit other. (grants conit ∙ ap (λ b. cond b amount 0) (ne_eqb at conit (λ same. other (sym same))), uses conit))
        (omega (
          arith,
          stands.budgets.reserved at at_in,
          (KeepsShares-part core.setup core.replica part stands.is_part).used at,
          grants at
              ∙ ap (λ b. cond b amount 0) (eq-eqb at at refl),
          uses at,
          sum_by_push (λ (e : Entry). granted_by at e.act) part entry,
          sum_by_push (λ (e : Entry). used_by at e.act) part entry,
        ))

    pub reserved-less : ((conit : ℕ) → granted_by conit called ≡ 0)
        → ((conit : ℕ) → used_by conit called ≡ cond (at == conit) amount 0)
        → (conit : ℕ)
        → conit < core.setup.conits
        → get_or (set core.budgets.reserved at (before - amount)) conit 0 ≡ reserved further conit
    reserved-less grants uses = changed (before - amount)
        (λ conit other. (grants conit, uses conit ∙ ap (λ b. cond b amount 0) (ne_eqb at conit (λ same. other (sym same)))))
        (omega (
          arith,
          stands.budgets.reserved at at_in,
          grants at,
          uses at
              ∙ ap (λ b. cond b amount 0) (eq-eqb at at refl),
          sum_by_push (λ (e : Entry). granted_by at e.act) part entry,
          sum_by_push (λ (e : Entry). used_by at e.act) part entry,
        ))
