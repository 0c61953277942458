-- A write that a client asked for is accepted: the replica stands for its part with that call.
use Rattle.std.proofs.Common.{◌≡◌, ℕ, ◌+◌, ◌<◌, max, List, [], ◌∷◌, ◌++◌, length, get_or, flat_map, All, Option, Some, refl, sym, ap, ap₂, ◌∙◌, ⊎_elim, arith, get_or-set_same, get_or-set_other}
use Rattle.std.proofs.lemmas.Bool.{cases_eq}
use Rattle.std.proofs.lemmas.List.{length-set}
use Rattle.std.proofs.lemmas.List.FromFn.{fill_by_all}
use Rattle.tact_base.proofs.CompareLemmas.{AreApart}
use Rattle.tact_base.proofs.ListLemmas.{All-flat_map, All-range}
use Rattle.tact_base.specs.Setup.{replicas_of}
use Rattle.tact_base.specs.WriteOrder.{with_write}
use Rattle.tact_base.specs.declared.conit_list.Weight.{Weight}
use Rattle.tact_base.specs.declared.write.Op.{Op}
use Rattle.tact_base.specs.declared.write.Write.{Write}
use Rattle.run_model.specs.Histories.{moment_at}
use Rattle.run_model.specs.Missing.{reserved}
use Rattle.run_model.specs.Order.{seen}
use Rattle.run_model.specs.OwnWrites.{asked_write, accepted_as}
use Rattle.run_model.specs.Replies.{done, reply_of}
use Rattle.run_model.specs.Taking.{OriginState, log_of, have}
use Rattle.run_model.specs.declared.call.Reply.{Reply}
use Rattle.run_model.specs.declared.call.Reply.TheVariants as reply
use Rattle.run_model.specs.declared.call.Request.{Request}
use Rattle.run_model.specs.declared.entry.Entry.{Entry}
use Rattle.run_model.proofs.Accepted.{log_of-same, log_of-other}
use Rattle.run_model.proofs.ClockLemmas.{clock-accepted}
use Rattle.run_model.proofs.PartLemmas.{accepted_in, own-push_some, origin_state-push_none, known-push_none}
use Rattle.run_model.proofs.SoundViews.{cover_of-other}
use Rattle.run_promises.proofs.PartSound.{PartSound-part}
use Rattle.run_promises.proofs.PartViews.{PartSound-log}
use Rattle.replica_core.specs.Calling.{MayAsk, left_reserved, accepted}
use Rattle.replica_core.specs.States.{Core, HasPlaces, log_at, next_write, entered}
use Rattle.replica_core.specs.Stands.{Stands, BudgetsStand}
use Rattle.replica_core.proofs.AdmitLemmas.{in_order-one_more}
use Rattle.replica_core.proofs.Called as call
use Rattle.replica_core.proofs.DueEntries.{goes_on, has_grown}
use Rattle.replica_core.proofs.QuietEntries.{weights-more, lent-same, returned-same, BudgetsStand-further}
use Rattle.replica_core.proofs.StandsAfterEntry.{IsReadyToEnter, Stands-entered}
use Rattle.replica_core.proofs.StandsByPlace.{log_at-part, cover_at-part}

module _ (part : List Entry) (core : Core) (stands : Stands part core) (places : HasPlaces core) where
  -- the reply to a write that is accepted
  abbrev pub accepts_as : Reply
  accepts_as = reply.Done (length (log_at core core.replica)) (core.writes.clock + 1)

  own_size : length (log_at core core.replica) ≡ have core.replica part core.replica
  own_size = ap length (log_at-part part core stands.writes core.replica places.among)

  pub accepts_as-part : accepts_as ≡ done core.replica part
  accepts_as-part = ap₂ (λ (n s : ℕ). reply.Done n (s + 1)) own_size stands.writes.clock

  module _ (handed client : ℕ) (asked : Request) (may : MayAsk core handed client asked) (is : accepts_as ≡ reply_of core.setup core.replica part (moment_at part handed) asked)
      (weights : List Weight) (op : Op) (asks : asked_write asked ≡ Some (weights, op)) (held : Option Weight) where
    abbrev entry : Entry
    entry = call.entry part core stands places handed client asked may accepts_as is

    abbrev further : List Entry
    further = part ++ entry ∷ []

    abbrev write : Write
    write = next_write core handed weights op

    abbrev after : Core
    after = accepted core client write held

    accepts : accepted_in entry ≡ Some write
    accepts =
        ap (λ (asked : Option (List Weight × Op)). accepted_as core.replica (moment_at part handed) asked (Some (length (log_at core core.replica), core.writes.clock + 1))) asks
        ∙ ap (λ (m : ℕ). let w : Write = record write { moment = m } in Some w) (sym (ap (max handed) stands.counts.last))

    logs_are : (origin : ℕ)
        → origin < core.setup.replicas
        → get_or after.writes.logs origin [] ≡ log_of core.replica further origin
    logs_are origin within = ⊎_elim
        (λ (same : origin ≡ core.replica).
        ap (λ o. get_or after.writes.logs o []) same
        ∙ get_or-set_same core.writes.logs core.replica (log_at core core.replica ++ write ∷ []) [] (omega (arith, places.among, places.logs_sized))
        ∙ ap (λ log. log ++ write ∷ []) (log_at-part part core stands.writes core.replica places.among ∙ log_of-same core.replica part)
        ∙ sym (own-push_some part entry write accepts) ∙ sym (log_of-same core.replica further)
        ∙ ap (log_of core.replica further) (sym same))
        (λ (other : origin ≡ core.replica → ⊥).
        get_or-set_other core.writes.logs core.replica origin (log_at core core.replica ++ write ∷ []) [] other
        ∙ log_at-part part core stands.writes origin within ∙ log_of-other core.replica part origin other
        ∙ sym (ap (λ (k : OriginState). k.log) (origin_state-push_none part entry origin refl)) ∙ sym (log_of-other core.replica further origin other))
        (cases_eq origin core.replica)

    -- no write that it has is this one
    apart : All (λ (held : Write). AreApart held write) (flat_map (log_of core.replica part) (replicas_of core.setup))
    apart =
        All-flat_map (λ (held : Write). AreApart held write) (log_of core.replica part) (replicas_of core.setup)
        (All-range (λ origin. All (λ (held : Write). AreApart held write) (log_of core.replica part origin)) 0 core.setup.replicas (λ origin low high k d inside same index.
        let log = PartSound-log core.setup core.replica part (PartSound-part core.setup core.replica part stands.is_part) origin (omega (arith, high)) in
        let here : origin ≡ core.replica = sym (log.origins k d inside) ∙ same in
        absurd (omega (arith, log.indices k d inside, index, inside, own_size, ap (λ o. length (log_of core.replica part o)) here))))

    seen_is : with_write write core.writes.seen ≡ seen core.setup core.replica further
    seen_is =
        ap (with_write write) stands.writes.seen
        ∙ sym (in_order-one_more (log_of core.replica part) (log_of core.replica further) core.replica write core.setup.replicas places.among
        (log_of-same core.replica further ∙ own-push_some part entry write accepts ∙ ap (λ log. log ++ write ∷ []) (sym (log_of-same core.replica part)))
        (λ origin other. log_of-other core.replica further origin other ∙ ap (λ (k : OriginState). k.log) (origin_state-push_none part entry origin refl)
        ∙ sym (log_of-other core.replica part origin other))
        apart)

    -- where what is reserved then is what the definitions say of the part with the call
    module _ (left : (conit : ℕ) → conit < core.setup.conits → get_or (left_reserved core.budgets held) conit 0 ≡ reserved further conit) where
      budgets_are : BudgetsStand core.setup core.replica further after.budgets
      budgets_are =
          let kept = core.budgets in
          let before = stands.budgets in
          BudgetsStand-further core.setup core.replica part entry kept before refl (kept.weights ++ weights ∷ []) (left_reserved kept held) kept.lent kept.returned
          (weights-more core.setup core.replica part entry kept before refl write accepts)
          left
          (lent-same core.setup core.replica part entry kept before refl (λ peer conit. refl))
          (returned-same core.setup core.replica part entry kept before refl (λ peer conit. refl))

      pub Stands-accepted : Stands further (entered after handed)
      Stands-accepted =
          let due = call.due part core stands places handed client asked may accepts_as is in
          let done = call.called part core stands places handed client asked may accepts_as is in
          let placed : HasPlaces after = record {
            among = places.among;
            bases_sized = places.bases_sized;
            logs_sized = length-set core.writes.logs core.replica (log_at core core.replica ++ write ∷ []) ∙ places.logs_sized;
            covers_sized = places.covers_sized;
            known_sized = places.known_sized;
            calls_sized = call.calls_sized part core stands places handed client asked may accepts_as is;
          } in
          let ready : IsReadyToEnter part entry after = record {
            before = stands.is_part;
            is_part = goes_on part core stands may.not_full places.among handed may.moment_in done due tt;
            grows = has_grown part core stands may.not_full places.among handed may.moment_in done due;
            writes = record {
              bases = stands.writes.bases;
              logs = fill_by_all (log_of core.replica further) after.writes.logs core.setup.replicas [] placed.logs_sized logs_are;
              covers = λ origin within other.
                  cover_at-part part core stands.writes origin within ∙ cover_of-other core.replica part _ origin other
                  ∙ sym (ap (λ (k : OriginState). k.cover) (origin_state-push_none part entry origin refl));
              own = cover_at-part part core stands.writes core.replica places.among;
              known = λ peer origin peer_in origin_in. stands.writes.known peer origin peer_in origin_in ∙ sym (known-push_none part entry peer origin refl);
              seen = seen_is;
              dropped = stands.writes.dropped;
              clock = omega (arith, stands.writes.clock, clock-accepted part entry write accepts refl);
            };
            budgets = budgets_are;
            counts = call.counts_ready part core stands places handed client asked may accepts_as is;
          } in
          Stands-entered part entry after handed ready refl placed refl
