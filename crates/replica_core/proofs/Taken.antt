-- A message that is taken: the replica stands for its part with that take.
use Rattle.std.proofs.Common.{◌≡◌, ◌≢◌, ℕ, ◌-◌, ◌<◌, ◌≤◌, max, false, cond, List, [], ◌∷◌, ◌++◌, length, get_or, slice_index, map, drop, All, refl, sym, ap, ap₂, ◌∙◌, subst, ⊎_elim, arith}
use Rattle.std.specs.List.{range_with_len}
use Rattle.std.proofs.lemmas.List.Sums.{sum_by_push}
use Rattle.std.proofs.lemmas.Bool.{cases_eq, eq-eqb, ne_eqb}
use Rattle.std.proofs.lemmas.List.{drop-drop, length-drop, length-map}
use Rattle.std.proofs.lemmas.List.Elements.{All-weaker}
use Rattle.std.proofs.lemmas.List.FromFn.{fill_by_all}
use Rattle.tact_base.proofs.ListLemmas.{All-range, flat_map_agree}
use Rattle.tact_base.specs.Setup.{Setup, loan_of}
use Rattle.tact_base.specs.WriteOrder.{in_order}
use Rattle.tact_base.specs.declared.limits.TheConstants.{MOMENT_MAX}
use Rattle.tact_base.specs.declared.conit_list.Weight.{Weight}
use Rattle.tact_base.specs.declared.write.Cover.{Cover}
use Rattle.tact_base.specs.declared.write.Write.{Write}
use Rattle.run_model.specs.Histories.{greatest, last_moment}
use Rattle.run_model.specs.Loans.{lent_known}
use Rattle.run_model.specs.Missing.{reserved, granted_by, used_by}
use Rattle.run_model.specs.Order.{point}
use Rattle.run_model.specs.OwnWrites.{own}
use Rattle.run_model.specs.Runs.{IsDue, Fits}
use Rattle.run_model.specs.Taking.{OriginState, origin_state, after_taking, log_of, have, known, told_have, told_cover, told_first, told_writes}
use Rattle.run_model.specs.declared.entry.Act.TheVariants as act
use Rattle.run_model.specs.declared.entry.Entry.{Entry}
use Rattle.run_model.specs.declared.entry.Message.{Message}
use Rattle.run_model.proofs.Accepted.{log_of-same, log_of-other}
use Rattle.run_model.proofs.ClockLemmas.{clock-taken}
use Rattle.run_model.proofs.PartLemmas.{own-push_none, origin_state-push_some, sent_in-push_none, calls_in-push}
use Rattle.run_model.proofs.SoundViews.{cover_of-other}
use Rattle.run_promises.proofs.LoanSteps.{most_told, most_told-push_some, lent-push, returned-push}
use Rattle.split_budget.specs.Budgets.{BudgetState, lent_to, returned_to}
use Rattle.replica_core.specs.States.{Core, WritesKept, HasPlaces, IsKept, log_at, entered, is_full}
use Rattle.replica_core.specs.Stands.{Stands, BudgetsStand}
use Rattle.replica_core.specs.Trimming.{trimmed}
use Rattle.replica_core.specs.Taking.{FitsAt, added_at, kept_at, raised_by, AreWritesTaken, AreBudgetsTaken}
use Rattle.replica_core.proofs.StandsByPlace.{log_at-part, cover_at-part}
use Rattle.replica_core.proofs.StandsAfterEntry.{AreWritesReady, IsReadyToEnter, WritesHeld-entered, CountsStand-entered}
use Rattle.replica_core.proofs.DueEntries.{entry_of, is_due, goes_on, has_grown}
use Rattle.replica_core.proofs.TrimmedStands.{WritesStand-trimmed}

-- Where a replica stands for a part, the messages that it can take are those that fit the part.
module _ (part : List Entry) (core : Core) (stands : Stands part core) (among : core.replica < core.setup.replicas) (message : Message) where
  has : (origin : ℕ) → origin < core.setup.replicas → length (log_at core origin) ≡ have core.replica part origin
  has origin within = ap length (log_at-part part core stands.writes origin within)

  abbrev AreAbove : ℕ → List Write → Type 0
  AreAbove point writes = All (λ (write : Write). (point < write.stamp) × (write.stamp ≤ (told_cover message message.from).stamp)) writes

  abbrev added : ℕ → ℕ → List Write
  added origin count = drop (count - told_first message origin) (told_writes message origin)

  pub Fits-part : FitsAt core message → Fits core.setup core.replica part message
  Fits-part fits = record {
    in_range = fits.in_range;
    addressed = fits.addressed;
    own_have = omega (arith, fits.own_have, has core.replica among);
    returned = λ conit within. omega (arith, fits.returned conit within, stands.budgets.lent message.from conit fits.in_range.from (λ same. fits.in_range.others (same ∙ sym fits.addressed)) within);
    stamps = λ origin within reaches.
        subst (λ (count : ℕ). AreAbove (point core.setup core.replica part) (added origin count)) (has origin within)
        (subst (λ (p : ℕ). AreAbove p (added_at core message origin)) stands.writes.point (fits.stamps origin within (omega (arith, reaches, has origin within))));
  }

  pub FitsAt-part : Fits core.setup core.replica part message → FitsAt core message
  FitsAt-part fits = record {
    in_range = fits.in_range;
    addressed = fits.addressed;
    own_have = omega (arith, fits.own_have, has core.replica among);
    returned = λ conit within. omega (arith, fits.returned conit within, stands.budgets.lent message.from conit fits.in_range.from (λ same. fits.in_range.others (same ∙ sym fits.addressed)) within);
    stamps = λ origin within reaches.
        subst (λ (count : ℕ). AreAbove core.writes.point (added origin count)) (sym (has origin within))
        (subst (λ (p : ℕ). AreAbove p (added origin (have core.replica part origin))) (sym stands.writes.point) (fits.stamps origin within (omega (arith, reaches, has origin within))));
  }

-- What is known of peers with one more message taken.
module _ (part : List Entry) (message : Message) (replica moment : ℕ) where
  abbrev taken : Entry
  taken = record { replica = replica; moment = moment; act = act.Take message }

  abbrev further : List Entry
  further = part ++ taken ∷ []

  most_told-taken : (tells : Message → ℕ) (peer : ℕ)
      → most_told tells further peer ≡ raised_by message peer (most_told tells part peer) (tells message)
  most_told-taken tells peer =
      most_told-push_some part taken tells peer message refl
      ∙ ⊎_elim
      (λ (same : peer ≡ message.from). rw (eq-eqb message.from peer (sym same), eq-eqb peer message.from same) (omega arith))
      (λ (other : peer ≡ message.from → ⊥). rw (ne_eqb message.from peer (λ same. other (sym same)), ne_eqb peer message.from other) (omega arith))
      (cases_eq peer message.from)

  lent_known-taken : (setup : Setup) (owner conit : ℕ)
      → lent_known setup replica further owner conit ≡ raised_by message owner (lent_known setup replica part owner conit) (slice_index message.lent conit)
  lent_known-taken setup owner conit =
      let tells = λ (m : Message). slice_index m.lent conit in
      let loan = loan_of setup owner conit replica in
      ap (max loan) (most_told-taken tells owner)
      ∙ ⊎_elim
      (λ (same : owner ≡ message.from). rw (eq-eqb owner message.from same) (omega arith))
      (λ (other : owner ≡ message.from → ⊥). rw (ne_eqb owner message.from other) refl)
      (cases_eq owner message.from)

-- A replica with what it keeps of writes and budgets after a message.
module _ (part : List Entry) (core : Core) (stands : Stands part core) (free : is_full core ≡ false) (places : HasPlaces core) (handed : ℕ)
    (handed_in : handed ≤ MOMENT_MAX) (message : Message) (fits : FitsAt core message)
    (writes : WritesKept) (budgets : BudgetState) where
  abbrev entry : Entry
  entry = entry_of core.replica part handed (act.Take message)

  abbrev after : Core
  after = record core { writes = writes; budgets = budgets }

  module _ (are_writes : AreWritesTaken core after message) (are_budgets : AreBudgetsTaken core.setup core.replica core.budgets budgets message) (kept : IsKept after) where
    kept_other : (origin : ℕ)
        → origin < core.setup.replicas
        → (origin ≡ core.replica → ⊥)
        → kept_at after origin ≡ origin_state (part ++ entry ∷ []) origin
    kept_other origin within other =
        let was : kept_at core origin ≡ origin_state part origin =
        ap₂ (λ (log : List Write) (cover : Cover). let k : OriginState = record { log = log; cover = cover } in k)
        (log_at-part part core stands.writes origin within ∙ log_of-other core.replica part origin other)
        (cover_at-part part core stands.writes origin within ∙ cover_of-other core.replica part (last_moment part) origin other) in
        are_writes.kept origin within
        ∙ ap (λ yes. cond yes (kept_at core origin) (after_taking origin (kept_at core origin) message)) (ne_eqb origin core.replica other)
        ∙ ap (λ (k : OriginState). after_taking origin k message) was
        ∙ sym (origin_state-push_some part entry origin message refl)

    kept_own : kept_at after core.replica ≡ kept_at core core.replica
    kept_own =
        are_writes.kept core.replica places.among
        ∙ ap (λ yes. cond yes (kept_at core core.replica) (after_taking core.replica (kept_at core core.replica) message)) (eq-eqb core.replica core.replica refl)

    logs_are : (origin : ℕ)
        → origin < core.setup.replicas
        → log_at after origin ≡ log_of core.replica (part ++ entry ∷ []) origin
    logs_are origin within = ⊎_elim
        (λ (same : origin ≡ core.replica).
        ap (log_at after) same ∙ ap (λ (k : OriginState). k.log) kept_own ∙ log_at-part part core stands.writes core.replica places.among ∙ log_of-same core.replica part
        ∙ sym (own-push_none part entry refl) ∙ sym (log_of-same core.replica (part ++ entry ∷ [])) ∙ ap (log_of core.replica (part ++ entry ∷ [])) (sym same))
        (λ (other : origin ≡ core.replica → ⊥).
        ap (λ (k : OriginState). k.log) (kept_other origin within other) ∙ sym (log_of-other core.replica (part ++ entry ∷ []) origin other))
        (cases_eq origin core.replica)

    writes_ready : AreWritesReady part entry after
    writes_ready = record {
      bases = are_writes.bases ∙ stands.writes.bases;
      logs = fill_by_all (log_of core.replica (part ++ entry ∷ [])) writes.logs core.setup.replicas [] kept.places.logs_sized logs_are;
      covers = λ origin within other. ap (λ (k : OriginState). k.cover) (kept_other origin within other);
      own = ap (λ (k : OriginState). k.cover) kept_own ∙ cover_at-part part core stands.writes core.replica places.among;
      known = λ peer origin peer_in origin_in.
          are_writes.known peer origin peer_in origin_in
          ∙ ap (λ (n : ℕ). raised_by message peer n (told_have message origin)) (stands.writes.known peer origin peer_in origin_in)
          ∙ sym (most_told-taken part message core.replica entry.moment (λ (m : Message). told_have m origin) peer);
      seen =
          kept.between.ordered
          ∙ ap in_order (flat_map_agree (log_at after) (log_of core.replica (part ++ entry ∷ [])) (range_with_len 0 core.setup.replicas)
          (All-range (λ origin. log_at after origin ≡ log_of core.replica (part ++ entry ∷ []) origin) 0 core.setup.replicas (λ origin low high. logs_are origin (omega (arith, high)))));
      dropped = are_writes.dropped ∙ stands.writes.dropped;
      clock =
          are_writes.clock ∙ ap (λ (n : ℕ). max n (greatest (map (λ (cover : Cover). cover.stamp) message.covers))) stands.writes.clock
          ∙ sym (clock-taken part entry message refl refl);
    }

    budgets_ready : BudgetsStand core.setup core.replica (part ++ entry ∷ []) budgets
    budgets_ready =
        let before = stands.budgets in
        let old = core.budgets in
        record {
          given_up = given_up_within;
          had = λ peer within other.
              omega (arith, are_budgets.rows.had peer within other, known_is peer within other);
          weights = rows_are;
          known = known_is;
          reserved = λ conit within.
              ap (λ (b : BudgetState). get_or b.reserved conit 0) are_budgets.same ∙ before.reserved conit within
              ∙ sym (reserved-taken conit);
          lent = λ peer conit peer_in other conit_in.
              ap (λ (b : BudgetState). lent_to b peer conit) are_budgets.same ∙ before.lent peer conit peer_in other conit_in
              ∙ sym (omega (arith, lent-push part entry core.setup core.replica peer conit));
          lent_known = λ peer conit peer_in other conit_in.
              are_budgets.lent peer conit peer_in other conit_in
              ∙ ap (λ (n : ℕ). raised_by message peer n (slice_index message.lent conit)) (before.lent_known peer conit peer_in other conit_in)
              ∙ sym (lent_known-taken part message core.replica entry.moment core.setup peer conit);
          returned = λ peer conit peer_in other conit_in.
              ap (λ (b : BudgetState). returned_to b peer conit) are_budgets.same ∙ before.returned peer conit peer_in other conit_in
              ∙ sym (omega (arith, returned-push part entry peer conit));
          returned_known = λ peer conit peer_in other conit_in.
              are_budgets.returned peer conit peer_in other conit_in
              ∙ ap (λ (n : ℕ). raised_by message peer n (slice_index message.returned conit)) (before.returned_known peer conit peer_in other conit_in)
              ∙ sym (most_told-taken part message core.replica entry.moment (λ (m : Message). slice_index m.returned conit) peer);
        }
      where
        known_is : (peer : ℕ)
            → peer < core.setup.replicas
            → peer ≢ core.replica
            → slice_index budgets.known peer ≡ known (part ++ entry ∷ []) peer core.replica
        known_is peer within other =
            are_budgets.known peer within other
            ∙ ap (λ (n : ℕ). raised_by message peer n (told_have message core.replica)) (stands.budgets.known peer within other)
            ∙ sym (most_told-taken part message core.replica entry.moment (λ (m : Message). told_have m core.replica) peer)

        rows_of : List Entry → List (List Weight)
        rows_of part = map (λ (write : Write). write.weights) (own part)

        same_rows : rows_of (part ++ entry ∷ []) ≡ rows_of part
        same_rows = ap (map (λ (write : Write). write.weights)) (own-push_none part entry refl)

        given_up_within : budgets.given_up ≤ length (own (part ++ entry ∷ []))
        given_up_within =
            omega (
              arith,
              are_budgets.rows.within,
              ap length stands.budgets.weights,
              length-drop core.budgets.given_up (rows_of part),
              length-map (own part)
                  (λ (write : Write). write.weights),
              stands.budgets.given_up,
              ap length (own-push_none part entry refl),
            )

        rows_are : budgets.weights ≡ drop budgets.given_up (rows_of (part ++ entry ∷ []))
        rows_are =
            are_budgets.rows.weights ∙ ap (drop (budgets.given_up - core.budgets.given_up)) stands.budgets.weights
            ∙ drop-drop (budgets.given_up - core.budgets.given_up) core.budgets.given_up (rows_of part)
            ∙ ap (λ (n : ℕ). drop n (rows_of part)) (omega (arith, are_budgets.rows.rises)) ∙ ap (drop budgets.given_up) (sym same_rows)

        reserved-taken : (conit : ℕ) → reserved (part ++ entry ∷ []) conit ≡ reserved part conit
        reserved-taken conit = omega (arith, sum_by_push (λ (e : Entry). granted_by conit e.act) part entry, sum_by_push (λ (e : Entry). used_by conit e.act) part entry)

    -- and what it gives up then is what is given up after the part
    pub Stands-taken : Stands (part ++ entry ∷ []) (trimmed (entered after handed))
    Stands-taken =
        let due : IsDue core.setup part entry = is_due part core stands free places.among handed handed_in (act.Take message) (fits.in_range, fits.addressed) fits.addressed in
        let ready : IsReadyToEnter part entry after = record {
          before = stands.is_part;
          is_part = goes_on part core stands free places.among handed handed_in (act.Take message) due (Fits-part part core stands places.among message fits);
          grows = has_grown part core stands free places.among handed handed_in (act.Take message) due;
          writes = writes_ready;
          budgets = budgets_ready;
          counts = record {
            calls = λ client within. stands.counts.calls client within ∙ sym (calls_in-push part entry client ∙ omega arith);
            sends = stands.counts.sends ∙ sym (ap length (sent_in-push_none part entry refl));
            count = stands.counts.count;
            last = stands.counts.last;
          };
        } in
        let entered_in : All (λ (write : Write). write.origin < core.setup.replicas) writes.seen =
        All-weaker (λ (write : Write). (write.origin < core.setup.replicas) × (write.index < length (log_at after write.origin)))
        (λ (write : Write). write.origin < core.setup.replicas) (λ write placed. placed.0) writes.seen kept.between.placed in
        record {
          is_part = ready.is_part;
          writes = WritesStand-trimmed part entry message refl (entered after handed) ready.is_part stands.is_part entered_in (WritesHeld-entered part entry after handed ready refl kept.places);
          budgets = ready.budgets;
          counts = CountsStand-entered part entry after handed ready refl kept.places;
        }
