-- A replica that has done nothing: it stands for the empty part.
use Rattle.std.proofs.Common.{◌≡◌, ℕ, ◌+◌, ◌*◌, ◌/◌, ◌%◌, ◌<◌, ◌≤◌, nat_lt, List, [], take, length, get_or, replicate, refl, sym, ap, ap₂, ◌∙◌, ⊎_elim, subst, arith}
use Rattle.std.specs.List.{range_with_len, prefix_len}
use Rattle.std.proofs.lemmas.Bool.{cases_eq, cases_lt}
use Rattle.std.proofs.lemmas.List.{get_or-replicate, length-replicate, get_or_past, get_or-map, length-map}
use Rattle.std.proofs.lemmas.List.FromFn.{length-map-range_with_len, fill_by_all}
use Rattle.std.proofs.lemmas.Nat.{mul-add-lt, div-mul-add, mod-mul-add}
use Rattle.std.proofs.lemmas.List.Elements.{All-nil}
use Rattle.tact_base.proofs.CoversLemmas.{least_of-is_least, least_stamp-le}
use Rattle.tact_base.proofs.ListLemmas.{flat_map_none, get_or-map_range}
use Rattle.tact_base.specs.Covers.{no_cover}
use Rattle.tact_base.specs.Setup.{Setup, IsSetup, replicas_of, place_of, loan_of}
use Rattle.tact_base.specs.WriteOrder.{in_order, committed_to}
use Rattle.tact_base.specs.declared.limits.TheConstants.{CLIENTS}
use Rattle.tact_base.specs.declared.write.Cover.{Cover}
use Rattle.tact_base.specs.declared.write.Write.{Write}
use Rattle.run_model.specs.Taking.{log_of, cover_of, covers_of}
use Rattle.run_model.specs.Order.{point, seen, committed}
use Rattle.run_model.specs.Runs.{MayFollow}
use Rattle.run_model.proofs.PrefixLemmas.{EachAfter-nil}
use Rattle.run_model.proofs.Accepted.{log_of-same, log_of-other}
use Rattle.run_model.proofs.SoundViews.{cover_of-same, cover_of-other}
use Rattle.split_budget.specs.Budgets.{BudgetState, by_place, opening}
use Rattle.write_log.specs.Logs.{LogState}
use Rattle.replica_core.specs.Dropped.{known_all, past_of, dropped, dropped_of}
use Rattle.replica_core.specs.Seen.{SeenState}
use Rattle.replica_core.specs.States.{Core, IsKept}
use Rattle.replica_core.specs.Stands.{Stands, WritesStand, BudgetsStand}
use Rattle.replica_core.proofs.LentLemmas.{AreLentBy-opening}
use Rattle.replica_core.proofs.StandsByPlace.{stamps_of}

-- nothing is seen
abbrev pub no_seen : ℕ → SeenState
no_seen conits = record { conits = conits; writes = []; dropped = 0; point = 0; room = 0 }

-- a replica of empty logs and covers
abbrev pub new_core : Setup → ℕ → Core
new_core setup replica = record {
  setup = setup;
  replica = replica;
  writes = record {
    bases = replicate setup.replicas 0;
    logs = replicate setup.replicas [];
    covers = replicate setup.replicas no_cover;
    known = replicate (setup.replicas * setup.replicas) 0;
    seen = [];
    dropped = 0;
    point = 0;
    clock = 0;
  };
  budgets = opening setup replica 0;
  counts = record { calls = replicate CLIENTS 0; sends = 0; count = 0; last = 0 };
}

module _ (setup : Setup) (replica : ℕ) (among : replica < setup.replicas) where
  no_log : (origin : ℕ) → log_of replica [] origin ≡ []
  no_log origin = ⊎_elim
      (λ (same : origin ≡ replica). ap (log_of replica []) same ∙ log_of-same replica [])
      (λ (other : origin ≡ replica → ⊥). log_of-other replica [] origin other)
      (cases_eq origin replica)

  cover_nothing : (at origin : ℕ) → at ≡ 0 → cover_of replica [] at origin ≡ no_cover
  cover_nothing at origin zero = ⊎_elim
      (λ (same : origin ≡ replica). ap (cover_of replica [] at) same ∙ cover_of-same replica [] at ∙ ap (λ (m : ℕ). let c : Cover = record { count = 0; stamp = 0; moment = m } in c) zero)
      (λ (other : origin ≡ replica → ⊥). cover_of-other replica [] at origin other)
      (cases_eq origin replica)

  point_zero : 0 ≡ point setup replica []
  point_zero =
      let covers = covers_of setup replica [] 0 in
      let stamp = λ (cover : Cover). cover.stamp in
      let least = least_of-is_least (stamps_of covers) in
      let size : length covers ≡ setup.replicas = length-map-range_with_len (cover_of replica [] 0) 0 setup.replicas in
      let first : get_or (stamps_of covers) replica 0 ≡ 0 =
      get_or-map stamp covers replica no_cover 0 (omega (arith, among, size))
      ∙ ap stamp (get_or-map_range (cover_of replica [] 0) setup.replicas replica no_cover among) ∙ ap stamp (cover_nothing 0 replica refl) in
      omega (arith, first, least replica 0 (omega (arith, among, size, length-map covers stamp)))

  none_seen : seen setup replica [] ≡ []
  none_seen = ap in_order (flat_map_none (log_of replica []) (replicas_of setup) (λ k d within. no_log _))

  -- nothing is committed, so nothing is given up
  none_committed : committed setup replica [] ≡ []
  none_committed = ap (committed_to (point setup replica [])) none_seen

  none_dropped : dropped setup replica [] ≡ 0
  none_dropped = ap (prefix_len (λ (write : Write). nat_lt write.index (known_all setup replica [] write.origin))) none_committed

  none_dropped_of : (origin : ℕ) → dropped_of setup replica [] origin ≡ 0
  none_dropped_of origin = ap₂ (λ (n : ℕ) (ws : List Write). past_of (take n ws) origin) none_dropped none_committed

  WritesStand-new : WritesStand setup replica [] (new_core setup replica).writes
  WritesStand-new = record {
    bases = fill_by_all (dropped_of setup replica []) (replicate setup.replicas 0) setup.replicas 0 (length-replicate setup.replicas 0)
        (λ origin within. get_or-replicate setup.replicas origin 0 0 within ∙ sym (none_dropped_of origin));
    logs = fill_by_all (log_of replica []) (replicate setup.replicas []) setup.replicas [] (length-replicate setup.replicas [])
        (λ origin within. get_or-replicate setup.replicas origin [] [] within ∙ sym (no_log origin));
    covers = fill_by_all (cover_of replica [] 0) (replicate setup.replicas no_cover) setup.replicas no_cover (length-replicate setup.replicas no_cover)
        (λ origin within. get_or-replicate setup.replicas origin no_cover no_cover within ∙ sym (cover_nothing 0 origin refl));
    known = λ peer origin peer_in origin_in. get_or-replicate (setup.replicas * setup.replicas) (peer * setup.replicas + origin) 0 0
        (omega (arith, mul-add-lt peer setup.replicas origin setup.replicas peer_in origin_in));
    seen = sym none_seen;
    dropped = sym none_dropped;
    point = point_zero;
    clock = refl;
  }

  -- where a number stands among those by replica and then conit
  at_place : (number : ℕ → ℕ → ℕ) (peer conit : ℕ)
      → peer < setup.replicas
      → conit < setup.conits
      → get_or (by_place setup number) (place_of setup peer conit) 0 ≡ number peer conit
  at_place number peer conit peer_in conit_in =
      get_or-map_range (λ (place : ℕ). number (place / setup.conits) (place % setup.conits)) (setup.replicas * setup.conits) (place_of setup peer conit) 0
      (omega (arith, mul-add-lt peer setup.conits conit setup.replicas peer_in conit_in))
      ∙ ap₂ number (div-mul-add peer setup.conits conit conit_in) (mod-mul-add peer setup.conits conit conit_in)

  nothing_at : (peer conit : ℕ)
      → peer < setup.replicas
      → conit < setup.conits
      → (let none : ℕ = 0 in get_or (replicate (setup.replicas * setup.conits) none) (place_of setup peer conit) none ≡ none)
  nothing_at peer conit peer_in conit_in =
      get_or-replicate (setup.replicas * setup.conits) (place_of setup peer conit) 0 0 (omega (arith, mul-add-lt peer setup.conits conit setup.replicas peer_in conit_in))

  BudgetsStand-new : BudgetsStand setup replica [] (opening setup replica 0)
  BudgetsStand-new = record {
    given_up = omega arith;
    had = λ peer within other. omega arith;
    weights = refl;
    known = λ peer within other. get_or-replicate setup.replicas peer 0 0 within;
    reserved = λ conit within. get_or-replicate setup.conits conit 0 0 within;
    lent = λ peer conit peer_in other conit_in. omega (arith, at_place (λ (holder at : ℕ). loan_of setup replica at holder) peer conit peer_in conit_in);
    lent_known = λ peer conit peer_in other conit_in. omega (arith, at_place (λ (owner at : ℕ). loan_of setup owner at replica) peer conit peer_in conit_in);
    returned = λ peer conit peer_in other conit_in. nothing_at peer conit peer_in conit_in;
    returned_known = λ peer conit peer_in other conit_in. nothing_at peer conit peer_in conit_in;
  }

  pub Stands-new : Stands [] (new_core setup replica)
  Stands-new = record {
    is_part = EachAfter-nil (MayFollow setup replica);
    writes = WritesStand-new;
    budgets = BudgetsStand-new;
    counts = record { calls = λ client within. get_or-replicate CLIENTS client 0 0 within; sends = refl; count = refl; last = refl };
  }

  -- no log has a write
  no_list : (origin : ℕ) → (let none : List (List Write) = replicate setup.replicas [] in get_or none origin [] ≡ [])
  no_list origin = ⊎_elim
      (λ (within : origin < setup.replicas). get_or-replicate setup.replicas origin [] [] within)
      (λ (past : setup.replicas ≤ origin). get_or_past (replicate setup.replicas []) origin [] (omega (arith, past, length-replicate {A = List Write} setup.replicas [])))
      (cases_lt origin setup.replicas)

  no_base : (origin : ℕ) → origin < setup.replicas → (let none : ℕ = 0 in get_or (replicate setup.replicas none) origin none ≡ none)
  no_base origin within = get_or-replicate setup.replicas origin 0 0 within

  pub IsKept-new : IsSetup setup → IsKept (new_core setup replica)
  IsKept-new good = record {
    setup = good;
    places = record {
      among = among;
      bases_sized = length-replicate setup.replicas 0;
      logs_sized = length-replicate setup.replicas [];
      covers_sized = length-replicate setup.replicas no_cover;
      known_sized = length-replicate (setup.replicas * setup.replicas) 0;
      calls_sized = refl;
    };
    budgets = record { setup = refl; replica = refl };
    between = record {
      ordered = sym (ap in_order (flat_map_none (λ origin. get_or (replicate setup.replicas []) origin []) (range_with_len 0 setup.replicas) (λ k d within. no_list _)));
      placed = All-nil (λ (write : Write). (write.origin < setup.replicas) × (write.index < length (get_or (replicate setup.replicas []) write.origin [])));
      own = omega (arith, ap (λ (c : Cover). c.stamp) (get_or-replicate setup.replicas replica no_cover no_cover among));
      committed = omega (
        arith,
        least_stamp-le (replicate setup.replicas no_cover) replica no_cover (omega (arith, among, length-replicate setup.replicas no_cover)),
        ap
            (λ (c : Cover). c.stamp) (get_or-replicate setup.replicas replica no_cover no_cover among),
      );
    };
    bases = record {
      within = λ origin within. omega (arith, no_base origin within);
      had = λ peer origin peer_in origin_in apart other. omega (arith, no_base origin origin_in);
    };
    few = record { entries = omega arith; own = omega (arith, ap length (no_list replica)); each = λ origin. omega (arith, ap length (no_list origin)) };
    lent = AreLentBy-opening setup good replica among;
  }

-- so is one whose parts are equal to these
module _ (setup made : Setup) (replica : ℕ) (logs : LogState) (covers : List Cover) (known : List ℕ) (seen : SeenState) (budgets : BudgetState) (calls : List ℕ) (among : replica < setup.replicas)
    (is_setup : made ≡ setup) (is_logs : logs.logs ≡ replicate setup.replicas []) (is_bases : logs.bases ≡ replicate setup.replicas 0)
    (is_covers : covers ≡ replicate setup.replicas no_cover) (is_known : known ≡ replicate (setup.replicas * setup.replicas) 0)
    (is_seen : seen ≡ no_seen setup.conits) (is_budgets : record budgets { room = 0 } ≡ opening setup replica 0)
    (is_calls : calls ≡ replicate CLIENTS 0) where
  abbrev made_core : Core
  made_core = record {
    setup = made;
    replica = replica;
    writes = record {
      bases = logs.bases;
      logs = logs.logs;
      covers = covers;
      known = known;
      seen = seen.writes;
      dropped = seen.dropped;
      point = seen.point;
      clock = 0;
    };
    budgets = record budgets { room = 0 };
    counts = record { calls = calls; sends = 0; count = 0; last = 0 };
  }

  same_core : made_core ≡ new_core setup replica
  same_core = rw (is_setup, is_logs, is_bases, is_covers, is_known, is_seen, is_budgets, is_calls) refl

  pub Stands-made : Stands [] made_core
  Stands-made = subst (Stands []) (sym same_core) (Stands-new setup replica among)

  pub IsKept-made : IsSetup setup → IsKept made_core
  IsKept-made good = subst IsKept (sym same_core) (IsKept-new setup replica among good)
