-- What a message tells, in pieces of the logs, and the kept lists of them.
use Rattle.std.proofs.Common.{◌≡◌, ℕ, zero, suc, ◌+◌, ◌-◌, ◌<◌, ◌≤◌, min, List, [], ◌++◌, All, length, get_or, set, take, drop, replicate, refl, sym, ap, ◌∙◌, subst, ⊎_elim, arith}
use Rattle.std.proofs.lemmas.Bool.{cases_eq}
use Rattle.std.specs.List.{flat_map, range_with_len}
use Rattle.std.proofs.lemmas.List.{drop-take, drop_all, get_or-replicate, get_or-set_other, get_or-set_same, length-append, length-replicate, length-set, length-take, take-append-le, take_min}
use Rattle.std.proofs.lemmas.List.Elements.{All-weaker}
use Rattle.tact_base.proofs.ListLemmas.{All-range, flat_map_agree, flat_map_none}
use Rattle.tact_base.proofs.RangeLists.{flat_map_range_more}
use Rattle.tact_base.specs.declared.limits.TheConstants.{MESSAGE_WRITES, REPLICAS_MAX}
use Rattle.tact_base.specs.declared.write.Write.{Write}
use Rattle.run_model.proofs.SentMessages.{writes_more}
use Rattle.write_log.specs.Logs.{LogState, TakesWrites}
use Rattle.write_log.specs.declared.taken.Taken.{Taken}
use Rattle.write_log.specs.declared.taken.Taken.TheVariants.{Added, Gap}
use Rattle.replica_core.specs.Told.{ArePieces, AreEndsTold, KeepsTold, end_told, nothing_told, of_origin, piece_of, pieces_of, told_before, told_from, writes_past}
use Rattle.replica_core.specs.declared.told_logs.Told.{Told}

-- what is left of the room in a message, after the writes of one more origin
pub room_left : (of_origin : ℕ → List Write) (n room left : ℕ)
    → room + length (take MESSAGE_WRITES (flat_map of_origin (range_with_len 0 n))) ≡ MESSAGE_WRITES
    → left ≡ room - min room (length (of_origin n))
    → left + length (take MESSAGE_WRITES (flat_map of_origin (range_with_len 0 (n + 1)))) ≡ MESSAGE_WRITES
room_left of_origin n room left was is =
    let told = flat_map of_origin (range_with_len 0 n) in
    let more = flat_map of_origin (range_with_len 0 (n + 1)) in
    let longer : length more ≡ length told + length (of_origin n) = ap length (flat_map_range_more of_origin n) ∙ length-append told (of_origin n) in
    omega (arith, was, is, longer, length-take MESSAGE_WRITES told, length-take MESSAGE_WRITES more)

module _ (logs : List (List Write)) (firsts ends : List ℕ) where
  -- the piece of an origin is what there is room for of its writes from its first on
  piece_told : (origin : ℕ)
      → get_or ends origin 0 ≡ end_told logs firsts origin
      → piece_of logs firsts ends origin ≡ take (MESSAGE_WRITES - length (told_before logs firsts origin)) (writes_past logs firsts origin)
  piece_told origin is =
      let log = of_origin logs origin in
      let first = get_or firsts origin 0 in
      let room = MESSAGE_WRITES - length (told_before logs firsts origin) in
      ap (λ (n : ℕ). drop first (take n log)) is ∙ ap (drop first) (take_min (first + room) log) ∙ drop-take first room log

  -- the pieces up to where what is told ends are what is told, of the first so many origins and of all
  pieces_before : (n : ℕ)
      → ((origin : ℕ) → origin < n → get_or ends origin 0 ≡ end_told logs firsts origin)
      → flat_map (piece_of logs firsts ends) (range_with_len 0 n) ≡ told_before logs firsts n
  pieces_before zero are = refl
  pieces_before (suc n) are =
      let piece = piece_of logs firsts ends in
      let before = flat_map piece (range_with_len 0 n) in
      let was : before ≡ told_before logs firsts n = pieces_before n (λ origin below. are origin (omega (arith, below))) in
      let more : n + 1 ≡ suc n = omega arith in
      subst (λ (k : ℕ). flat_map piece (range_with_len 0 k) ≡ told_before logs firsts k) more
      (writes_more (writes_past logs firsts) n (MESSAGE_WRITES - length (told_before logs firsts n)) before (flat_map piece (range_with_len 0 (n + 1)))
      was (ap (λ (ws : List Write). MESSAGE_WRITES - length ws) (sym was))
      (flat_map_range_more piece n ∙ ap (λ (ws : List Write). before ++ ws) (piece_told n (are n (omega arith)))))

  pub pieces_told : AreEndsTold logs firsts ends
      → pieces_of logs firsts ends ≡ told_from logs firsts
  pieces_told are = pieces_before (length logs) are

  -- no end is past its log
  pub ends_within : AreEndsTold logs firsts ends
      → (origin : ℕ)
      → origin < length logs
      → get_or ends origin 0 ≤ length (of_origin logs origin)
  ends_within are origin within = omega (arith, are origin within)

-- a list that was told may be kept
pub ArePieces-told : (logs : List (List Write)) (told : Told)
    → AreEndsTold logs told.firsts told.ends
    → told.writes ≡ told_from logs told.firsts
    → ArePieces logs told
ArePieces-told logs told are is = record {
  within = ends_within logs told.firsts told.ends are;
  writes = is ∙ sym (pieces_told logs told.firsts told.ends are);
}

-- and so may none, by each of so many replicas
ArePieces-nothing : (logs : List (List Write))
    → length logs ≤ REPLICAS_MAX
    → ArePieces logs nothing_told
ArePieces-nothing logs few =
    let none : (origin : ℕ) → origin < length logs → get_or nothing_told.ends origin 0 ≡ 0 =
    λ origin within. get_or-replicate REPLICAS_MAX origin 0 0 (omega (arith, within, few)) in
    record {
      within = λ origin within. omega (arith, none origin within);
      writes = sym (flat_map_none (piece_of logs [] nothing_told.ends) (range_with_len 0 (length logs))
          (All-range (λ origin. piece_of logs [] nothing_told.ends origin ≡ []) 0 (length logs)
          (λ origin low high.
          ap (λ (n : ℕ). drop (get_or [] origin 0) (take n (of_origin logs origin))) (none origin (omega (arith, high)))
          ∙ drop_all (get_or [] origin 0) [] (omega arith))));
    }

pub KeepsTold-nothing : (replicas : ℕ) (logs : List (List Write)) (told : List Told)
    → replicas ≤ REPLICAS_MAX
    → length logs ≡ replicas
    → told ≡ replicate replicas nothing_told
    → KeepsTold replicas logs told
KeepsTold-nothing replicas logs told few sized none = record {
  sized = sized;
  few = few;
  places = ap length none ∙ length-replicate replicas nothing_told;
  pieces = subst (All (ArePieces logs)) (sym none)
      (λ place d inside.
      subst (ArePieces logs) (sym (get_or-replicate replicas place nothing_told d (omega (arith, inside, length-replicate replicas nothing_told))))
      (ArePieces-nothing logs (omega (arith, few, sized))));
}

-- A log that grows at its end leaves the pieces as they were.
module _ (logs : List (List Write)) (grown : ℕ) (more : List Write) (among : grown < length logs) where
  abbrev longer : List (List Write)
  longer = set logs grown (of_origin logs grown ++ more)

  front_kept : (origin end : ℕ)
      → end ≤ length (of_origin logs origin)
      → (end ≤ length (of_origin longer origin)) × (take end (of_origin longer origin) ≡ take end (of_origin logs origin))
  front_kept origin end within = ⊎_elim
      (λ (same : origin ≡ grown).
      let at : of_origin longer origin ≡ of_origin logs origin ++ more =
      ap (of_origin longer) same ∙ get_or-set_same logs grown (of_origin logs grown ++ more) [] among
      ∙ ap (λ (o : ℕ). of_origin logs o ++ more) (sym same) in (
        omega (arith, within, ap length at, length-append (of_origin logs origin) more),
        ap (take end) at ∙ take-append-le end (of_origin logs origin) more within,
      ))
      (λ (other : origin ≡ grown → ⊥).
      let at : of_origin longer origin ≡ of_origin logs origin =
      get_or-set_other logs grown origin (of_origin logs grown ++ more) [] other in
      (omega (arith, within, ap length at), ap (take end) at))
      (cases_eq origin grown)

  ArePieces-longer : (told : Told)
      → ArePieces logs told
      → ArePieces longer told
  ArePieces-longer told pieces =
      let count : length longer ≡ length logs = length-set logs grown (of_origin logs grown ++ more) in
      record {
        within = λ origin within. (front_kept origin (get_or told.ends origin 0) (pieces.within origin (omega (arith, within, count)))).0;
        writes = pieces.writes
            ∙ flat_map_agree (piece_of logs told.firsts told.ends) (piece_of longer told.firsts told.ends) (range_with_len 0 (length logs))
            (All-range (λ origin. piece_of logs told.firsts told.ends origin ≡ piece_of longer told.firsts told.ends origin) 0 (length logs)
            (λ origin low high.
            ap (drop (get_or told.firsts origin 0)) (sym (front_kept origin (get_or told.ends origin 0) (pieces.within origin (omega (arith, high)))).1)))
            ∙ ap (λ (n : ℕ). flat_map (piece_of longer told.firsts told.ends) (range_with_len 0 n)) (sym count);
      }

  KeepsTold-longer : (replicas : ℕ) (told : List Told)
      → KeepsTold replicas logs told
      → KeepsTold replicas longer told
  KeepsTold-longer replicas told kept = record {
    sized = length-set logs grown (of_origin logs grown ++ more) ∙ kept.sized;
    few = kept.few;
    places = kept.places;
    pieces = All-weaker (ArePieces logs) (ArePieces longer) ArePieces-longer told kept.pieces;
  }

-- So what is kept stays so where told writes are taken.
pub KeepsTold-taken : (replicas : ℕ) (told : List Told) (old new : LogState) (origin first : ℕ) (writes : List Write) (taken : Taken)
    → origin < length old.logs
    → TakesWrites old new origin first writes taken
    → KeepsTold replicas old.logs told
    → KeepsTold replicas new.logs told
KeepsTold-taken replicas told old new origin first writes (Added count) among (begins, counted, held, base, room) kept =
    subst (λ (logs : List (List Write)). KeepsTold replicas logs told) (sym held)
    (KeepsTold-longer old.logs origin (drop (length (of_origin old.logs origin) - first) writes) among replicas told kept)
KeepsTold-taken replicas told old new origin first writes (Gap have at) among (past, counted, begins, same) kept =
    subst (λ (s : LogState). KeepsTold replicas s.logs told) (sym same) kept
