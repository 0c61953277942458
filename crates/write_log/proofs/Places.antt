-- What contracts see of the logs of origins, read and written place by place.
use Rattle.std.proofs.Common.{◌≡◌, ◌≢◌, ℕ, ◌<◌, List, [], length, get_or, set, map, ap, sym, ◌∙◌, subst}
use Rattle.std.proofs.lemmas.List.{get_or-map, map-set, get_or-set_same, get_or-set_other, set-get_or, length-map}
use Rattle.std.proofs.Math.Seq.{map-set_same}
use Rattle.tact_base.specs.declared.write.Write.{Write}
use Rattle.write_log.specs.Logs.{LogState, TakesWrites, log_of, base_of, room_of}
use Rattle.write_log.specs.OneLog.{OneLog, TakesTold, have_of}
use Rattle.write_log.specs.declared.taken.Taken.{Taken}
use Rattle.write_log.specs.declared.taken.Taken.TheVariants.{Added, Gap}

-- what contracts see of logs
abbrev pub state_of : List OneLog → LogState
state_of logs = record { logs = map (λ log. log.all) logs; bases = map (λ log. log.base) logs; room = map (λ log. log.room) logs }

-- a place that contracts see
pub held_place : (logs : List OneLog) (state : LogState) (i : ℕ)
    → state_of logs ≡ state
    → i < length state.logs
    → i < length logs
held_place logs state i seen held =
    let mapped : i < length (map (λ (log : OneLog). log.all) logs) = subst (λ (s : LogState). i < length s.logs) (sym seen) held in
    rw length-map at mapped

-- one field of each log
module _ {A : Type 0} (field : OneLog → A) (logs : List OneLog) (i : ℕ) (log : OneLog) where
  -- what was read at a place
  pub field_read : (d : A) → i < length logs → log ≡ get_or logs i log → get_or (map field logs) i d ≡ field log
  field_read d within read = get_or-map field logs i log d within ∙ ap field (sym read)

  -- after a write to a place
  pub field_written : (d : A) → i < length logs → get_or (map field (set logs i log)) i d ≡ field log
  field_written d within =
      let inside : i < length (map field logs) = rw (length-map logs field) within in
      rw (map-set field logs i log) (get_or-set_same (map field logs) i (field log) d inside)

  -- at the other places
  pub field_other : (j : ℕ) (d : A) → j ≢ i → get_or (map field (set logs i log)) j d ≡ get_or (map field logs) j d
  field_other j d other = rw (map-set field logs i log) (get_or-set_other (map field logs) i j (field log) d other)

-- what was read at a place
module _ (logs : List OneLog) (i : ℕ) (old : OneLog) (within : i < length logs) (read : old ≡ get_or logs i old) where
  pub all_is : log_of (state_of logs) i ≡ old.all
  all_is = field_read (λ log. log.all) logs i old [] within read

  pub base_is : base_of (state_of logs) i ≡ old.base
  base_is = field_read (λ log. log.base) logs i old 0 within read

  pub count_is : length (log_of (state_of logs) i) ≡ have_of old
  count_is = ap length all_is

  pub room_is : room_of (state_of logs) i ≡ old.room
  room_is = field_read (λ log. log.room) logs i old 0 within read

  -- told writes are taken as by the log of their origin
  pub told : (new : OneLog) (first : ℕ) (writes : List Write) (taken : Taken)
      → TakesTold old new first writes taken
      → TakesWrites (state_of logs) (state_of (set logs i new)) i first writes taken
  told new first writes (Added count) (begins, counted, held, base, room) =
      rw (count_is, all_is, room_is, field_written (λ log. log.room) logs i new 0 within) (
        begins,
        counted,
        map-set (λ log. log.all) logs i new ∙ ap (set (map (λ log. log.all) logs) i) held,
        map-set_same (λ log. log.base) logs i new old (base ∙ ap (λ (log : OneLog). log.base) read),
        room,
      )
  told new first writes (Gap have at) (past, counted, is, same) =
      rw count_is (
        past,
        counted,
        is,
        ap state_of (ap (set logs i) (same ∙ read) ∙ set-get_or logs i old),
      )
