-- What lines have made goes on with each line that may follow.
use Rattle.std.proofs.Common.{◌≡◌, ℕ, ◌+◌, ◌<◌, ◌≤◌, ◌==◌, Bool, true, false, cond, nat_le, List, [], ◌∷◌, ◌++◌, length, get_or, Option, Some, refl, sym, ap, ◌∙◌, subst, arith, get_or-set_same}
use Rattle.std.specs.List.{slice_get}
use Rattle.std.specs.Option.{option_map_or}
use Rattle.std.proofs.lemmas.Bool.{eq-eqb, leb-true}
use Rattle.std.proofs.lemmas.List.{length-map, get_or_push, length_push}
use Rattle.std.proofs.lemmas.Option.{slice_get-get_or}
use Rattle.tact_base.specs.declared.limits.TheConstants.{HISTORY_MAX, STAMP_MAX}
use Rattle.tact_base.specs.Setup.{Setup, IsSetup}
use Rattle.run_model.specs.Histories.{part_of, sent_in}
use Rattle.run_model.specs.Loans.{home, free}
use Rattle.run_model.specs.ScriptRuns.{Played, enters, calls, sends, takes, takes_one, passes, zeros, after_line}
use Rattle.run_model.specs.declared.call.Request.{Request}
use Rattle.run_model.specs.declared.call.Request.TheVariants as request
use Rattle.run_model.specs.declared.script_line.Line.{Line}
use Rattle.run_model.specs.declared.script_line.Line.TheVariants as line
use Rattle.script_text.specs.LineRanges.{IsCallInRange, AreTwoInRange, IsAmountInRange, IsLineInRange}
use Rattle.script_text.specs.Sending.{with_sent, sent_after, is_sent}
use Rattle.script_text.proofs.Counts.{count_of, entry_stays, passing_grows}
use Rattle.script_text.proofs.Played.{IsPlayed, receiver_of, entry_of, calling, sending, taking, lending, returning, restarting, call_is_lawful, send_is_lawful, take_is_lawful, loan_is_lawful, return_is_lawful, restart_is_lawful, played_quiet, played_sent, named_message}

-- the last of a list that grew at its end
slice_get-last : (xs : List ℕ) (x n : ℕ)
    → length xs ≡ n
    → slice_get (xs ++ x ∷ []) n ≡ Some x
slice_get-last xs x n size =
    slice_get-get_or (xs ++ x ∷ []) n 0 (omega (arith, length_push xs x, size)) ∙ ap Some (get_or_push xs x 0 n size)

-- a `take` names a message that was sent
abbrev pub IsAddressed : List (List ℕ) → Line → Type 0
IsAddressed sent (line.Take replica from number) = is_sent sent from number replica ≡ true
IsAddressed sent other = Unit {0}

-- room for the entries of one more line
pub record HasRoom (played : Played) : Type 0 where
  pub few : length played.history + 4 ≤ STAMP_MAX
  pub each : (replica : ℕ) → count_of played replica + 2 ≤ HISTORY_MAX

-- What lines have made, of a good setup, with room in all.
module _ (setup : Setup) (good : IsSetup setup) where
  pub call_is_played : (sent : List (List ℕ)) (played : Played) (replica client : ℕ) (asked : Request)
      → IsPlayed setup sent played
      → length played.history < STAMP_MAX
      → count_of played replica < HISTORY_MAX
      → IsCallInRange setup replica client asked
      → IsPlayed setup sent (calls setup played replica client asked)
  call_is_played sent played replica client asked is few room names =
      played_quiet setup good sent played is few replica names.replica_in room (calling setup replica client asked) refl
      (call_is_lawful setup good sent played is few replica names.replica_in room client asked names.client_in names.request_in)

  pub send_is_played : (sent : List (List ℕ)) (played : Played) (from to : ℕ) (given : List ℕ)
      → IsPlayed setup sent played
      → length played.history < STAMP_MAX
      → count_of played from < HISTORY_MAX
      → AreTwoInRange setup from to
      → IsPlayed setup (with_sent sent from to) (sends setup played from to given)
  send_is_played sent played from to given is few room names =
      played_sent setup good sent played is few from names.first_in room (sending setup from to given) _ refl
      (send_is_lawful setup good sent played is few from names.first_in room to given names.second_in names.others)

  pub take_is_played : (sent : List (List ℕ)) (played : Played) (replica from number : ℕ)
      → IsPlayed setup sent played
      → length played.history < STAMP_MAX
      → count_of played replica < HISTORY_MAX
      → AreTwoInRange setup replica from
      → is_sent sent from number replica ≡ true
      → IsPlayed setup sent (takes played replica from number)
  take_is_played sent played replica from number is few room names addressed =
      let named = named_message setup sent played is replica from number names.second_in addressed in
      subst (λ found. IsPlayed setup sent (takes_one played replica found)) (sym named.1.found)
      (played_quiet setup good sent played is few replica names.first_in room (taking named.0) refl
      (take_is_lawful setup good sent played is few replica names.first_in room named.0 named.1.in_range named.1.receiver named.1.was_sent))

  -- the message that was sent last is the one that is taken
  last_is_sent : (sent : List (List ℕ)) (played : Played) (from to : ℕ)
      → IsPlayed setup sent played
      → from < setup.replicas
      → is_sent (with_sent sent from to) from (length (sent_in (part_of played.history from))) to ≡ true
  last_is_sent sent played from to is from_in =
      let tos = get_or sent from [] in
      let number = length (sent_in (part_of played.history from)) in
      let size : length tos ≡ number = sym (ap length (is.receivers from from_in)) ∙ length-map (sent_in (part_of played.history from)) receiver_of in
      let here : get_or (with_sent sent from to) from [] ≡ tos ++ to ∷ [] = get_or-set_same sent from (tos ++ to ∷ []) [] (omega (arith, is.size, from_in)) in
      ap (λ (list : List ℕ). option_map_or (λ receiver. receiver == to) (slice_get list number) false) here
      ∙ ap (λ (found : Option ℕ). option_map_or (λ receiver. receiver == to) found false) (slice_get-last tos to number size)
      ∙ eq-eqb to to refl

  pub pass_is_played : (sent : List (List ℕ)) (played : Played) (from to : ℕ)
      → IsPlayed setup sent played
      → length played.history + 1 < STAMP_MAX
      → count_of played from < HISTORY_MAX
      → count_of played to < HISTORY_MAX
      → AreTwoInRange setup from to
      → IsPlayed setup (with_sent sent from to) (passes setup played from to)
  pass_is_played sent played from to is few room_from room_to names =
      let mid = sends setup played from to (zeros setup) in
      let first : IsPlayed setup (with_sent sent from to) mid = send_is_played sent played from to (zeros setup) is (omega (arith, few)) room_from names in
      let entry = entry_of played from (sending setup from to (zeros setup)) in
      take_is_played (with_sent sent from to) mid to from (length (sent_in (part_of played.history from))) first
      (omega (arith, few, length_push played.history entry))
      (omega (arith, room_to, entry_stays played.history entry to names.others))
      (record { first_in = names.second_in; second_in = names.first_in; others = λ same. names.others (sym same) })
      (last_is_sent sent played from to is names.first_in)

  pub sync_is_played : (sent : List (List ℕ)) (played : Played) (first second : ℕ)
      → IsPlayed setup sent played
      → length played.history + 4 ≤ STAMP_MAX
      → ((replica : ℕ) → count_of played replica + 2 ≤ HISTORY_MAX)
      → AreTwoInRange setup first second
      → IsPlayed setup (with_sent (with_sent sent first second) second first) (passes setup (passes setup played first second) second first)
  sync_is_played sent played first second is few room names =
      let mid = passes setup played first second in
      let there : IsPlayed setup (with_sent sent first second) mid =
      pass_is_played sent played first second is (omega (arith, few)) (omega (arith, room first)) (omega (arith, room second)) names in
      let grown = passing_grows setup played first second names.others in
      pass_is_played (with_sent sent first second) mid second first there
      (omega (arith, few, grown.all)) (omega (arith, room second, grown.each second)) (omega (arith, room first, grown.each first))
      (record { first_in = names.second_in; second_in = names.first_in; others = λ same. names.others (sym same) })

  pub lend_is_played : (sent : List (List ℕ)) (played : Played) (owner holder conit amount : ℕ)
      → IsPlayed setup sent played
      → length played.history < STAMP_MAX
      → count_of played owner < HISTORY_MAX
      → AreTwoInRange setup owner holder
      → IsAmountInRange setup conit amount
      → IsPlayed setup sent (after_line setup played (line.Lend owner holder conit amount))
  lend_is_played sent played owner holder conit amount is few room names names_amount =
      go (nat_le amount (home setup owner (part_of played.history owner) conit)) refl
    where
      go : (within : Bool)
          → nat_le amount (home setup owner (part_of played.history owner) conit) ≡ within
          → IsPlayed setup sent (cond within (enters played owner (lending holder conit amount)) played)
      go false test = is
      go true test =
          played_quiet setup good sent played is few owner names.first_in room (lending holder conit amount) refl
          (loan_is_lawful setup good sent played is few owner names.first_in room holder conit amount
          (names.second_in, names.others, names_amount.conit_in, names_amount.amount_in) (leb-true _ _ test))

  pub back_is_played : (sent : List (List ℕ)) (played : Played) (holder owner conit amount : ℕ)
      → IsPlayed setup sent played
      → length played.history < STAMP_MAX
      → count_of played holder < HISTORY_MAX
      → AreTwoInRange setup holder owner
      → IsAmountInRange setup conit amount
      → IsPlayed setup sent (after_line setup played (line.Back holder owner conit amount))
  back_is_played sent played holder owner conit amount is few room names names_amount =
      go (nat_le amount (free setup holder (part_of played.history holder) owner conit)) refl
    where
      go : (within : Bool)
          → nat_le amount (free setup holder (part_of played.history holder) owner conit) ≡ within
          → IsPlayed setup sent (cond within (enters played holder (returning owner conit amount)) played)
      go false test = is
      go true test =
          played_quiet setup good sent played is few holder names.first_in room (returning owner conit amount) refl
          (return_is_lawful setup good sent played is few holder names.first_in room owner conit amount
          (names.second_in, names.others, names_amount.conit_in, names_amount.amount_in) (leb-true _ _ test))

  pub line_is_played : (sent : List (List ℕ)) (played : Played) (l : Line)
      → IsPlayed setup sent played
      → HasRoom played
      → IsLineInRange setup l
      → IsAddressed sent l
      → IsPlayed setup (sent_after sent l) (after_line setup played l)
  line_is_played sent played (line.Start n m a k) is room names addressed = absurd names
  line_is_played sent played (line.Bound o c a k) is room names addressed = is
  line_is_played sent played (line.At moment) is room names addressed =
      record { run = is.run; handed = names; moments = is.moments; size = is.size; receivers = is.receivers }
  line_is_played sent played (line.Write replica client op weights) is room names addressed =
      call_is_played sent played replica client (request.Write weights op) is (omega (arith, room.few)) (omega (arith, room.each replica)) names
  line_is_played sent played (line.Held replica client op weight) is room names addressed =
      call_is_played sent played replica client (request.Held weight op) is (omega (arith, room.few)) (omega (arith, room.each replica)) names
  line_is_played sent played (line.Reserve replica client conit amount) is room names addressed =
      call_is_played sent played replica client (request.Reserve conit amount) is (omega (arith, room.few)) (omega (arith, room.each replica)) names
  line_is_played sent played (line.Release replica client conit amount) is room names addressed =
      call_is_played sent played replica client (request.Release conit amount) is (omega (arith, room.few)) (omega (arith, room.each replica)) names
  line_is_played sent played (line.Read replica client key needs) is room names addressed =
      call_is_played sent played replica client (request.Read key needs) is (omega (arith, room.few)) (omega (arith, room.each replica)) names
  line_is_played sent played (line.Send from to firsts) is room names addressed =
      send_is_played sent played from to firsts is (omega (arith, room.few)) (omega (arith, room.each from)) names.0
  line_is_played sent played (line.Take replica from number) is room names addressed =
      take_is_played sent played replica from number is (omega (arith, room.few)) (omega (arith, room.each replica)) names addressed
  line_is_played sent played (line.Sync first second) is room names addressed = sync_is_played sent played first second is room.few room.each names
  line_is_played sent played (line.Lend owner holder conit amount) is room names addressed =
      lend_is_played sent played owner holder conit amount is (omega (arith, room.few)) (omega (arith, room.each owner)) names.0 names.1
  line_is_played sent played (line.Back holder owner conit amount) is room names addressed =
      back_is_played sent played holder owner conit amount is (omega (arith, room.few)) (omega (arith, room.each holder)) names.0 names.1
  line_is_played sent played (line.Restart replica) is room names addressed =
      played_quiet setup good sent played is (omega (arith, room.few)) replica names (omega (arith, room.each replica)) restarting refl
      (restart_is_lawful setup good sent played is (omega (arith, room.few)) replica names (omega (arith, room.each replica)))
  line_is_played sent played (line.Show replica) is room names addressed = is
  line_is_played sent played (line.Ref conit) is room names addressed = is
