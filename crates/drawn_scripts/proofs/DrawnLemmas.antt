-- What a step of the drill draws may stand in its script.
use Rattle.std.proofs.Common.{◌≡◌, ◌≢◌, ℕ, zero, suc, ◌+◌, ◌<◌, ◌≤◌, ◌==◌, ◌%◌, pos, Bool, true, false, nat_lt, cond, List, [], ◌∷◌, length, get_or, Option, None, Some, refl, sym, ap, ◌∙◌, subst, arith}
use Rattle.std.specs.Prelude.{◌-ℤ◌, unsigned_abs}
use Rattle.std.specs.List.{All, slice_get}
use Rattle.std.specs.Option.{option_map}
use Rattle.std.proofs.lemmas.Option.{slice_get-get_or, slice_get_within}
use Rattle.std.proofs.Math.Nat.{mod-lt}
use Rattle.std.proofs.lemmas.List.Elements.{All-replicate}
use Rattle.tact_base.proofs.ListLemmas.{All-one}
use Rattle.tact_base.specs.declared.limits.TheConstants.{HISTORY_MAX}
use Rattle.tact_base.specs.Setup.{Setup}
use Rattle.tact_base.specs.declared.write.Op.TheVariants.{Add}
use Rattle.run_model.specs.Ranges.{IsRequestInRange, IsWeightInRange, IsNeedInRange}
use Rattle.run_model.specs.declared.call.Request.{Request}
use Rattle.run_model.specs.declared.call.Request.TheVariants as request
use Rattle.run_model.specs.declared.script_line.Line.{Line}
use Rattle.run_model.specs.declared.script_line.Line.TheVariants as line
use Rattle.script_text.specs.LineRanges.{IsLineInRange, IsCallInRange}
use Rattle.script_text.specs.Setups.{opening, sets_up}
use Rattle.drawn_scripts.specs.Counting.{IsAmongFour, AreFourSenders}
use Rattle.drawn_scripts.specs.Draws.{pick, some_drawn, two_drawn}
use Rattle.drawn_scripts.specs.DrawnScripts.{weight_of, need_of, write_drawn, send_drawn, sync_drawn, take_drawn, read_drawn, take_of, line_drawn}
use Rattle.drawn_scripts.specs.declared.sent.SentOne.{SentOne}

-- the setup of every drill
abbrev pub four : Setup
four = opening 4 2 60 20

-- a `take` line takes one of these messages
abbrev pub TakesOne : List SentOne → Line → Type 0
TakesOne sent (line.Take replica from number) =
    (place : ℕ) × (one : SentOne) × (slice_get sent place ≡ Some one) × (one.to ≡ replica) × (one.from ≡ from) × (one.number ≡ number)
TakesOne sent other = Unit {0}

-- a line that a step may draw after these messages
pub record IsDrawn (sent : List SentOne) (l : Line) : Type 0 where
  pub up : sets_up l ≡ false
  pub senders : AreFourSenders l
  pub in_range : IsLineInRange four l
  pub takes : TakesOne sent l

pub picked_below : (k state : ℕ) → 0 < k → (pick k state).0 < k
unfolding pick
picked_below k state above = mod-lt _ above

-- a drawn weight is in its limits
weight_in : (size : ℕ) → size < 9 → unsigned_abs (pos size -ℤ pos 4) ≤ 1000000
weight_in zero h = omega (arith)
weight_in (suc zero) h = omega (arith)
weight_in (suc (suc zero)) h = omega (arith)
weight_in (suc (suc (suc zero))) h = omega (arith)
weight_in (suc (suc (suc (suc zero)))) h = omega (arith)
weight_in (suc (suc (suc (suc (suc zero))))) h = omega (arith)
weight_in (suc (suc (suc (suc (suc (suc zero)))))) h = omega (arith)
weight_in (suc (suc (suc (suc (suc (suc (suc zero))))))) h = omega (arith)
weight_in (suc (suc (suc (suc (suc (suc (suc (suc zero)))))))) h = omega (arith)
weight_in (suc (suc (suc (suc (suc (suc (suc (suc (suc size))))))))) h = omega (arith, h)

-- a call of a client 0
call_in : (replica : ℕ) (asked : Request) → replica < 4 → IsRequestInRange four asked → IsCallInRange four replica 0 asked
call_in replica asked within fits = record { replica_in = within; client_in = omega (arith); request_in = fits }

pub write_is_drawn : (sent : List SentOne) (state : ℕ) → IsDrawn sent (write_drawn state).0
unfolding write_drawn
write_is_drawn sent state =
    let s1 = (pick 4 state).1 in
    let s2 = (pick 2 s1).1 in
    let s3 = (pick 9 s2).1 in
    let conit = (pick 2 s1).0 in
    let size = (pick 9 s2).0 in
    let key = (pick 16 s3).0 in
    record {
      up = refl;
      senders = tt;
      in_range = call_in (pick 4 state).0 (request.Write (weight_of conit size ∷ []) (Add key (pos 1))) (picked_below 4 state (omega (arith))) (
        record {
          each = All-one (IsWeightInRange four) (weight_of conit size)
              (record { conit = picked_below 2 s1 (omega (arith)); nweight = weight_in size (picked_below 9 s2 (omega (arith))); oweight = omega (arith) });
          listed = refl;
        },
        (omega (arith, picked_below 16 s3 (omega (arith))), omega (arith)),
      );
      takes = tt;
    }

-- two that are drawn
pub record AreTwo (two : ℕ × ℕ) : Type 0 where
  pub first_in : two.0 < 4
  pub second_in : two.1 < 4
  pub others : two.1 ≢ two.0

step_others : (first step : ℕ) → first < 4 → step < 3 → (first + 1 + step) % 4 ≢ first
step_others first step h k = λ same. omega (arith, same, h, k)

pub two_are_two : (state : ℕ) → AreTwo (two_drawn state).0
unfolding two_drawn
two_are_two state =
    let first = (pick 4 state).0 in
    let s1 = (pick 4 state).1 in
    let step = (pick 3 s1).0 in
    record { first_in = picked_below 4 state (omega (arith)); second_in = mod-lt (first + 1 + step) {m = 4} (omega (arith)); others = step_others first step (picked_below 4 state (omega (arith))) (picked_below 3 s1 (omega (arith))) }

pub send_is_drawn : (sent : List SentOne) (state : ℕ) → IsDrawn sent (send_drawn state).0
unfolding send_drawn
send_is_drawn sent state =
    let two = two_are_two state in
    record {
      up = refl;
      senders = two.first_in;
      in_range = (
        record { first_in = two.first_in; second_in = two.second_in; others = two.others },
        record { size = refl; each = All-replicate (λ (n : ℕ). n ≤ HISTORY_MAX) 4 0 (omega (arith)) },
      );
      takes = tt;
    }

pub sync_is_drawn : (sent : List SentOne) (state : ℕ) → IsDrawn sent (sync_drawn state).0
unfolding sync_drawn
sync_is_drawn sent state =
    let two = two_are_two state in
    record {
      up = refl;
      senders = (two.first_in, two.second_in);
      in_range = record { first_in = two.first_in; second_in = two.second_in; others = two.others };
      takes = tt;
    }

pub read_is_drawn : (sent : List SentOne) (state : ℕ) → IsDrawn sent (read_drawn state).0
unfolding read_drawn
read_is_drawn sent state =
    let s1 = (pick 4 state).1 in
    let s2 = (pick 2 s1).1 in
    let conit = (pick 2 s1).0 in
    let key = (pick 16 s2).0 in
    record {
      up = refl;
      senders = tt;
      in_range = call_in (pick 4 state).0 (request.Read key (need_of conit ∷ [])) (picked_below 4 state (omega (arith))) (
        omega (arith, picked_below 16 s2 (omega (arith))),
        record {
          each = All-one (IsNeedInRange four) (need_of conit)
              (record { conit = picked_below 2 s1 (omega (arith)); num = omega (arith); order = omega (arith); stale = omega (arith) });
          listed = refl;
        },
      );
      takes = tt;
    }

-- what may be drawn, where something is
abbrev pub IsDrawnIfAny : List SentOne → Option Line → Type 0
IsDrawnIfAny sent None = Unit {0}
IsDrawnIfAny sent (Some l) = IsDrawn sent l

take_of_is_drawn : (sent : List SentOne) → All IsAmongFour sent → (place : ℕ) → IsDrawnIfAny sent (option_map take_of (slice_get sent place))
take_of_is_drawn sent among place = go (slice_get sent place) refl
  where
    go : (found : Option SentOne) → slice_get sent place ≡ found → IsDrawnIfAny sent (option_map take_of found)
    go None is = tt
    go (Some one) is =
        let here : get_or sent place one ≡ one = cc (is, slice_get-get_or sent place one (slice_get_within sent place one is)) in
        let four_in = subst IsAmongFour here (among place one (slice_get_within sent place one is)) in
        record {
          up = refl;
          senders = tt;
          in_range = record { first_in = four_in.to_in; second_in = four_in.from_in; others = four_in.others };
          takes = (place, one, is, refl, refl, refl);
        }

pub take_is_drawn : (sent : List SentOne) → All IsAmongFour sent → (state : ℕ) → IsDrawnIfAny sent (take_drawn sent state).0
unfolding take_drawn
take_is_drawn [] among state = tt
take_is_drawn (first ∷ rest) among state = take_of_is_drawn (first ∷ rest) among (pick (length (first ∷ rest)) state).0

pub line_is_drawn : (sent : List SentOne) → All IsAmongFour sent → (kind state : ℕ) → IsDrawnIfAny sent (line_drawn sent kind state).0
line_is_drawn sent among kind state = go (nat_lt kind 5) (nat_lt kind 7) (kind == 7) (kind == 8)
  where
    go : (write send take sync : Bool)
        → IsDrawnIfAny sent (cond write (some_drawn write_drawn) (cond send (some_drawn send_drawn)
        (cond take (take_drawn sent) (cond sync (some_drawn sync_drawn) (some_drawn read_drawn)))) state).0
    go true send take sync = write_is_drawn sent state
    go false true take sync = send_is_drawn sent state
    go false false true sync = take_is_drawn sent among state
    go false false false true = sync_is_drawn sent state
    go false false false false = read_is_drawn sent state

pub line_found : (sent told : List SentOne) (kind state state' : ℕ) (found : Option Line) (l : Line)
    → All IsAmongFour sent
    → told ≡ sent
    → line_drawn told kind state ≡ (found, state')
    → found ≡ Some l
    → IsDrawn sent l
line_found sent told kind state state' found l among is drawn some =
    let here : (line_drawn sent kind state).0 ≡ Some l =
    ap (λ (list : List SentOne). (line_drawn list kind state).0) (sym is) ∙ ap (λ (taken : Option Line × ℕ). taken.0) drawn ∙ some in
    subst (IsDrawnIfAny sent) here (line_is_drawn sent among kind state)
