-- A message that was sent after a front of a run is taken after that.
use Rattle.std.proofs.Common.{◌≡◌, ℕ, suc, ◌+◌, ◌-◌, ◌<◌, ◌≤◌, ◌==◌, List, [], ◌∷◌, ◌++◌, Contains, get_or, length, refl, sym, ap, ◌∙◌, subst, ⊎_elim, arith}
use Rattle.std.specs.List.{filter_map}
use Rattle.std.proofs.lemmas.Bool.{cases_lt}
use Rattle.std.proofs.lemmas.List.{append_assoc, get_or-append_right, length-append}
use Rattle.std.proofs.lemmas.List.Elements.{All-contains, filter_map-append}
use Rattle.tact_base.specs.Setup.{Setup}
use Rattle.run_model.specs.Histories.{IsPrefix, part_of, sent_by_act, sent_in}
use Rattle.run_model.specs.Runs.{IsActDue, IsRun, WasSent}
use Rattle.run_model.specs.declared.entry.Act.TheVariants as act
use Rattle.run_model.specs.declared.entry.Entry.{Entry}
use Rattle.run_model.specs.declared.entry.Message.{Message}
use Rattle.run_model.proofs.PrefixLemmas.{IsPrefix-filter}
use Rattle.run_model.proofs.SoundRuns.{Sound-prefix}
use Rattle.run_history.proofs.SeatLemmas.{shorter_begins}
use Rattle.run_work.specs.Rounds.{HasSeenSending, HasSeenTaking}
use Rattle.run_work.specs.Settling.{HasMet}

-- a longer part has sent no less
sent_in-grows : (front whole : List Entry) → IsPrefix front whole → length (sent_in front) ≤ length (sent_in whole)
sent_in-grows front whole (rest, is) =
    let sent : List Entry → List Message = filter_map (λ entry. sent_by_act entry.act) in
    omega (arith, ap (λ part. length (sent part)) is, ap length (filter_map-append (λ (entry : Entry). sent_by_act entry.act) front rest), length-append (sent front) (sent rest))

-- what stands behind a place of a list is behind what stands before
later : (before rest before' rest' : List Entry) (one other : Entry)
    → before ++ one ∷ rest ≡ before' ++ other ∷ rest'
    → length before < length before'
    → Contains rest other
later before rest before' rest' one other same less =
    let place : ℕ = length before' - (length before + 1) in
    let here : length before' - length before' ≡ 0 = omega arith in
    let behind : length before' - length before ≡ suc place = omega (arith, less) in
    let size : length before + suc (length rest) ≡ length before' + suc (length rest') =
    sym (length-append before (one ∷ rest)) ∙ ap length same ∙ length-append before' (other ∷ rest') in
    let there : get_or (before' ++ other ∷ rest') (length before') other ≡ other =
    get_or-append_right before' (other ∷ rest') (length before') (length before') other refl (omega arith)
    ∙ ap (λ k. get_or (other ∷ rest') k other) here in
    let is : get_or (before ++ one ∷ rest) (length before') other ≡ get_or rest place other =
    get_or-append_right before (one ∷ rest) (length before) (length before') other refl (omega (arith, less))
    ∙ ap (λ k. get_or (one ∷ rest) k other) behind in
    (place, omega (arith, less, size), sym is ∙ ap (λ l. get_or l (length before') other) same ∙ there)

module _ (setup : Setup) (history : List Entry) (run : IsRun setup history) where
  taken_after : (before rest before' rest' : List Entry) (sent taken : Entry) (message : Message)
      → history ≡ before ++ sent ∷ rest
      → sent.act ≡ act.Send message
      → history ≡ before' ++ taken ∷ rest'
      → taken.act ≡ act.Take message
      → Contains rest taken
  taken_after before rest before' rest' sent taken message is sends is' takes =
      let due : IsActDue setup sent.replica (part_of before sent.replica) sent.moment (act.Send message) =
      subst (IsActDue setup sent.replica (part_of before sent.replica) sent.moment) sends (run before rest sent is).due.act in
      let from : message.from ≡ sent.replica = ap (λ (m : Message). m.from) due in
      let number : message.number ≡ length (sent_in (part_of before message.from)) =
      ap (λ (m : Message). m.number) due ∙ ap (λ r. length (sent_in (part_of before r))) (sym from) in
      let was : Contains (sent_in (part_of before' message.from)) message = subst (WasSent before') takes (run before' rest' taken is').sent in
      let sound = Sound-prefix setup before' history run (taken ∷ rest', is') in
      let below : message.number < length (sent_in (part_of before' message.from)) =
      All-contains (λ (m : Message). m.number < length (sent_in (part_of before' message.from))) (sent_in (part_of before' message.from)) message
      (λ k d within. omega (arith, sound.numbers message.from k d within, within)) was in
      ⊎_elim (λ (less : length before < length before'). later before rest before' rest' sent taken (sym is ∙ is') less)
      (λ (more : length before' ≤ length before).
      let front : IsPrefix before' before = shorter_begins before' before history (taken ∷ rest', is') (sent ∷ rest, is) more in
      absurd (omega (
        arith,
        number,
        below,
        sent_in-grows (part_of before' message.from) (part_of before message.from)
            (IsPrefix-filter (λ (entry : Entry). entry.replica == message.from) before' before front),
      )))
      (cases_lt (length before) (length before'))

  -- a replica that sent to another, which took the message, has met it
  pub HasMet-seen : (lose : ℕ) (front : List Entry) (from to : ℕ) (message : Message)
      → HasSeenSending (λ seen. IsPrefix seen history) front from to message
      → (lose ≡ 0 → HasSeenTaking (λ seen. IsPrefix seen history) to message)
      → HasMet lose front history from to
  HasMet-seen lose front from to message sending taking =
      let all = sending.seen.1 ∙ append_assoc sending.before (sending.sent ∷ []) sending.seen.0 in
      record {
        sending = record {
          before = sending.before;
          sent = sending.sent;
          message = message;
          after = sending.seen.0;
          all = all;
          by = sending.by;
          sends = sending.sends;
          addressed = sending.addressed;
        };
        behind = sending.behind;
        taken = λ none.
            let took = taking none in (
              took.taken,
              taken_after sending.before sending.seen.0 took.before took.seen.0 sending.sent took.taken message all sending.sends
                  (took.seen.1 ∙ append_assoc took.before (took.taken ∷ []) took.seen.0) took.takes,
              took.by,
              took.takes,
            );
      }
