use Rattle.std.proofs.Common.{rules, ◌≡◌, ℕ, List, ◌∷◌, [], ◌++◌, ◌-◌, length, take, drop, map, codes, decimal, ap, ◌∙◌, arith}
use Rattle.std.proofs.lemmas.List.{take_all, drop_all, length-drop}
use Rattle.run_model.specs.Text.{spaced, request_tokens, reply_tokens, act_tokens}
use Rattle.run_model.proofs.TextLemmas.{line_of_entry, call_of_both, tokens_of_both, weaker_ok}
use Rattle.run_model.proofs.text.line_in.Goals as goal
use Rattle.run_model.proofs.text.line_in.Goals.{in-Call, in-Send+else-firsts-gt-FEW_FIRSTS, in-Take, in-Lend, in-Back, in-Restart}

pub returns-clause-ok : goal.returns-clause-ok
returns-clause-ok c =
    let entry = c.args.entry.now in
    let start = c.put_begin-start.result in
    let room = c.put_begin-start.new.room in
    let text = take (600 - start) (drop start room) in
    let whole : text ≡ drop start room = take_all (600 - start) (drop start room) (omega (arith, length-drop start room, c.put_begin-start.array_long)) in
    let rest = drop c.match-entry.start c.match-entry.room in
    let begun = c.args.room.now in
    let nothing : drop 600 begun ≡ [] = drop_all 600 begun (omega (arith, ap length c.put-end.ensures.text, length-drop c.put-end.result c.put-end.new.room, c.put-end.array_long, c.put-end.ensures.start, length-drop 600 begun)) in
    let end : drop c.put-end.result c.put-end.new.room ≡ 10 ∷ [] = c.put-end.ensures.text ∙ ap (λ (after : List ℕ). 10 ∷ after) nothing in
    let told : rest ≡ spaced (act_tokens entry.act) ++ (10 ∷ []) =
    elim c.match-entry.branch [
      | in-Call w ↦ rw (w.room-is, w.start-is, w.in-Call.is, w.put-start.ensures.text, w.put_pair-start.ensures.text, w.from.ensures, w.put_request-start.ensures.text, w.put_reply-start.ensures.text, end) (call_of_both (decimal w.in-Call.client) (decimal w.in-Call.number) (request_tokens w.in-Call.request) (codes "=" ∷ reply_tokens w.in-Call.reply) (10 ∷ []))
      | in-Send+else-firsts-gt-FEW_FIRSTS w ↦ rw (w.room-is, w.start-is, w.in-Send.is, w.put_sent-start.ensures.text, w.put_numbers-start.ensures.text, w.items-firsts.ensures, end) (tokens_of_both (codes "send" ∷ map decimal (w.in-Send.message.to ∷ w.in-Send.message.number ∷ [])) (map decimal w.in-Send.message.firsts) (10 ∷ []))
      | in-Take w ↦ search rules
      | in-Lend w ↦ search rules
      | in-Back w ↦ search rules
      | in-Restart w ↦ search rules
    ] in
    weaker_ok c.append.result
    (λ (new : c.append.new.self ≡ c.args.out.now ++ text). line_of_entry (decimal entry.replica) (decimal entry.moment) (act_tokens entry.act) c.args.out.now c.append.new.self text rest new (whole ∙ c.put_begin-start.ensures.text) told)
    c.append.ensures.ok
