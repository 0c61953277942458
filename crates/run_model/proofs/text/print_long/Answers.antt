use Rattle.std.proofs.Common.{◌≡◌, ◌∷◌, [], ◌++◌, List, ℕ, ◌-◌, take, drop, map, codes, decimal, ◌∙◌, arith}
use Rattle.std.proofs.lemmas.List.{append-nil, take_all, length-drop}
use Rattle.run_model.specs.Text.{spaced}
use Rattle.run_model.proofs.TextLemmas.{long_line_of_entry, weaker_ok}
use Rattle.run_model.proofs.text.print_long.Goals as goal

pub returns-clause-ok : goal.returns-clause-ok
returns-clause-ok c =
    let entry = c.args.entry.now in
    let message = c.args.message.now in
    let start = c.put_begin-start.result in
    let room = c.put_begin-start.new.room in
    let text = take (600 - start) (drop start room) in
    let whole : text ≡ drop start room = take_all (600 - start) (drop start room) (omega (arith, length-drop start room, c.put_begin-start.array_long)) in
    let rest = drop c.put_sent-start.result c.put_sent-start.new.room in
    let sent : List (List ℕ) = codes "send" ∷ map decimal (message.to ∷ message.number ∷ []) in
    let told : rest ≡ spaced sent = c.put_sent-start.ensures.text ∙ append-nil (spaced sent) in
    rw c.requires
    (weaker_ok c.push.result
    (λ (new : c.push.new.self ≡ c.put_numbers.new.out ++ (10 ∷ [])). long_line_of_entry (decimal entry.replica) (decimal entry.moment) sent (map decimal message.firsts) c.args.out.now c.append.new.self c.put_numbers.new.out c.push.new.self text rest
    c.in_ok-append.ensures.ok (whole ∙ c.put_begin-start.ensures.text) told (rw c.items.ensures at c.in_ok-put_numbers.ensures.ok) new)
    c.push.ensures.ok)
