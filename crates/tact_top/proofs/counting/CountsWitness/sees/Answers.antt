use Rattle.std.proofs.Common.{◌≡◌, ℕ, ◌++◌, ◌∷◌, [], List, length, refl, sym, ap, arith}
use Rattle.std.proofs.lemmas.List.{length_push}
use Rattle.run_model.specs.declared.entry.Entry.{Entry}
use Rattle.tact_top.specs.DrillText.{counts_of}
use Rattle.tact_top.specs.declared.counting.Counts.{Counts}
use Rattle.tact_top.proofs.counting.CountsWitness.sees.Goals as goal

pub returns : goal.returns
returns c = λ history are.
    let longer : List Entry = history ++ c.args.entry.now ∷ [] in
    let entries : c.in_ok-entries.entries ≡ length longer =
    omega (arith, c.in_ok-entries.ensures, ap (λ (counts : Counts). counts.entries) are, length_push history c.args.entry.now) in
    let done = c.in_ok-done.ensures history (ap (λ (counts : Counts). counts.done) are) in
    let waits = c.in_ok-waits.ensures history (ap (λ (counts : Counts). counts.waits) are) in
    let heavy = c.in_ok-heavy.ensures history (ap (λ (counts : Counts). counts.heavy) are) in
    let values = c.in_ok-values.ensures history (ap (λ (counts : Counts). counts.values) are) in
    let sends = c.in_ok-sends.ensures history (ap (λ (counts : Counts). counts.sends) are) in
    let takes = c.in_ok-takes.ensures history (ap (λ (counts : Counts). counts.takes) are) in
    rw (entries, done, waits, heavy, values, sends, takes) refl
