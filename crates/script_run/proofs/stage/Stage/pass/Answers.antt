use Rattle.std.proofs.Common.{◌≡◌, ℕ, List, [], length, get_or, ap, ap₂, ◌∙◌, subst, arith}
use Rattle.std.proofs.lemmas.List.{get_or_read}
use Rattle.std.proofs.lemmas.List.FromFn.{length-map-range_with_len}
use Rattle.std.proofs.lemmas.Result.{on_ok_weaker}
use Rattle.run_model.specs.Histories.{part_of, sent_in}
use Rattle.run_model.specs.ScriptRuns.{Played, zeros, sends, takes}
use Rattle.script_run.specs.Stages.{Enters, played_in}
use Rattle.script_run.proofs.Outboxes.{as_many_sent}
use Rattle.script_run.proofs.Passing.{sent_is_named}
use Rattle.script_run.proofs.Stepping.{enters_twice}
use Rattle.script_run.proofs.stage.Stage.pass.Goals as goal

pub send-requires-clause-firsts : goal.send-requires-clause-firsts
send-requires-clause-firsts g c =
    let setup = c.args.self.now.set.setup in
    ap length (c.in_ok-firsts.ensures.cases ∙ c.requires.keeps.zeros)
    ∙ length-map-range_with_len (λ origin. 0) 0 setup.replicas

pub take-requires-clause-message : goal.take-requires-clause-message
take-requires-clause-message g c =
    let old = c.args.self.now in
    let keeps = c.requires.keeps in
    let from = c.args.from in
    let messages = sent_in (part_of old.history.items from) in
    let number : c.len-number.result ≡ length messages =
    c.len-number.ensures
    ∙ ap length (get_or_read old.sent.items from c.index.result.now (omega (arith, c.requires.from, keeps.sized)) c.index.ensures [])
    ∙ as_many_sent (get_or old.sent.items from []) messages (keeps.sent from c.requires.from) in
    sent_is_named old c.send.new.self from c.args.to c.len-number.result c.in_ok-firsts.firsts c.args.out.now c.send.new.out c.in_ok-send.ensures.enters number

pub returns-clause-enters : goal.returns-clause-enters
returns-clause-enters g c =
    let old = c.args.self.now in
    let mid = c.send.new.self in
    let setup = old.set.setup in
    let keeps = c.requires.keeps in
    let from = c.args.from in
    let one = c.in_ok-send.ensures.enters in
    let messages = sent_in (part_of old.history.items from) in
    let number : c.len-number.result ≡ length messages =
    c.len-number.ensures
    ∙ ap length (get_or_read old.sent.items from c.index.result.now (omega (arith, c.requires.from, keeps.sized)) c.index.ensures [])
    ∙ as_many_sent (get_or old.sent.items from []) messages (keeps.sent from c.requires.from) in
    let firsts : c.in_ok-firsts.firsts ≡ zeros setup = c.in_ok-firsts.ensures.cases ∙ keeps.zeros in
    let played : played_in mid ≡ sends setup (played_in old) from c.args.to (zeros setup) = one.goes.played ∙ ap (λ (given : List ℕ). sends setup (played_in old) from c.args.to given) firsts in
    on_ok_weaker c.take.result
    (λ two. subst (λ (p : Played). Enters old c.take.new.self p c.args.out.now c.take.new.out)
    (ap₂ (λ (p : Played) (n : ℕ). takes p c.args.to from n) played number)
    (enters_twice old mid c.take.new.self _ _ c.args.out.now c.send.new.out c.take.new.out one two))
    c.take.ensures.enters
