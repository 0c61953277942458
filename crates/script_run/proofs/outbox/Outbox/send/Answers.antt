use Rattle.std.proofs.Common.{◌≡◌, ℕ, List, [], ◌∷◌, ◌++◌, length, get_or, set, refl, ap, ap₂, ◌∙◌, subst}
use Rattle.std.proofs.lemmas.List.{get_or_push}
use Rattle.std.proofs.lemmas.Result.{on_ok_weaker}
use Rattle.run_model.specs.declared.entry.Act.TheVariants as act
use Rattle.run_model.specs.declared.entry.Entry.{Entry}
use Rattle.script_run.specs.Stages.{IsSentBy}
use Rattle.script_run.proofs.Sending.{set_last}
use Rattle.script_run.proofs.outbox.Outbox.send.Goals as goal

pub returns-clause-sent : goal.returns-clause-sent
returns-clause-sent c =
    let before : List Entry = c.args.self.now in
    let blank : Entry = record { replica = c.args.from; moment = c.args.moment; act = act.Send c.blank.result } in
    let filled : Entry = c.fill.new.entry in
    let held : c.make_room.new.takings.items ≡ before = c.in_ok-make_room.ensures.same ∙ c.self.view_is in
    let pushed : c.push_reserved.new.self.items ≡ before ++ blank ∷ [] =
    c.push_reserved.ensures.items ∙ ap (λ (es : List Entry). es ++ blank ∷ []) held in
    let place : c.len-place.result ≡ length before = c.len-place.ensures ∙ ap length held in
    let is_blank : c.index_mut.result.now ≡ blank =
    c.index_mut.ensures.value
    ∙ ap₂ (λ (es : List Entry) (n : ℕ). get_or es n c.index_mut.result.now) pushed place
    ∙ get_or_push before blank c.index_mut.result.now (length before) refl in
    on_ok_weaker c.fill.result
    (λ sent. (
      filled,
      ap₂ (λ (es : List Entry) (n : ℕ). set es n filled) pushed place ∙ set_last before blank filled,
      subst (λ (e : Entry). IsSentBy c.args.set.now c.fill.new.set e.replica e.moment c.args.handed c.args.to c.args.firsts.now filled) is_blank sent,
    ))
    c.fill.ensures.sent
