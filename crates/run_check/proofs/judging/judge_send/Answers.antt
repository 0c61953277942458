use Rattle.std.proofs.Common.{◌≡◌, ℕ, List, length, sym, ap, ◌∙◌, subst, subst₂, arith}
use Rattle.tact_base.proofs.SetupLemmas.{HasCounts-from_IsSetup}
use Rattle.run_model.specs.Histories.{part_of, sent_in}
use Rattle.run_record.specs.declared.short.ShortAct.TheVariants as told
use Rattle.run_check.specs.Expanded.{with_short}
use Rattle.run_check.specs.Checking.{AreSent, IsApart, short_at}
use Rattle.run_check.proofs.AtReplica.{is_memory}
use Rattle.run_check.proofs.FirstCauses.{first_is_first}
use Rattle.run_check.proofs.FirstsApart.{firsts_sized, first_fails}
use Rattle.run_check.proofs.Passing.{send_passes, sent_with}
use Rattle.run_check.proofs.judging.judge_send.Goals as goal

pub want_of_memory-requires : goal.want_of_memory-requires
want_of_memory-requires g c =
    is_memory g.history c.args.set.now c.requires.0 c.args.at c.requires.1.1.0.replica c.requires.1.0 c.in-Err.fault c.in-Err.ensures.fault

pub first_apart-requires-clause-same : goal.first_apart-requires-clause-same
first_apart-requires-clause-same g c =
    ap length c.items-2.ensures
    ∙ firsts_sized c.args.set.now.setup g.history c.args.at c.args.to c.args.number c.args.firsts.now _ c.in-Ok.message (c.in-Ok.ensures.due g.history c.requires.0.stands)
    ∙ sym c.requires.1.1.0.act.3
    ∙ sym (ap length c.items.ensures)

pub first_apart-requires-clause-few : goal.first_apart-requires-clause-few
first_apart-requires-clause-few g c =
    let counts = HasCounts-from_IsSetup c.args.set.now.setup c.requires.0.good in
    omega (arith, ap length c.items.ensures, c.requires.1.1.0.act.3, counts.replicas_high)

pub returns-in-Some-clause-err : goal.returns-in-Some-clause-err
returns-in-Some-clause-err g c =
    let next : c.args.number ≡ length (sent_in (part_of g.history c.args.at.replica)) =
    c.if-number-due.false ∙ c.count-due.ensures ∙ ap length (c.requires.1.1.1.each c.args.at.replica c.requires.1.1.0.replica) in
    let apart = subst₂ (λ (a b : List ℕ). IsApart a b c.in-Some.apart.origin c.in-Some.apart.told c.in-Some.apart.due) c.items.ensures c.items-2.ensures c.in-Some.ensures in
    first_is_first c.args.set.now.setup g.history c.args.at c.requires.1.0 c.args.to c.args.number c.args.firsts.now next
    c.in-Some.apart.origin c.in-Some.apart.told c.in-Some.apart.due
    (first_fails c.args.set.now.setup g.history c.args.at c.args.to c.args.number c.args.firsts.now _ c.in-Ok.message (c.in-Ok.ensures.due g.history c.requires.0.stands)
    c.in-Some.apart.origin c.in-Some.apart.told c.in-Some.apart.due c.requires.1.1.0.act.3 apart)

pub returns-clause-ok : goal.returns-clause-ok
returns-clause-ok g c =
    let next : c.args.number ≡ length (sent_in (part_of g.history c.args.at.replica)) =
    c.if-number-due.false ∙ c.count-due.ensures ∙ ap length (c.requires.1.1.1.each c.args.at.replica c.requires.1.1.0.replica) in
    let same : c.args.firsts.now ≡ c.in-Ok.message.firsts = sym c.items.ensures ∙ c.in_default.ensures ∙ c.items-2.ensures in
    send_passes g.history c.args.set.now c.requires.0 c.args.at c.requires.1.1.0.replica c.requires.1.0 c.send.new.self c.in-Ok.ensures.setup
    c.args.to c.args.number c.args.firsts.now c.in-Ok.message next same
    (c.in-Ok.ensures.due g.history c.requires.0.stands) (c.in-Ok.ensures.goes_on g.history c.requires.0.stands)

pub returns-clause-sent : goal.returns-clause-sent
returns-clause-sent g c =
    subst (AreSent c.args.set.now.setup.replicas (with_short c.args.set.now.setup g.history (short_at c.args.at (told.Send c.args.to c.args.number c.args.firsts.now))))
    (sym c.in_ok-keep.ensures.ok)
    (sent_with g.history c.args.set.now c.requires.0 c.args.at c.requires.1.1.0.replica c.requires.1.0 c.send.new.self c.in-Ok.ensures.setup
    c.args.to c.args.number c.args.firsts.now c.in-Ok.message c.args.sent.now (c.in-Ok.ensures.due g.history c.requires.0.stands) c.requires.1.1.1)

pub count-due-requires : goal.count-due-requires
count-due-requires g c = omega (arith, c.requires.1.1.0.replica, c.requires.1.1.1.sized)

pub keep-requires : goal.keep-requires
keep-requires g c = omega (arith, c.requires.1.1.0.replica, c.requires.1.1.1.sized)
