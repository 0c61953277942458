use Rattle.std.proofs.Common.{◌+◌, [], length, Err, sym, subst, ◌∙◌, arith}
use Rattle.std.specs.Result.{IfOk}
use Rattle.std.proofs.lemmas.List.Elements.{All-push}
use Rattle.std.proofs.lemmas.Result.{err_from_is_err_and}
use Rattle.tact_base.specs.Setup.{setup}
use Rattle.run_record.specs.declared.body_lines.BodyLine.TheVariants as body
use Rattle.run_record.specs.Records.{IsShortOf}
use Rattle.run_record.specs.Splitting.{raw_lines, tokens}
use Rattle.run_record.specs.RecordLines.{Entries, IsBodyOf, Reads, body_line, line_after, read_from}
use Rattle.run_record.proofs.TextLines.{body_fails, read_ok, reads_body, said_fault, said_ok, short_elsewhere}
use Rattle.run_record.proofs.record_lines.read_entries.Goals as goal

pub returns-in_err-short-clause-err : goal.returns-in_err-short-clause-err
returns-in_err-short-clause-err c =
    let p = err_from_is_err_and c.from_residual-in_err-short.result c.from_residual-in_err-short.ensures.1 in
    let f = c.in_err-short.field-0.0 in
    let config = c.args.config.now in
    let shorts = c.loop-shorts.shorts in
    let line = tokens c.in_ok-line.line.now in
    let at = c.in_ok-line.at in
    let gives = rw (c.replicas.ensures.count, c.conits.ensures.count, c.len.ensures) at c.body_line-said.ensures.line in
    let so_far = sym c.loop-shorts.invariant.read ∙ c.in_ok-line.ensures.ok (Entries config shorts) in
    rw (p.1, p.2) (subst (Reads (Err f)) (sym so_far)
    (said_fault at c.body_line-said.result (body_line config.replicas config.conits (length shorts) line) f (line_after (Entries config shorts) line)
    (λ next. read_from (at + 1) next (raw_lines c.in_ok-line.after.now)) gives c.in_err-short.ensures (body_fails line config shorts)))

pub loop-shorts-preserved : goal.loop-shorts-preserved
loop-shorts-preserved c =
    let config = c.args.config.now in
    let shorts = c.loop-shorts.shorts in
    let short = c.in-Entry.short in
    let line = tokens c.in_ok-line.line.now in
    let at = c.in_ok-line.at in
    let bare = setup c.replicas.result c.conits.result [] [] in
    let gives = rw (c.replicas.ensures.count, c.conits.ensures.count, c.len.ensures) at c.body_line-said.ensures.line in
    let told = rw c.in-Entry.is at c.in_ok-short.ensures in
    let said = said_ok at c.body_line-said.result (body_line config.replicas config.conits (length shorts) line) (body.Entry short) gives told in
    let is = read_ok at c.body_line-said.result (body.Entry short) told in
    let within : IsShortOf bare short = subst (λ read. IfOk read (IsBodyOf bare)) is c.body_line-said.ensures.within in
    let here = short_elsewhere bare config short c.replicas.ensures.count c.conits.ensures.count within in
    rw c.in_ok-push-in-Entry.ensures.ok (record {
      within = All-push (IsShortOf config) shorts short c.loop-shorts.invariant.within here;
      room = omega (arith, c.in_ok-line.ensures.room, c.loop-shorts.invariant.room);
      read = sym (c.in_ok-line.ensures.ok (Entries config shorts) ∙ reads_body at line c.in_ok-line.after.now config shorts (body.Entry short) said) ∙ c.loop-shorts.invariant.read;
    })

pub returns-in-End-clause-ok : goal.returns-in-End-clause-ok
returns-in-End-clause-ok c =
    let config = c.args.config.now in
    let shorts = c.loop-shorts.shorts in
    let line = tokens c.in_ok-line.line.now in
    let at = c.in_ok-line.at in
    let gives = rw (c.replicas.ensures.count, c.conits.ensures.count, c.len.ensures) at c.body_line-said.ensures.line in
    let told = rw c.in-End.is at c.in_ok-short.ensures in
    let said = said_ok at c.body_line-said.result (body_line config.replicas config.conits (length shorts) line) body.End gives told in
    sym c.loop-shorts.invariant.read ∙ c.in_ok-line.ensures.ok (Entries config shorts) ∙ reads_body at line c.in_ok-line.after.now config shorts body.End said
