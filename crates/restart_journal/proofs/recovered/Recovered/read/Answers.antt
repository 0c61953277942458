use Rattle.std.proofs.Common.{arith, sym, ap₂, ◌∙◌}
use Rattle.std.proofs.lemmas.Result.{on_ok_weaker, IfErr-weaker}
use Rattle.restart_journal.specs.PieceAt.{piece_in}
use Rattle.restart_journal.specs.Steps.{IsNoneTold, IsNoneRead}
use Rattle.restart_journal.proofs.Following.{unread_is_none, can_follow, none_is_read, has_read}
use Rattle.restart_journal.proofs.recovered.Recovered.read.Goals as goal

pub returns-in_default-clause-err : goal.returns-in_default-clause-err
returns-in_default-clause-err c =
    unread_is_none c.args.config.now c.replicas.ensures.sound c.args.bytes.now (λ i. omega (arith, c.type_inv.bytes i)) c.args.self.now c.requires.setup
    (ap₂ (λ r k. piece_in r k c.args.bytes.now) (sym c.replicas.ensures.count) (sym c.conits.ensures.count) ∙ sym c.in_ok-piece.ensures ∙ c.in_default.is)

pub follow-requires-clause-told : goal.follow-requires-clause-told
follow-requires-clause-told c =
    can_follow c.args.config.now c.replicas.ensures.sound c.args.bytes.now (λ i. omega (arith, c.type_inv.bytes i)) c.args.self.now c.requires.setup c.in-Some.piece
    (ap₂ (λ r k. piece_in r k c.args.bytes.now) (sym c.replicas.ensures.count) (sym c.conits.ensures.count) ∙ sym c.in_ok-piece.ensures ∙ c.in-Some.is)

pub returns-clause-ok : goal.returns-clause-ok
returns-clause-ok c =
    let read = ap₂ (λ r k. piece_in r k c.args.bytes.now) (sym c.replicas.ensures.count) (sym c.conits.ensures.count) ∙ sym c.in_ok-piece.ensures ∙ c.in-Some.is in
    on_ok_weaker c.follow.result
    (has_read c.args.config.now c.replicas.ensures.sound c.args.bytes.now (λ i. omega (arith, c.type_inv.bytes i)) c.args.self.now c.requires.setup c.in-Some.piece read c.follow.new.self)
    c.follow.ensures.ok

pub returns-clause-err : goal.returns-clause-err
returns-clause-err c =
    let read = ap₂ (λ r k. piece_in r k c.args.bytes.now) (sym c.replicas.ensures.count) (sym c.conits.ensures.count) ∙ sym c.in_ok-piece.ensures ∙ c.in-Some.is in
    IfErr-weaker c.follow.result (IsNoneTold c.args.self.now c.in-Some.piece) (IsNoneRead c.args.self.now c.args.bytes.now)
    (none_is_read c.args.config.now c.replicas.ensures.sound c.args.bytes.now (λ i. omega (arith, c.type_inv.bytes i)) c.args.self.now c.requires.setup c.in-Some.piece read)
    c.follow.ensures.err
