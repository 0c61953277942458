use Rattle.std.proofs.Common.{◌≡◌, sym, arith}
use Rattle.run_model.specs.CallBytes.{reply_at}
use Rattle.run_model.proofs.ReplyBytes.{reply_reader}
use Rattle.run_model.proofs.Readers.{ends_within}
use Rattle.run_model.proofs.get_call_bytes.reply_at.Goals as goal

pub returns-clause-within : goal.returns-clause-within
unfolding reply_at
returns-clause-within c =
    let read : c.reply_fields_at.result ≡ reply_at c.args.bytes.now c.args.place = rw (sym c.in_ok-tag.ensures.exact) c.reply_fields_at.ensures in
    ends_within reply_reader c.args.bytes.now c.args.place (λ i. omega (arith, c.type_inv.bytes i)) c.reply_fields_at.result c.requires read
