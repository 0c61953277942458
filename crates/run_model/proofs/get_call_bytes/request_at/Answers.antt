use Rattle.std.proofs.Common.{◌≡◌, sym, arith}
use Rattle.run_model.specs.CallBytes.{request_at}
use Rattle.run_model.proofs.RequestBytes.{request_reader}
use Rattle.run_model.proofs.Readers.{ends_within}
use Rattle.run_model.proofs.get_call_bytes.request_at.Goals as goal

pub returns-clause-within : goal.returns-clause-within
unfolding request_at
returns-clause-within c =
    let read : c.request_fields_at.result ≡ request_at c.args.conits c.args.bytes.now c.args.place = rw (sym c.in_ok-tag.ensures.exact) c.request_fields_at.ensures in
    ends_within (request_reader c.args.conits) c.args.bytes.now c.args.place (λ i. omega (arith, c.type_inv.bytes i)) c.request_fields_at.result c.requires read
