use Rattle.std.proofs.Common.{◌≡◌, ℕ, ◌+◌, List, length, get_or, sym, ap, ◌∙◌, arith}
use Rattle.std.proofs.lemmas.List.{get_or-map}
use Rattle.std.proofs.lemmas.List.FromFn.{get_or-range_with_len}
use Rattle.tact_base.proofs.CompareLemmas.{write_tied}
use Rattle.tact_base.specs.declared.write.Write.{Write}
use Rattle.write_log.specs.Logs.{log_of}
use Rattle.replica_core.proofs.replica.admitting.admit.Goals as goal

pub insert_all-requires-clause-new : goal.insert_all-requires-clause-new
insert_all-requires-clause-new c k d inside k' d' within equal =
    let writes = c.args.writes.now in
    let held = get_or c.args.seen.now.writes k' d' in
    let write = get_or writes k d in
    let tie = write_tied held write equal in
    let have = length (log_of c.args.logs.now c.args.origin) in
    let index : write.index ≡ have + k =
    sym (get_or-map (λ (w : Write). w.index) writes k d 0 inside) ∙ ap (λ (ns : List ℕ). get_or ns k 0) c.requires.next.indices ∙ get_or-range_with_len have (length writes) k 0 inside in
    let here : held.origin ≡ c.args.origin = tie.origin ∙ c.requires.next.origins k d inside in
    omega (arith, c.requires.placed k' d' within, ap (λ (o : ℕ). length (log_of c.args.logs.now o)) here, index, tie.index)
