use Rattle.std.proofs.lemmas.Nat.{mul-add-lt}
use Rattle.std.proofs.lemmas.List.{get_or_read}
use Rattle.std.proofs.Common.{◌≡◌, ℕ, ◌+◌, ◌*◌, ◌<◌, max, List, length, get_or, set, sym, ap, ap₂, ◌∙◌, subst, arith}
use Rattle.replica_core.proofs.ToldNumbers.{IsLearned, learned_more}
use Rattle.replica_core.proofs.replica.taking.learn_haves.Goals as goal

pub loop-origin-preserved : goal.loop-origin-preserved
loop-origin-preserved c =
    let n = c.args.config.now.replicas in
    let from = c.args.message.now.from in
    let haves = c.args.message.now.haves in
    let at = c.loop-origin.origin in
    let now = c.loop-origin.known.items in
    let count = c.replicas.ensures.count in
    let at_in : at < n = omega (arith, c.loop-origin-test.true, c.replicas-origin-end.ensures.count) in
    let place : from * c.replicas.result + at ≡ from * n + at = ap (λ (k : ℕ). from * k + at) count in
    let within : from * c.replicas.result + at < length now = omega (arith, place, mul-add-lt from n at n c.requires.from at_in, c.requires.known, c.loop-origin.invariant.sized) in
    let here : c.index.result.now ≡ get_or now (from * n + at) 0 = get_or_read now (from * c.replicas.result + at) c.index.result.now within c.index.ensures 0 ∙ ap (λ (i : ℕ). get_or now i 0) place in
    let value : c.max.result ≡ max (get_or now (from * n + at) 0) (get_or haves at 0) = c.max.ensures ∙ ap₂ max here (ap (λ (ns : List ℕ). get_or ns at 0) c.items.ensures) in
    let more = learned_more n n from haves c.args.known.now.items at now c.loop-origin.invariant c.requires.from at_in c.requires.known in
    subst (λ (ns : List ℕ). IsLearned n n from haves c.args.known.now.items (at + 1) ns) (sym (ap₂ (λ (k v : ℕ). set now (from * k + at) v) count value)) more
