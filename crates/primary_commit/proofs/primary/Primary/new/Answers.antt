use Rattle.std.proofs.Common.{◌≡◌, ℕ, List, [], ◌∷◌, ◌++◌, ap, ap₂, length, map, subst, sym, ◌∙◌, arith}
use Rattle.std.specs.List.{range_with_len}
use Rattle.std.proofs.lemmas.List.{length-map}
use Rattle.std.proofs.lemmas.List.FromFn.{length-range_with_len}
use Rattle.tact_base.proofs.RangeLists.{map_more}
use Rattle.primary_commit.specs.Happenings.{Happened}
use Rattle.primary_commit.specs.declared.primary.Event.{Event}
use Rattle.primary_commit.specs.Peers.{PeerState, fresh_peer}
use Rattle.primary_commit.proofs.Stepping.{HasLeft-new}
use Rattle.primary_commit.proofs.primary.Primary.new.Goals as goal

pub invariant_of-result : goal.invariant_of-result
invariant_of-result c =
    let n = c.args.n in
    let all : c.loop-replica.replica ≡ n = omega (arith, c.loop-replica-test.false, c.loop-replica.auto.replica-end) in
    let fresh = subst (λ (k : ℕ). c.loop-replica.peers.items ≡ map (fresh_peer n) (range_with_len 0 k)) all c.loop-replica.invariant in
    rw (c.new-2.ensures, c.new-3.ensures) (HasLeft-new n c.loop-replica.peers.items c.requires.some c.requires.few fresh)

pub loop-replica-preserved : goal.loop-replica-preserved
loop-replica-preserved c =
    let n = c.args.n in
    let replica = c.loop-replica.replica in
    c.in_ok-push.ensures.items
    ∙ ap (λ (peers : List PeerState). peers ++ c.in_ok-new.field-0 ∷ []) c.loop-replica.invariant
    ∙ ap (λ (peer : PeerState). map (fresh_peer n) (range_with_len 0 replica) ++ peer ∷ []) c.in_ok-new.ensures
    ∙ sym (map_more (fresh_peer n) replica)

pub returns : goal.returns
returns c =
    let n = c.args.n in
    let all : c.loop-replica.replica ≡ n = omega (arith, c.loop-replica-test.false, c.loop-replica.auto.replica-end) in
    let fresh = subst (λ (k : ℕ). c.loop-replica.peers.items ≡ map (fresh_peer n) (range_with_len 0 k)) all c.loop-replica.invariant in
    ap₂ (λ (k : ℕ) (events : List Event). let happened : Happened = record { n = k; events = events } in happened)
    (ap length fresh ∙ length-map (range_with_len 0 n) (fresh_peer n) ∙ length-range_with_len 0 n) c.new-3.ensures
