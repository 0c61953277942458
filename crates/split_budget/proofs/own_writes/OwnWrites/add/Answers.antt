use Rattle.std.proofs.Common.{◌≡◌, ◌<◌, ◌≤◌, length, ap, sym, ◌∙◌, arith}
use Rattle.split_budget.specs.OwnWrites.{OwnState, IsOther, missed_by}
use Rattle.split_budget.proofs.OwnLemmas.{AreMissed-added, drop-push}
use Rattle.split_budget.proofs.SumsKept.{known_of, read_known, read_sums, HasAdded-added, HasAdded-left, KeepsSums-added}
use Rattle.split_budget.proofs.own_writes.OwnWrites.add.Goals as goal
use Rattle.split_budget.proofs.own_writes.OwnWrites.add.Goals.{After-index_mut, then-peer-self+then-index-self}
use Rattle.split_budget.proofs.own_writes.OwnWrites.add.Goals.{else-peer-self}
use Rattle.split_budget.proofs.own_writes.OwnWrites.add.Goals.{else-peer-self-via-then-peer-self+else-index-self}
use Rattle.split_budget.proofs.own_writes.OwnWrites.add.Goals.{else-peer-self-via-else-peer-self}

-- the replica at hand is another one
other : (c : After-index_mut) → IsOther c.args.self.now c.loop-peer.peer
other c =
    let known : c.self.inside.known.items ≡ c.args.self.now.known = ap (λ (o : OwnState). o.known) c.self.view_is in
    let replica : c.self.inside.replica ≡ c.args.self.now.replica = ap (λ (o : OwnState). o.replica) c.self.view_is in
    (rw (← known) (omega (arith, c.loop-peer-test.true, c.len-peer-end.ensures)), λ same. c.if-peer-self.true (same ∙ sym replica ∙ sym c.loop-peer.invariant.replica))

pub add-requires-clause-plus : goal.add-requires-clause-plus
add-requires-clause-plus c = λ conit on.
    let is = other (goal.at.add-requires-clause-plus c).After-index_mut in
    let of = read_sums c.args.self.now c.args.weights.now c.loop-peer.peer c.loop-peer.self-inside.missed.items c.loop-peer.invariant.sums c.index_mut.result.now is c.index_mut.ensures.value in
    omega (arith, of.plus conit, c.requires.plus c.loop-peer.peer conit is (omega (arith, on, of.on)))

pub add-requires-clause-minus : goal.add-requires-clause-minus
add-requires-clause-minus c = λ conit on.
    let is = other (goal.at.add-requires-clause-minus c).After-index_mut in
    let of = read_sums c.args.self.now c.args.weights.now c.loop-peer.peer c.loop-peer.self-inside.missed.items c.loop-peer.invariant.sums c.index_mut.result.now is c.index_mut.ensures.value in
    omega (arith, of.minus conit, c.requires.minus c.loop-peer.peer conit is (omega (arith, on, of.on)))

pub loop-peer-preserved : goal.loop-peer-preserved
loop-peer-preserved c =
    let s = c.args.self.now in
    let peer = c.loop-peer.peer in
    let weights = c.args.weights.now in
    let missed = c.loop-peer.self-inside.missed.items in
    let so_far = c.loop-peer.invariant in
    let known : c.loop-peer.self-inside.known.items ≡ s.known = ap (λ known. known.items) so_far.known ∙ ap (λ (o : OwnState). o.known) c.self.view_is in
    let replica : c.loop-peer.self-inside.replica ≡ s.replica = so_far.replica ∙ ap (λ (o : OwnState). o.replica) c.self.view_is in
    let given_up : c.loop-peer.self-inside.given_up ≡ s.given_up = so_far.given_up ∙ ap (λ (o : OwnState). o.given_up) c.self.view_is in
    let count : length c.items.result.now ≡ length s.weights = ap length c.items.ensures ∙ ap (λ (o : OwnState). length o.weights) c.self.view_is in
    let within : peer < length s.known = omega (arith, c.loop-peer-test.true, c.len-peer-end.ensures, ap (λ (o : OwnState). length o.known) c.self.view_is) in
    elim c.if-peer-self.branch [
      | then-peer-self+then-index-self w ↦
          let is : IsOther s peer = (within, λ same. w.if-peer-self.true (same ∙ sym replica)) in
          let behind : known_of s peer ≤ length s.weights =
          omega (
            arith,
            w.if-index-self.true,
            read_known s c.loop-peer.self-inside.known.items c.loop-peer.self-inside.given_up peer w.index.result.now known given_up
                within w.index.ensures,
            count,
          ) in
          let of = AreMissed-added s.conits w.index_mut.result.now w.add.new.self w.add.ensures.conits (missed_by s peer) weights w.add.ensures.plus w.add.ensures.minus
          (read_sums s weights peer missed so_far.sums w.index_mut.result.now is w.index_mut.ensures.value) in
          rw w.self-inside-is (record {
            replica = so_far.replica;
            conits = so_far.conits;
            given_up = so_far.given_up;
            writes = so_far.writes;
            known = so_far.known;
            sums = HasAdded-added s weights peer missed so_far.sums w.add.new.self within (rw (drop-push (known_of s peer) s.weights weights behind) of);
          })
      | else-peer-self w ↦
          rw w.self-inside-is (record {
            replica = so_far.replica;
            conits = so_far.conits;
            given_up = so_far.given_up;
            writes = so_far.writes;
            known = so_far.known;
            sums = HasAdded-left s weights peer missed so_far.sums (λ is.
                elim w.else-peer-self.branch [
                  | else-peer-self-via-then-peer-self+else-index-self v ↦
                      omega (
                        arith,
                        v.if-index-self.false,
                        read_known s c.loop-peer.self-inside.known.items c.loop-peer.self-inside.given_up peer v.index.result.now
                            known given_up within v.index.ensures,
                        count,
                      )
                  | else-peer-self-via-else-peer-self v ↦ absurd (is.1 (v.if-peer-self.false ∙ replica))
                ]);
          })
    ]

pub invariant_of-self : goal.invariant_of-self
invariant_of-self c =
    let so_far = c.loop-peer.invariant in
    let o = c.self.inside in
    let conits = rw (← c.self.view_is) at c.requires.conits in
    let all : c.loop-peer.peer ≡ length o.known.items = omega (arith, c.loop-peer-test.false, c.loop-peer.auto.peer-end, c.len-peer-end.ensures) in
    let sums = rw (← c.self.view_is, all) at so_far.sums in
    rw (so_far.replica, so_far.conits, so_far.given_up, so_far.known, c.push.ensures.items, so_far.writes, c.new.ensures)
    (KeepsSums-added _ c.args.weights.now o.missed.items c.loop-peer.self-inside.missed.items c.push.new.self.room c.self.invariant conits sums)
