use Rattle.std.proofs.Common.{◌≡◌, ℕ, ◌+◌, ◌≤◌, List, Option, length, take, sym, ap, ap₂, ◌∙◌, subst, arith}
use Rattle.std.specs.Option.{option_or}
use Rattle.tact_base.specs.WriteOrder.{committed_to}
use Rattle.tact_base.specs.declared.write.Write.{Write}
use Rattle.replica_core.specs.Seen.{SeenState, last_one}
use Rattle.replica_core.specs.declared.last_one.LastOne.{LastOne}
use Rattle.replica_core.proofs.SeenLemmas.{last-more}
use Rattle.replica_core.proofs.seen.Seen.trim.Goals as goal

within : (seen now : SeenState) (count : ℕ)
    → seen ≡ now
    → now.dropped + count ≤ length (committed_to now.point now.writes)
    → seen.dropped + count ≤ length (committed_to seen.point seen.writes)
within seen now count same committed = subst (λ (s : SeenState). s.dropped + count ≤ length (committed_to s.point s.writes)) (sym same) committed

pub invariant_of-self : goal.invariant_of-self
invariant_of-self c =
    let old = c.self.inside.ordered in
    let made = c.drop_front.ensures in
    let kept = c.self.invariant in
    let count = c.args.count in
    let committed = committed_to old.point old.writes in
    let last : c.or-self-inside.result ≡ last_one (take (old.dropped + count) committed) =
    c.or-self-inside.ensures
    ∙ ap₂ (λ (late early : Option LastOne). option_or late early)
    (c.last_of.ensures ∙ ap (λ (ws : List Write). last_one (take count ws)) c.committed.ensures.committed) kept.gone_last
    ∙ last-more committed old.dropped count in
    record {
      sorted = rw made.writes kept.sorted;
      few = rw made.writes kept.few;
      on_conits = rw made.writes kept.on_conits;
      has_image = rw (made.writes, made.point) kept.has_image;
      has_sums = rw (made.writes, made.point) kept.has_sums;
      conits = kept.conits;
      order = omega (arith, made.room, kept.order);
      image = kept.image;
      gone = rw (made.writes, made.point, made.dropped) (within _ c.args.self.now count c.self.view_is c.requires);
      gone_last = rw (made.writes, made.point, made.dropped) last;
    }
