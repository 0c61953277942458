use Rattle.std.proofs.Common.{◌+◌, get_or, set, sym, ap, ◌∙◌, subst, arith}
use Rattle.tact_base.specs.Setup.{place_of}
use Rattle.replica_core.specs.States.{ReplicaState, AreLentBy}
use Rattle.replica_core.proofs.LentLemmas.{AreLentBy-same, AreLentBy-lent}
use Rattle.replica_core.proofs.replica.Replica.enter_loan.Goals as goal

pub invariant_of-self : goal.invariant_of-self
invariant_of-self c =
    let kept = c.self.invariant.0 in
    let rooms = c.self.invariant.1 in
    let places = kept.places in
    let between = kept.between in
    let before = c.args.self.now.core in
    let place = place_of c.self.inside.budgets.setup c.args.holder c.args.conit in
    let lent = AreLentBy-lent before.counts.count before.budgets.lent place c.args.amount c.requires.amount c.requires.lent in (
      record {
        setup = kept.setup;
        places = record {
          among = places.among;
          bases_sized = places.bases_sized;
          logs_sized = places.logs_sized;
          covers_sized = places.covers_sized;
          known_sized = places.known_sized;
          calls_sized = places.calls_sized;
        };
        budgets = record { setup = ap (λ b. b.setup) c.lend.ensures ∙ kept.budgets.setup; replica = ap (λ b. b.replica) c.lend.ensures ∙ kept.budgets.replica };
        between = record { ordered = between.ordered; placed = between.placed; own = between.own; committed = between.committed };
        bases = record { within = kept.bases.within; had = kept.bases.had };
        few = kept.few;
        lent = AreLentBy-same c.self.inside.count (ap (λ b. b.lent) c.lend.ensures)
            (subst (λ (s : ReplicaState). AreLentBy s.core.counts.count (set s.core.budgets.lent place (get_or s.core.budgets.lent place 0 + c.args.amount)))
            (sym (c.self.view_is ∙ c.enter.ensures)) lent);
      },
      record { own = rooms.own; others = rooms.others; seen = rooms.seen; budgets = omega (arith, rooms.budgets, ap (λ b. b.room) c.lend.ensures) },
      c.self.invariant.2,
    )
