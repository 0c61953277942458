use Rattle.std.proofs.Common.{◌≡◌, ℕ, ◌+◌, ◌<◌, ◌≤◌, ◌==◌, cond, List, ◌++◌, All, length, take, drop, flat_map, sym, ap, ap₂, ◌∙◌, subst, ⊎_elim, arith}
use Rattle.std.specs.List.{range_with_len}
use Rattle.std.proofs.lemmas.Bool.{cases_eq}
use Rattle.std.proofs.lemmas.List.{length-append}
use Rattle.std.proofs.lemmas.List.Elements.{All-weaker, All-filter}
use Rattle.std.proofs.Math.Seq.{take-append_seam, drop-append_seam}
use Rattle.tact_base.proofs.RangeLists.{flat_map_range_more}
use Rattle.tact_base.specs.Logs.{log_after}
use Rattle.tact_base.specs.declared.conit_list.Weight.{Weight}
use Rattle.tact_base.specs.declared.write.Write.{Write}
use Rattle.run_model.specs.Ranges.{IsMessageInRange, IsWriteInRange, IsWeightInRange}
use Rattle.run_model.specs.Taking.{told_first, told_writes}
use Rattle.run_model.specs.declared.entry.Message.{Message}
use Rattle.run_model.proofs.OriginWrites.{from_one-origins}
use Rattle.tact_base.specs.Setup.{Setup}
use Rattle.replica_core.specs.States.{Core, ReplicaState, AreNext, log_at}
use Rattle.replica_core.specs.Taking.{log_told}
use Rattle.replica_core.proofs.AddingNext.{StandsIn, stands_there}
use Rattle.replica_core.proofs.replica.Replica.add_told.Goals as goal

-- Of a message in range, the told writes of one origin.
module _ (setup : Setup) (message : Message) (in_range : IsMessageInRange setup message) (at start : ℕ) (at_in : at < setup.replicas)
    (start_is : start ≡ length (flat_map (told_writes message) (range_with_len 0 at))) where
  abbrev front : List Write
  front = flat_map (told_writes message) (range_with_len 0 at)

  abbrev told : List Write
  told = told_writes message at

  there : StandsIn (told_writes message) at message.writes
  there =
      let found = stands_there (told_writes message) at setup.replicas at_in in
      record { rest = found.rest; is = in_range.placed ∙ found.is }

  within : start + length told ≤ length message.writes
  within = omega (arith, start_is, ap length there.is, length-append front (told ++ there.rest), length-append told there.rest)

  placed : take (length told) (drop start message.writes) ≡ told
  placed =
      ap (take (length told)) (ap₂ drop start_is there.is ∙ drop-append_seam front (told ++ there.rest))
      ∙ take-append_seam told there.rest

  next : AreNext setup.conits at (told_first message at) told
  next =
      let P = λ (write : Write). All (λ (weight : Weight). weight.conit < setup.conits) write.weights in
      let range = in_range.told at at_in in
      record {
        origins = from_one-origins at message.writes;
        indices = range.indices;
        on_conits = All-filter (λ (write : Write). write.origin == at) P message.writes
            (All-weaker (IsWriteInRange setup) P (λ write in_range. All-weaker (IsWeightInRange setup) (λ (weight : Weight). weight.conit < setup.conits)
            (λ weight range. range.conit) write.weights in_range.weights.each) message.writes in_range.writes);
        few = omega (arith, range.told, range.first, range.have);
      }

pub told_of-told-requires-clause-within : goal.told_of-told-requires-clause-within
told_of-told-requires-clause-within c =
    let setup = c.args.self.now.core.setup in
    let at_in : c.loop-origin.origin < setup.replicas = omega (arith, c.loop-origin-test.true, c.replicas-origin-end.ensures.count, ap (λ (s : ReplicaState). s.core.setup.replicas) c.self.view_is) in
    within setup c.args.message.now c.requires.fits.in_range c.loop-origin.origin c.loop-origin.start at_in c.loop-origin.invariant.start

pub told_of-told-requires-clause-placed : goal.told_of-told-requires-clause-placed
told_of-told-requires-clause-placed c =
    let setup = c.args.self.now.core.setup in
    let at_in : c.loop-origin.origin < setup.replicas = omega (arith, c.loop-origin-test.true, c.replicas-origin-end.ensures.count, ap (λ (s : ReplicaState). s.core.setup.replicas) c.self.view_is) in
    placed setup c.args.message.now c.requires.fits.in_range c.loop-origin.origin c.loop-origin.start at_in c.loop-origin.invariant.start

pub add_from-requires-clause-next : goal.add_from-requires-clause-next
add_from-requires-clause-next c =
    let setup = c.args.self.now.core.setup in
    let at_in : c.loop-origin.origin < setup.replicas = omega (arith, c.loop-origin-test.true, c.replicas-origin-end.ensures.count, ap (λ (s : ReplicaState). s.core.setup.replicas) c.self.view_is) in
    subst (AreNext c.loop-origin.self.core.setup.conits c.loop-origin.origin (told_first c.args.message.now c.loop-origin.origin)) (sym c.told_of-told.ensures)
    (subst (λ (s : Setup). AreNext s.conits c.loop-origin.origin (told_first c.args.message.now c.loop-origin.origin)
    (told_writes c.args.message.now c.loop-origin.origin)) (sym (ap (λ (k : Core). k.setup) c.loop-origin.invariant.core))
    (next setup c.args.message.now c.requires.fits.in_range c.loop-origin.origin c.loop-origin.start at_in c.loop-origin.invariant.start))

pub add_from-requires-clause-room : goal.add_from-requires-clause-room
add_from-requires-clause-room c =
    let setup = c.args.self.now.core.setup in
    let at_in : c.loop-origin.origin < setup.replicas = omega (arith, c.loop-origin-test.true, c.replicas-origin-end.ensures.count, ap (λ (s : ReplicaState). s.core.setup.replicas) c.self.view_is) in
    let few = within setup c.args.message.now c.requires.fits.in_range c.loop-origin.origin c.loop-origin.start at_in c.loop-origin.invariant.start in
    omega (arith, few, c.requires.room, c.loop-origin.invariant.room, ap length c.told_of-told.ensures)

pub loop-origin-preserved : goal.loop-origin-preserved
loop-origin-preserved c =
    let old = c.args.self.now.core in
    let message = c.args.message.now in
    let at = c.loop-origin.origin in
    let before = c.loop-origin.self.core in
    let after = c.add_from.new.self.core in
    let inv = c.loop-origin.invariant in
    let same_log : log_told before message at ≡ log_told old message at =
    ap₂ (λ (r : ℕ) (log : List Write). cond (at == r) log (log_after log (told_first message at) (told_writes message at))) (ap (λ (k : Core). k.replica) inv.core) (inv.later at (omega arith)) in
    record {
      core = c.add_from.ensures.core ∙ ap (λ (k : Core). let t : Core = record k { writes = record k.writes { logs = after.writes.logs; seen = after.writes.seen } } in t) inv.core;
      sized = c.add_from.ensures.sized ∙ inv.sized;
      told = λ origin early inside. ⊎_elim
          (λ (same : origin ≡ at). ap (log_at after) same ∙ c.add_from.ensures.log ∙ same_log ∙ ap (log_told old message) (sym same))
          (λ (differ : origin ≡ at → ⊥). c.add_from.ensures.others origin differ ∙ inv.told origin (omega (arith, early, differ)) inside)
          (cases_eq origin at);
      later = λ origin late. c.add_from.ensures.others origin (λ same. absurd (omega (arith, late, same))) ∙ inv.later origin (omega (arith, late));
      start = omega (
        arith,
        inv.start,
        ap length c.told_of-told.ensures,
        ap length (flat_map_range_more (told_writes message) at),
        length-append
            (flat_map (told_writes message) (range_with_len 0 at)) (told_writes message at),
      );
      spare = c.add_from.ensures.spare ∙ inv.spare;
      room = omega (arith, inv.room, c.add_from.ensures.room);
    }

pub overflow_add-start : goal.overflow_add-start
overflow_add-start c =
    let setup = c.args.self.now.core.setup in
    let at_in : c.loop-origin.origin < setup.replicas = omega (arith, c.loop-origin-test.true, c.replicas-origin-end.ensures.count, ap (λ (s : ReplicaState). s.core.setup.replicas) c.self.view_is) in
    let few = within setup c.args.message.now c.requires.fits.in_range c.loop-origin.origin c.loop-origin.start at_in c.loop-origin.invariant.start in
    omega (arith, few, c.requires.fits.in_range.few, ap length c.told_of-told.ensures)
