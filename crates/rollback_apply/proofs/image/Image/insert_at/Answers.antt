use Rattle.std.proofs.Common.{◌+◌, ◌-◌, ◌≤◌, ap, arith}
use Rattle.rollback_apply.specs.Image.{ImageState}
use Rattle.rollback_apply.proofs.ImageLemmas.{memory-fewer}
use Rattle.rollback_apply.proofs.image.Image.insert_at.Goals as goal

pub limit_lag-self-inside-requires-clause-memory : goal.limit_lag-self-inside-requires-clause-memory
limit_lag-self-inside-requires-clause-memory c =
    let undone = c.undo_back-applied in
    let room = c.self.inside.room in
    let one : 1 ≤ room = omega (arith, c.requires.room, ap (λ (image : ImageState). image.room) c.self.view_is) in
    c.insert.ensures.memory undone.result 0 undone.ensures.above
    (memory-fewer undone.new.self undone.result room 1 one (undone.ensures.memory room c.self.invariant.memory))

pub invariant_of-self : goal.invariant_of-self
invariant_of-self c =
    let undone = c.undo_back-applied in
    let room = c.self.inside.room in
    let last = c.limit_lag-self-inside.ensures in
    let one : room - 1 + 1 ≤ room = omega (arith, c.requires.room, ap (λ (image : ImageState). image.room) c.self.view_is) in
    record {
      applies = last.applies;
      within = omega (arith, last.within);
      few = omega (arith, last.few);
      counted = rw (last.settled, c.insert.ensures.settled, undone.ensures.settled) c.self.invariant.counted;
      memory =
          last.memory (room - 1)
          (c.insert.ensures.memory undone.result (room - 1) undone.ensures.above
          (memory-fewer undone.new.self undone.result room (room - 1 + 1) one (undone.ensures.memory room c.self.invariant.memory)));
    }
