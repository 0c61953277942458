use Rattle.std.proofs.Common.{set, subst}
use Rattle.write_log.specs.Logs.{LogState, TakesWrites}
use Rattle.write_log.proofs.Places.{state_of, held_place, field_other, told}
use Rattle.write_log.proofs.logs.Logs.extend.Goals as goal

pub returns-clause-taken : goal.returns-clause-taken
returns-clause-taken c =
    let logs = c.self.inside.logs.items in
    let within = held_place logs c.args.self.now c.args.i c.self.view_is c.requires.origin in
    subst (λ (s : LogState). TakesWrites s (state_of (set logs c.args.i c.extend.new.self)) c.args.i c.args.first c.args.writes.now c.extend.result) c.self.view_is
    (told logs c.args.i c.index_mut-log.result.now within c.index_mut-log.ensures.value c.extend.new.self c.args.first c.args.writes.now c.extend.result c.extend.ensures)

pub returns-clause-others : goal.returns-clause-others
returns-clause-others c = λ j other. rw (← c.self.view_is) (field_other (λ log. log.room) c.self.inside.logs.items c.args.i c.extend.new.self j 0 other)
