use Rattle.std.proofs.Common.{◌<◌, ◌∙◌, ap, length}
use Rattle.std.proofs.Math.Seq.{map-set_same}
use Rattle.write_log.specs.Logs.{LogState}
use Rattle.write_log.specs.OneLog.{OneLog}
use Rattle.write_log.proofs.Places.{held_place, field_read, field_written, field_other}
use Rattle.write_log.proofs.logs.Logs.reserve.Goals as goal

within : (c : goal.After-self-1) → c.args.i < length c.self.inside.logs.items
within c = held_place c.self.inside.logs.items c.args.self.now c.args.i c.self.view_is c.requires

pub returns-clause-logs : goal.returns-clause-logs
returns-clause-logs c =
    map-set_same (λ (log : OneLog). log.all) c.self.inside.logs.items c.args.i c.reserve.new.self c.index_mut-log.result.now
    (c.reserve.ensures.all ∙ ap (λ (log : OneLog). log.all) c.index_mut-log.ensures.value)
    ∙ ap (λ (s : LogState). s.logs) c.self.view_is

pub returns-clause-bases : goal.returns-clause-bases
returns-clause-bases c =
    map-set_same (λ (log : OneLog). log.base) c.self.inside.logs.items c.args.i c.reserve.new.self c.index_mut-log.result.now
    (c.reserve.ensures.base ∙ ap (λ (log : OneLog). log.base) c.index_mut-log.ensures.value)
    ∙ ap (λ (s : LogState). s.bases) c.self.view_is

pub returns-clause-room : goal.returns-clause-room
returns-clause-room c = rw (field_written (λ log. log.room) c.self.inside.logs.items c.args.i c.reserve.new.self 0 (within c)) c.reserve.ensures.room

pub returns-clause-kept : goal.returns-clause-kept
returns-clause-kept c =
    let read = field_read (λ log. log.room) c.self.inside.logs.items c.args.i c.index_mut-log.result.now 0 (within c) c.index_mut-log.ensures.value in
    rw (field_written (λ log. log.room) c.self.inside.logs.items c.args.i c.reserve.new.self 0 (within c), ← c.self.view_is, read) c.reserve.ensures.kept

pub returns-clause-others : goal.returns-clause-others
returns-clause-others c = λ j other. rw (← c.self.view_is) (field_other (λ log. log.room) c.self.inside.logs.items c.args.i c.reserve.new.self j 0 other)
