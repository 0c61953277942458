use Rattle.std.proofs.Common.{◌<◌, ◌∙◌, ap, length, set, map}
use Rattle.std.proofs.Math.Seq.{map-set_same}
use Rattle.std.proofs.lemmas.List.{map-set}
use Rattle.write_log.specs.Logs.{LogState}
use Rattle.write_log.specs.OneLog.{OneLog}
use Rattle.write_log.proofs.Places.{held_place, field_read, field_written, field_other, base_is}
use Rattle.write_log.proofs.logs.Logs.trim.Goals as goal

within : (c : goal.After-self-1) → c.args.i < length c.self.inside.logs.items
within c = held_place c.self.inside.logs.items c.args.self.now c.args.i c.self.view_is c.requires.origin

pub returns-clause-logs : goal.returns-clause-logs
returns-clause-logs c =
    map-set_same (λ (log : OneLog). log.all) c.self.inside.logs.items c.args.i c.trim.new.self c.index_mut-log.result.now
    (c.trim.ensures.all ∙ ap (λ (log : OneLog). log.all) c.index_mut-log.ensures.value)
    ∙ ap (λ (s : LogState). s.logs) c.self.view_is

pub returns-clause-bases : goal.returns-clause-bases
returns-clause-bases c =
    let logs = c.self.inside.logs.items in
    let base = base_is logs c.args.i c.index_mut-log.result.now (within c) c.index_mut-log.ensures.value in
    rw (← c.self.view_is, base) (map-set (λ (log : OneLog). log.base) logs c.args.i c.trim.new.self ∙ ap (set (map (λ log. log.base) logs) c.args.i) c.trim.ensures.base)

pub returns-clause-room : goal.returns-clause-room
returns-clause-room c =
    let read = field_read (λ log. log.room) c.self.inside.logs.items c.args.i c.index_mut-log.result.now 0 (within c) c.index_mut-log.ensures.value in
    rw (field_written (λ log. log.room) c.self.inside.logs.items c.args.i c.trim.new.self 0 (within c), ← c.self.view_is, read) c.trim.ensures.room

pub returns-clause-others : goal.returns-clause-others
returns-clause-others c = λ j other. rw (← c.self.view_is) (field_other (λ log. log.room) c.self.inside.logs.items c.args.i c.trim.new.self j 0 other)
