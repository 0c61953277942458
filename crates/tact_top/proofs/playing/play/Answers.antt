use Rattle.tact_top.specs.ScriptForm.{IsPlayed, IsScriptFault}
use Rattle.tact_top.proofs.Played.{completes, played_cause}
use Rattle.tact_top.proofs.playing.play.Goals as goal

pub returns-clause-complete : goal.returns-clause-complete
returns-clause-complete g c =
    let left = g.S.Source.left c.args.source.now in
    let rest = g.S.Source.left c.play.new.source in
    let reads = g.S.Source.faults c.args.source.now in
    let reads' = g.S.Source.faults c.play.new.source in
    let writes = g.K.Sink.faults c.args.sink.now in
    let writes' = g.K.Sink.faults c.play.new.sink in
    completes IsPlayed IsScriptFault rest reads reads' writes writes' c.play.result left
    (played_cause rest (g.K.Sink.written c.args.sink.now) (g.K.Sink.written c.play.new.sink) reads reads' writes writes' c.play.result left
    c.play.ensures.cause c.play.ensures.written)
