use Rattle.run_work.specs.Shelves.{ShelfEnd}
use Rattle.tact_top.proofs.Unwritten.{unwritten_cause, unwritten_completes}
use Rattle.tact_top.proofs.running.run.Goals as goal

pub returns-in-Err-clause-cause : goal.returns-in-Err-clause-cause
returns-in-Err-clause-cause g c =
    let shelf : ShelfEnd = record { tells = g.B.J.Journal.tells; before = g.B.Shelf.faults c.args.shelf.now; after = g.B.Shelf.faults c.record_of.new.shelf; stored = g.B.Shelf.stored c.record_of.new.shelf } in
    let left = g.S.Source.left c.args.source.now in
    let rest = g.S.Source.left c.read_all.new.source in
    let reads = g.S.Source.faults c.args.source.now in
    let reads' = g.S.Source.faults c.read_all.new.source in
    let writes = g.K.Sink.faults c.args.sink.now in
    unwritten_cause shelf c.args.tries c.in-Ok.input left rest reads reads' writes writes c.in-Err.status
    c.in-Err.ensures.unwritten c.in-Ok.ensures.all c.in-Ok.ensures.within c.in-Ok.ensures.at_end

pub returns-in-Err-clause-complete : goal.returns-in-Err-clause-complete
returns-in-Err-clause-complete g c =
    let shelf : ShelfEnd = record { tells = g.B.J.Journal.tells; before = g.B.Shelf.faults c.args.shelf.now; after = g.B.Shelf.faults c.record_of.new.shelf; stored = g.B.Shelf.stored c.record_of.new.shelf } in
    let left = g.S.Source.left c.args.source.now in
    let rest = g.S.Source.left c.read_all.new.source in
    let reads = g.S.Source.faults c.args.source.now in
    let reads' = g.S.Source.faults c.read_all.new.source in
    let writes = g.K.Sink.faults c.args.sink.now in
    unwritten_completes shelf c.args.tries c.in-Ok.input left rest reads reads' writes writes c.in-Err.status
    c.in-Err.ensures.unwritten c.in-Ok.ensures.all c.in-Ok.ensures.within c.in-Ok.ensures.at_end
