use Rattle.std.proofs.Common.{◌≡◌, ◌<◌, List, length, sym, ap, ◌∙◌, subst}
use Rattle.tact_base.specs.Setup.{Setup}
use Rattle.run_model.specs.declared.entry.Entry.{Entry}
use Rattle.run_work.specs.Finished.{IsFaultOf}
use Rattle.run_work.specs.Runs.{IsDoneRun}
use Rattle.run_work.specs.Shelves.{ShelfEnd}
use Rattle.run_work.proofs.Closed.{IsMerge-parts}
use Rattle.run_work.proofs.Finishing.{some_clerk}
use Rattle.run_work.proofs.RunLemmas.{IsClosed, IsDoneRun-closed, IsStoppedRun-closed, clerks_are, done_by, stopped_by}
use Rattle.run_work.proofs.run.run_plan.Goals as goal
use Rattle.run_work.proofs.run.run_plan.Goals.{In_ok-entries}

pub close-history-requires-clause-whole : goal.close-history-requires-clause-whole
close-history-requires-clause-whole g c =
    clerks_are c.in_ok-desk.desk c.in_ok-drawn.field-0.drawn c.in_ok-drawn.ensures.finished.drawn

pub in_order-requires : goal.in_order-requires
in_order-requires g c =
    IsMerge-parts c.in_ok-drawn.field-0.drawn.clerks.items c.in_ok-drawn.field-0.drawn.parts.items c.close-history.result
    (sym c.in_ok-drawn.ensures.finished.drawn.parts) c.close-history.ensures.merge

-- the setup of the desk is the plan's, and there is a clerk
setup_is : (g : _) (c : In_ok-entries g) → c.in_ok-desk.desk.setup ≡ c.args.plan.now.setup
setup_is g c = c.in_ok-desk.ensures.setup ∙ c.config.ensures.config

there_are : (g : _) (c : In_ok-entries g) → 0 < length c.in_ok-drawn.field-0.drawn.clerks.items
there_are g c =
    some_clerk c.args.plan.now.setup c.in_ok-drawn.field-0.drawn.clerks.items c.config.ensures.sound.setup
    (c.in_ok-drawn.ensures.finished.drawn.count ∙ ap (λ (setup : Setup). setup.replicas) (setup_is g c))

abbrev shelf_of : (g : _) → In_ok-entries g → ShelfEnd
shelf_of g c = record { tells = g.B.J.Journal.tells; before = g.B.Shelf.faults c.args.shelf.now; after = g.B.Shelf.faults c.run_on.new.shelf; stored = g.B.Shelf.stored c.run_on.new.shelf }

is_closed : (g : _) (c : In_ok-entries g) → IsClosed c.in_ok-desk.desk.setup c.in_ok-drawn.field-0.drawn.clerks.items c.close-history.result
is_closed g c =
    record { run = c.close-history.ensures.run; kept = c.close-history.ensures.kept; parts = c.close-history.ensures.parts; seen = c.close-history.ensures.seen }

pub returns-clause-done : goal.returns-clause-done
returns-clause-done g c =
    let here = (goal.at.returns-clause-done g c).In_ok-entries in
    let shelf : ShelfEnd = shelf_of g here in
    done_by shelf c.args.plan.now c.args.tries c.in_ok-entries.entries.items c.in_ok-drawn.field-0.stop c.end_run.result
    (λ none. subst (IsDoneRun shelf c.args.plan.now c.args.tries) (sym c.in_ok-entries.ensures)
    (IsDoneRun-closed shelf c.args.plan.now c.args.tries c.in_ok-desk.desk c.in_ok-drawn.field-0 c.close-history.result (setup_is g here) c.config.ensures.sound.clients (there_are g here)
    c.in_ok-drawn.ensures.finished (is_closed g here) none))
    c.end_run.ensures.done

pub returns-clause-stopped : goal.returns-clause-stopped
returns-clause-stopped g c =
    let here = (goal.at.returns-clause-stopped g c).In_ok-entries in
    let shelf : ShelfEnd = shelf_of g here in
    stopped_by shelf c.args.plan.now c.args.tries c.in_ok-entries.entries.items c.in_ok-drawn.field-0.stop c.end_run.result
    (λ told of. IsStoppedRun-closed shelf c.args.plan.now c.args.tries c.in_ok-desk.desk c.in_ok-drawn.field-0 c.close-history.result (setup_is g here) c.config.ensures.sound.clients (there_are g here)
    c.in_ok-drawn.ensures.finished (is_closed g here) told (subst (λ (run : List Entry). IsFaultOf run c.in_ok-drawn.field-0.stop told) c.in_ok-entries.ensures of))
    c.end_run.ensures.stopped
