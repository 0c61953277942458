use Rattle.std.proofs.Common.{◌≡◌, Err, All, List, map, sym, ap, subst, subst₂, ◌∙◌}
use Rattle.run_model.specs.Runs.{IsPart}
use Rattle.run_model.specs.declared.entry.Entry.{Entry}
use Rattle.replica_core.specs.Stands.{Stands}
use Rattle.restart_journal.specs.Pieces.{piece_bytes}
use Rattle.restart_journal.specs.Recovery.{TellsOf}
use Rattle.restart_journal.specs.declared.fault.RecoverFault.TheVariants as recover
use Rattle.journal_reread.specs.Rereading.{CanBeSpelled, HasPiecesOf, IsUnlike, entries_in, kept_where, with_kept}
use Rattle.journal_reread.specs.declared.fault.RereadFault.TheVariants as reread
use Rattle.journal_reread.proofs.Due.{no_other}
use Rattle.journal_reread.proofs.Stored.{due_have_pieces, none_is_bad, same_entries}
use Rattle.journal_reread.proofs.rereading.reread.Goals as goal

pub are_due_spellable-requires : goal.are_due_spellable-requires
are_due_spellable-requires g c =
    due_have_pieces c.args.config.now c.replicas-replicas.ensures.sound c.args.replica (entries_in c.args.stored.now) c.args.doubt.now c.requires.part c.requires.next

pub is_kept-requires-clause-due : goal.is_kept-requires-clause-due
is_kept-requires-clause-due g c =
    due_have_pieces c.args.config.now c.replicas-replicas.ensures.sound c.args.replica (entries_in c.args.stored.now) c.args.doubt.now c.requires.part c.requires.next

pub first_other-requires : goal.first_other-requires
first_other-requires g c =
    due_have_pieces c.args.config.now c.replicas-replicas.ensures.sound c.args.replica (entries_in c.args.stored.now) c.args.doubt.now c.requires.part c.requires.next

pub first_other-requires-in-Err-Full : goal.first_other-requires-in-Err-Full
first_other-requires-in-Err-Full g c =
    due_have_pieces c.args.config.now c.replicas-replicas.ensures.sound c.args.replica (entries_in c.args.stored.now) c.args.doubt.now c.requires.part c.requires.next

pub returns-in-Ok-is_kept-clause-stands : goal.returns-in-Ok-is_kept-clause-stands
returns-in-Ok-is_kept-clause-stands g c =
    let entries = entries_in c.args.stored.now in
    let kept = c.in-Ok-is_kept.kept in
    let looked_at : c.items.result.now ≡ c.in-Ok.field-0.stored = cc in
    let compared : c.items-in-Ok.result.now ≡ c.in-Ok.field-0.stored = cc in
    let part = subst₂ (λ s r. IsPart s r c.in-Ok.field-0.stored) c.in-Ok.ensures.setup c.in-Ok.ensures.replica c.in-Ok.ensures.stands.is_part in
    let can = subst (All CanBeSpelled) looked_at c.are_spellable.ensures in
    let alike = subst (λ (es : List Entry). map piece_bytes es ≡ map piece_bytes (with_kept entries (kept_where kept c.args.doubt.now))) compared c.in-Ok-is_kept.ensures.kept in
    subst (λ es. Stands es c.in-Ok.field-0.replica.core)
    (same_entries c.args.config.now c.replicas-replicas.ensures.sound c.args.replica entries c.args.doubt.now c.requires.part c.requires.next c.are_due_spellable.ensures c.in-Ok.field-0.stored kept part can alike)
    c.in-Ok.ensures.stands

pub returns-in-Err-clause-foreign : goal.returns-in-Err-clause-foreign
returns-in-Err-clause-foreign g c = λ place is tells.
    let entries = entries_in c.args.stored.now in
    let compared : c.items-in-Ok.result.now ≡ c.in-Ok.field-0.stored = cc in
    let which : c.in-Err.fault ≡ reread.Foreign place = cc in
    let unlike = subst (IsUnlike (map piece_bytes c.items-in-Ok.result.now) entries c.args.doubt.now) which c.in-Err.ensures.unlike in
    let spelled = (c.in-Ok.ensures.told tells).spelled ∙ ap (map piece_bytes) (sym compared) in
    no_other (map piece_bytes c.items-in-Ok.result.now) entries c.args.doubt.now place unlike.0
    (subst (λ ps. HasPiecesOf ps entries c.args.doubt.now) spelled (c.requires.has tells))

pub returns-in-Err-Foreign-clause-foreign : goal.returns-in-Err-Foreign-clause-foreign
returns-in-Err-Foreign-clause-foreign g c = λ place is tells.
    let pieces = g.J.Journal.pieces c.args.journal.now in
    let told = subst (λ fault. TellsOf c.args.config.now c.args.replica pieces (Err fault)) c.in-Err-Foreign.field-0-is
    (subst (TellsOf c.args.config.now c.args.replica pieces) c.in-Err-Foreign.is (c.recover.ensures.told tells)) in
    none_is_bad c.args.config.now c.replicas-replicas.ensures.sound c.args.replica pieces (entries_in c.args.stored.now) c.args.doubt.now (recover.Foreign c.in-Err-Foreign.place)
    c.requires.part c.requires.next c.are_due_spellable.ensures (c.requires.has tells) told (λ e. cc) (λ e. cc)

pub returns-in-Err-Full-clause-foreign : goal.returns-in-Err-Full-clause-foreign
returns-in-Err-Full-clause-foreign g c = λ place is tells.
    let pieces = g.J.Journal.pieces c.args.journal.now in
    let told = subst (λ fault. TellsOf c.args.config.now c.args.replica pieces (Err fault)) c.in-Err-Full.field-0-is
    (subst (TellsOf c.args.config.now c.args.replica pieces) c.in-Err-Full.is (c.recover.ensures.told tells)) in
    none_is_bad c.args.config.now c.replicas-replicas.ensures.sound c.args.replica pieces (entries_in c.args.stored.now) c.args.doubt.now (recover.Full c.in-Err-Full.place)
    c.requires.part c.requires.next c.are_due_spellable.ensures (c.requires.has tells) told (λ e. cc) (λ e. cc)
