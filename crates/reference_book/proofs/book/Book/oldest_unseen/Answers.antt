use Rattle.std.proofs.Common.{◌≡◌, ℕ, List, [], length, get_or, drop, flat_map, sym, ap, ap₂, ◌∙◌, subst, arith}
use Rattle.std.specs.List.{range_with_len}
use Rattle.std.specs.Option.{option_map}
use Rattle.std.specs.Prelude.{slice_get}
use Rattle.std.proofs.lemmas.List.{map-append, get_or_read}
use Rattle.tact_base.proofs.RangeLists.{flat_map_range_more}
use Rattle.tact_base.specs.declared.write.Write.{Write}
use Rattle.replica_core.specs.States.{log_at}
use Rattle.reference_book.specs.Books.{BookState, IsLeast, moments_of, log_in}
use Rattle.reference_book.proofs.Least.{IsLeast-from}
use Rattle.reference_book.proofs.book.Book.oldest_unseen.Goals as goal

pub loop-origin-preserved : goal.loop-origin-preserved
loop-origin-preserved c = λ rising.
    let book = c.args.self.now in
    let core = c.args.view.now.core in
    let origin = c.loop-origin.origin in
    let unseen = λ (o : ℕ). drop (length (log_at core o)) (log_in book o) in
    let logs : c.deref-log-items.result.now ≡ book.logs = c.deref-log-items.ensures.value ∙ ap (λ (b : BookState). b.logs) c.self.view_is in
    let log : c.log-item.result ≡ log_in book origin =
    get_or_read c.deref-log-items.result.now origin c.log-item.result c.loop-origin-test.true c.log-item.is []
    ∙ ap (λ (ls : List (List Write)). get_or ls origin []) logs in
    let have : c.have.result ≡ length (log_at core origin) = c.have.ensures in
    let first : IsLeast (moments_of (unseen origin)) c.moment_at-first.result =
    subst (IsLeast (moments_of (unseen origin)))
    (ap₂ (λ (ws : List Write) (n : ℕ). option_map (λ (w : Write). w.moment) (slice_get ws n)) (sym log) (sym have) ∙ sym c.moment_at-first.ensures)
    (IsLeast-from (log_in book origin) (length (log_at core origin)) (rising origin [] (omega (arith, c.loop-origin-test.true, ap length logs)))) in
    subst (λ (ns : List ℕ). IsLeast ns c.lesser-oldest.result)
    (sym (map-append (λ (w : Write). w.moment) (flat_map unseen (range_with_len 0 origin)) (unseen origin)) ∙ ap moments_of (sym (flat_map_range_more unseen origin)))
    (c.lesser-oldest.ensures (moments_of (flat_map unseen (range_with_len 0 origin))) (moments_of (unseen origin)) (c.loop-origin.invariant rising) first)
