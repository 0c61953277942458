use Rattle.std.proofs.Common.{◌≡◌, ◌<◌, length, sym, ap, ◌∙◌, subst, ⊎_elim, arith}
use Rattle.std.proofs.lemmas.List.{length-set}
use Rattle.std.proofs.lemmas.List.Elements.{All-set}
use Rattle.write_log.specs.Logs.{LogState}
use Rattle.replica_core.specs.Told.{ArePieces, AreEndsTold, told_from}
use Rattle.replica_core.specs.declared.told_logs.Told.{Told}
use Rattle.replica_core.proofs.ToldLemmas.{ArePieces-told}
use Rattle.replica_core.proofs.told_logs.ToldLogs.keep_told.Goals as goal

pub invariant_of-self : goal.invariant_of-self
invariant_of-self c =
    let logs = c.self.inside.logs.logs in
    let kept = c.self.invariant in
    let old = c.index_mut-told.result.now in
    let firsts = c.args.firsts.now in
    let ends = c.put_ends.new.ends in
    let among : c.args.to < length c.self.inside.told.items =
    omega (arith, c.requires.to, kept.sized, kept.places, ap (λ (s : LogState). length s.logs) c.self.view_is) in
    let made : Told = record { firsts = firsts; ends = ends; writes = c.args.writes.now } in
    let of_made : ArePieces logs made =
    ArePieces-told logs made
    (subst (λ (s : LogState). AreEndsTold s.logs firsts ends) (sym c.self.view_is) c.put_ends.ensures.ends)
    (c.requires.told ∙ ap (λ (s : LogState). told_from s.logs firsts) (sym c.self.view_is)) in
    let of_new : ArePieces logs c.set.new.self = ⊎_elim
    (λ (same : c.set.new.self ≡ old).
    subst (ArePieces logs) (sym (same ∙ c.index_mut-told.ensures.value)) (kept.pieces c.args.to old among))
    (λ (is : c.set.new.self ≡ made). subst (ArePieces logs) (sym is) of_made)
    c.set.ensures in
    record {
      sized = kept.sized;
      few = kept.few;
      places = length-set c.self.inside.told.items c.args.to c.set.new.self ∙ kept.places;
      pieces = All-set (ArePieces logs) c.self.inside.told.items c.args.to c.set.new.self of_new kept.pieces;
    }
