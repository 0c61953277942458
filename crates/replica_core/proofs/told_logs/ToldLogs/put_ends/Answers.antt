use Rattle.std.proofs.Common.{◌≡◌, ℕ, ◌-◌, min, [], length, get_or, set, sym, ap, ◌∙◌, ⊎_elim, arith}
use Rattle.std.proofs.lemmas.Bool.{cases_eq}
use Rattle.std.proofs.lemmas.List.{get_or-set_other, get_or-set_same, length-drop, length-set}
use Rattle.write_log.specs.Logs.{LogState}
use Rattle.replica_core.specs.Told.{end_told, of_origin, writes_past}
use Rattle.replica_core.proofs.ToldLemmas.{room_left}
use Rattle.replica_core.proofs.told_logs.ToldLogs.put_ends.Goals as goal

pub loop-origin-preserved : goal.loop-origin-preserved
loop-origin-preserved c =
    let logs = c.args.self.now.logs in
    let firsts = c.args.firsts.now in
    let origin = c.loop-origin.origin in
    let room = c.loop-origin.room in
    let ends = c.loop-origin.ends in
    let end = c.min-end.result in
    let was = c.loop-origin.invariant in
    let have : c.count.result ≡ length (of_origin logs origin) = c.count.ensures ∙ ap (λ (s : LogState). length (get_or s.logs origin [])) c.self.view_is in
    let is : end ≡ end_told logs firsts origin = omega (arith, have, was.room, c.min-end.ensures, c.saturating_add.ensures) in
    let told : c.saturating_sub-room.result ≡ min room (length (writes_past logs firsts origin)) =
    omega (arith, is, was.room, c.saturating_sub-room.ensures, length-drop (get_or firsts origin 0) (of_origin logs origin)) in
    record {
      room = room_left (writes_past logs firsts) origin room (room - c.saturating_sub-room.result) was.room (ap (λ (n : ℕ). room - n) told);
      sized = length-set ends origin end ∙ was.sized;
      told = λ at below. ⊎_elim
          (λ (same : at ≡ origin).
          ap (λ (o : ℕ). get_or (set ends origin end) o 0) same
          ∙ get_or-set_same ends origin end 0 (omega (arith, c.loop-origin-test.true, c.self.invariant.few, was.sized, c.loop-origin.auto.origin-end))
          ∙ is ∙ ap (end_told logs firsts) (sym same))
          (λ (other : at ≡ origin → ⊥).
          get_or-set_other ends origin at end 0 other ∙ was.told at (omega (arith, below, other)))
          (cases_eq at origin);
    }
