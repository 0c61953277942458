use Rattle.std.proofs.Common.{◌≡◌, ◌++◌, length, drop, replicate, ◌∙◌, arith}
use Rattle.std.proofs.lemmas.List.{length-append, length-drop, length-replicate, drop-replicate}
use Rattle.std.proofs.Math.Seq.{drop-append_seam}
use Rattle.tact_base.proofs.few.Few.new.Goals as goal

pub invariant_of-result : goal.invariant_of-result
invariant_of-result g c =
    let items = c.args.items.now in
    let most = g.row.N in
    let blanks = replicate most c.blank-list.result in
    let rest = drop (length items) blanks in
    let long : length (items ++ rest) ≡ most =
    omega (arith, c.requires, length-append items rest, length-drop (length items) blanks, length-replicate most c.blank-list.result) in
    rw (c.copy_from_slice.ensures.after, ← c.blank-list.ensures)
    (c.requires, long, drop-append_seam items rest ∙ drop-replicate (length items) most c.blank-list.result)
