use Rattle.std.proofs.Common.{◌≡◌, take}
use Rattle.std.proofs.lemmas.List.{take_all}
use Rattle.script_text.proofs.GoodLemmas.{lines_are_good, not_true}
use Rattle.script_text.proofs.good_lines.are_good.Goals as goal

pub returns : goal.returns
returns c = λ good.
    let text = c.args.text.now in
    let whole : take c.loop-byte.byte-index text ≡ text = take_all c.loop-byte.byte-index text c.loop-byte-test.false in
    lines_are_good text (rw whole at (rw c.loop-byte.invariant at (not_true c.loop-byte.is_foul good)))
