use Rattle.std.proofs.Common.{◌≡◌, take}
use Rattle.std.specs.List.{list_any}
use Rattle.script_text.specs.GoodLines.{is_foul}
use Rattle.script_text.proofs.good_lines.are_good.Given as goal

abbrev pub invariant-loop-byte : goal.invariant-loop-byte
invariant-loop-byte l = l.is_foul ≡ list_any is_foul (take l.byte-index l.text)
