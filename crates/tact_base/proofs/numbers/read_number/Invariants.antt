use Rattle.std.proofs.Common.{◌≡◌, ◌+◌, ◌^◌, ◌<◌, take, drop}
use Rattle.std.specs.List.{prefix_len}
use Rattle.std.specs.Char.{is_ascii_digit}
use Rattle.tact_base.specs.Numbers.{decimal_value}
use Rattle.tact_base.proofs.numbers.read_number.Given as goal

abbrev pub invariant-loop-byte : goal.invariant-loop-byte
invariant-loop-byte l = record {
  at : l.end ≡ l.start + l.byte-index;
  digits : l.byte-index + prefix_len is_ascii_digit (drop l.byte-index (drop l.start l.bytes)) ≡ prefix_len is_ascii_digit (drop l.start l.bytes);
  fits : l.value < 2 ^ 64;
  so_far : l.value ≡ decimal_value (take l.byte-index (drop l.start l.bytes));
}
