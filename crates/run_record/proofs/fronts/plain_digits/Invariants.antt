use Rattle.std.proofs.Common.{◌≡◌, ◌+◌, ◌≤◌, length, take, drop}
use Rattle.std.specs.List.{prefix_len}
use Rattle.std.specs.Char.{is_ascii_digit}
use Rattle.tact_base.specs.Numbers.{decimal_value}
use Rattle.run_record.proofs.fronts.plain_digits.Given as goal

abbrev pub invariant-loop-place : goal.invariant-loop-place
invariant-loop-place l = record {
  some : 1 ≤ l.place;
  inside : l.place ≤ length l.bytes;
  digits : l.place + prefix_len is_ascii_digit (drop l.place l.bytes) ≡ prefix_len is_ascii_digit l.bytes;
  so_far : l.value ≡ decimal_value (take l.place l.bytes);
}
