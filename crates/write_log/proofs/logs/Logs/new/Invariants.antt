use Rattle.std.proofs.Common.{◌≡◌, [], length, map, replicate}
use Rattle.write_log.proofs.logs.Logs.new.Given as goal

abbrev pub invariant-loop : goal.invariant-loop
invariant-loop l = record {
  count : length l.logs.items ≡ l.counter;
  empty : map (λ log. log.all) l.logs.items ≡ replicate l.counter [];
  bases : map (λ log. log.base) l.logs.items ≡ replicate l.counter 0;
}
