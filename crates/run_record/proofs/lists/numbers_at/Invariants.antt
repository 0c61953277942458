use Rattle.std.proofs.Common.{◌≡◌, ◌-◌, ◌≤◌, false, All, length}
use Rattle.run_record.specs.Fields.{number_at}
use Rattle.run_record.specs.Lists.{list_at}
use Rattle.run_record.specs.Splitting.{tokens}
use Rattle.run_record.proofs.ListLoop.{with_front}
use Rattle.run_record.proofs.lists.numbers_at.Given as goal

-- the numbers read so far, with those that are still to be read, are those that are read from the start
abbrev pub invariant-loop-place : goal.invariant-loop-place
invariant-loop-place l = record {
  size : length l.numbers ≡ l._place;
  within : All (λ number. number ≤ l.most) l.numbers;
  read : with_front l.numbers (list_at (λ least. number_at l.most) (λ number. 0) (λ rest. false) (l.count - l._place) 0 (tokens l.rest))
      ≡ list_at (λ least. number_at l.most) (λ number. 0) (λ rest. false) l.count 0 (tokens l.line);
}
