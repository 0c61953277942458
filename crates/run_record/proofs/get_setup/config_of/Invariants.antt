use Rattle.std.proofs.Common.{◌≡◌, map, take}
use Rattle.std.specs.List.{flat_map}
use Rattle.run_record.specs.declared.parts.Bound.{Bound}
use Rattle.run_record.proofs.get_setup.config_of.Given as goal

abbrev pub invariant-loop-bound : goal.invariant-loop-bound
invariant-loop-bound l = record {
  alphas : l.alphas ≡ map (λ (b : Bound). b.alpha) (take l.bound-index l.bounds);
  loans : l.loans ≡ flat_map (λ (b : Bound). b.loans) (take l.bound-index l.bounds);
}
