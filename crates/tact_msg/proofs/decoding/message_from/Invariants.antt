use Rattle.std.proofs.Common.{◌≡◌, take, map}
use Rattle.tact_msg.specs.declared.parts.Told.{Told}
use Rattle.tact_msg.proofs.decoding.message_from.Given as goal

abbrev pub invariant-loop-told : goal.invariant-loop-told
invariant-loop-told l = record {
  haves : l.haves ≡ map (λ (told : Told). told.have) (take l.told-index l.tolds);
  covers : l.covers ≡ map (λ (told : Told). told.cover) (take l.told-index l.tolds);
  firsts : l.firsts ≡ map (λ (told : Told). told.first) (take l.told-index l.tolds);
}
