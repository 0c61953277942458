-- A message in range of a setup, and a message by its own counts.
use Rattle.std.proofs.Common.{◌≡◌, ◌≤◌, sym, ap, subst, arith, ◌∙◌}
use Rattle.std.specs.List.{flat_map, range_with_len}
use Rattle.std.proofs.lemmas.List.Elements.{All-weaker}
use Rattle.tact_base.specs.declared.limits.TheConstants.{CONITS_MAX, REPLICAS_MAX, REPLICAS_MIN}
use Rattle.tact_base.specs.Setup.{Setup}
use Rattle.run_model.specs.declared.entry.Message.{Message}
use Rattle.run_model.specs.Taking.{told_writes}
use Rattle.run_model.specs.Ranges.{IsMessageInRange, IsWriteInRange}
use Rattle.tact_msg.specs.MessageBytes.{IsMessage, setup_of}
use Rattle.tact_msg.proofs.WriteReaders.{IsWriteOf}
use Rattle.tact_msg.proofs.MessageParts.{write_of_setup, write_in_setup}

-- ranges know of a setup its counts alone
pub in_range_by_counts : (a b : Setup) (message : Message)
    → a.replicas ≡ b.replicas
    → a.conits ≡ b.conits
    → IsMessageInRange a message
    → IsMessageInRange b message
in_range_by_counts a b message replicas conits is = record {
  from = omega (arith, is.from, replicas);
  to = omega (arith, is.to, replicas);
  others = is.others;
  number = is.number;
  haves = is.haves ∙ replicas;
  covers = is.covers ∙ replicas;
  firsts = is.firsts ∙ replicas;
  lent = is.lent ∙ conits;
  returned = is.returned ∙ conits;
  told = λ origin within. is.told origin (omega (arith, within, replicas));
  lent_most = is.lent_most;
  returned_most = is.returned_most;
  few = is.few;
  placed = is.placed ∙ same_origins a b message replicas;
  writes = All-weaker (IsWriteInRange a) (IsWriteInRange b)
      (λ write fits. write_in_setup b write (subst (λ n. IsWriteOf n write) conits (write_of_setup a write fits))) message.writes is.writes;
}
  where
    same_origins : (a b : Setup) (message : Message)
        → a.replicas ≡ b.replicas
        → flat_map (told_writes message) (range_with_len 0 a.replicas) ≡ flat_map (told_writes message) (range_with_len 0 b.replicas)
    same_origins a b message replicas = ap (λ n. flat_map (told_writes message) (range_with_len 0 n)) replicas

-- a message in range of a setup is one
pub message_of_setup : (setup : Setup) (message : Message)
    → REPLICAS_MIN ≤ setup.replicas
    → setup.replicas ≤ REPLICAS_MAX
    → 1 ≤ setup.conits
    → setup.conits ≤ CONITS_MAX
    → IsMessageInRange setup message
    → IsMessage message
message_of_setup setup message replicas_least replicas_most conits_least conits_most is = record {
  replicas_least = omega (arith, is.haves, replicas_least);
  replicas_most = omega (arith, is.haves, replicas_most);
  conits_least = omega (arith, is.lent, conits_least);
  conits_most = omega (arith, is.lent, conits_most);
  in_range = in_range_by_counts setup (setup_of message) message (sym is.haves) (sym is.lent) is;
}
