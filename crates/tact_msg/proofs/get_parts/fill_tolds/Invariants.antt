use Rattle.std.proofs.Common.{◌≡◌, ◌-◌, ◌≤◌, length, take, All}
use Rattle.tact_base.specs.declared.limits.TheConstants.{HISTORY_MAX, MESSAGE_WRITES}
use Rattle.tact_msg.specs.declared.parts.Told.{Told}
use Rattle.tact_msg.specs.Faults.{behind}
use Rattle.tact_msg.specs.MessageBytes.{tolds_at}
use Rattle.tact_msg.proofs.get_parts.fill_tolds.Given as goal

-- what was read so far, with what is still to be read, is what is read from the start
abbrev pub invariant-loop-item : goal.invariant-loop-item
invariant-loop-item l = record {
  within : l.place ≤ length l.bytes;
  room : l.room ≤ MESSAGE_WRITES;
  origin : l.origin ≡ l.item-index;
  small : All (λ (told : Told). told.first ≤ HISTORY_MAX) (take l.item-index l.items);
  read : behind (take l.item-index l.items) (tolds_at l.to (length l.items - l.item-index) l.origin l.room l.bytes l.place)
      ≡ tolds_at l.to (length l.items) 0 MESSAGE_WRITES l.bytes l.fn.start;
}
