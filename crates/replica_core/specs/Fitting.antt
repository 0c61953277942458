-- What a replica can take, write by write.
use Rattle.std.specs.Prelude.{◌<◌, ◌≤◌, length}
use Rattle.tact_base.specs.declared.write.Write.{Write}
use Rattle.run_model.specs.Taking.{told_cover, told_first}
use Rattle.run_model.specs.declared.entry.Message.{Message}
use Rattle.replica_core.specs.States.{Core, log_at}

-- a told write stands above the point and at most at the stamp of the sender, where the log of its origin would take it
abbrev pub IsToldDue : Core → Message → Write → Type 0
IsToldDue core message write =
    let have = length (log_at core write.origin) in
    told_first message write.origin ≤ have → have ≤ write.index
    → (core.writes.point < write.stamp) × (write.stamp ≤ (told_cover message message.from).stamp)
