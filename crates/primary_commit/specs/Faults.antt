-- Why a peer refuses.
use Rattle.std.specs.Prelude.{◌≡◌, ◌<◌}
use Rattle.tact_base.specs.declared.limits.TheConstants.{HISTORY_MAX}
use Rattle.primary_commit.specs.Peers.{PeerState}
use Rattle.primary_commit.specs.declared.peer.PeerFault.{PeerFault}
use Rattle.primary_commit.specs.declared.peer.PeerFault.TheVariants as fault

-- Full exactly where it was in as many events as it may
abbrev pub IsFaultOf : PeerState → PeerFault → Type 0
IsFaultOf peer (fault.Full count) = (peer.events ≡ HISTORY_MAX) × (count ≡ HISTORY_MAX)
IsFaultOf peer fault.NoMemory = peer.events < HISTORY_MAX
