-- Both sides compute to one text.
use Rattle.std.proofs.Common.{refl}
use Rattle.std.specs.Fmt.{digits}
use Rattle.run_model.proofs.BoardText.{text_of-bulletin_board}
use Rattle.run_model.proofs.worked.worked_scripts.Goals as goal

pub returns : goal.returns
unfolding digits
returns c = record {
  one_over_the_share = refl;
  another_peer_still_misses = refl;
  too_heavy = refl;
  signs = refl;
  a_repeat = refl;
  a_gap = refl;
  an_old_acknowledgement = refl;
  equal_stamps = refl;
  rollback = refl;
  order_bound = refl;
  staleness = refl;
  a_lost_return = refl;
  loans = refl;
  allowances = refl;
  admission_of_one_replica = refl;
  restarts = refl;
  two_conits = refl;
  bulletin_board = text_of-bulletin_board;
}
