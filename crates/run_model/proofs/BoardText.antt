-- What the definitions make of the bulletin board: 125 entries, computed whole.
use Rattle.std.proofs.Common.{◌≡◌, refl}
use Rattle.std.specs.Fmt.{digits}
use Rattle.run_model.specs.Worked.{text_of}
use Rattle.run_model.specs.WorkedBoard.{bulletin_board, bulletin_board_text}

pub text_of-bulletin_board : text_of bulletin_board ≡ bulletin_board_text
unfolding digits
text_of-bulletin_board = refl
