use Rattle.patch_move_laws.proofs.MoveLemmas.{own_moves}
use Rattle.patch_move_laws.proofs.moves.own_moves_are_not_inside.Goals as goal

pub returns : goal.returns
returns c = own_moves
