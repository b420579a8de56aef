use Rattle.patch_move_laws.proofs.OutsideLemmas.{go_on_outside}
use Rattle.patch_move_laws.proofs.moves.calls_go_on_outside.Goals as goal

pub returns : goal.returns
returns c = go_on_outside
