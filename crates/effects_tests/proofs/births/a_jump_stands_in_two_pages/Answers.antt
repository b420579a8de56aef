use Rattle.std.proofs.Common.{rules}
use Rattle.effects_tests.proofs.PatchLemmas.{patch_fits}
use Rattle.effects_tests.proofs.births.a_jump_stands_in_two_pages.Goals as goal

pub generation_born-requires-clause-fits : goal.generation_born-requires-clause-fits
generation_born-requires-clause-fits g c =
    patch_fits c.in_ok-flat.flat c.deref.result.now c.in_ok-patch.field-0 (search rules) c.in_ok-flat.ensures.text c.in_ok-patch.ensures.pages c.in_ok-patch.ensures.jumps
