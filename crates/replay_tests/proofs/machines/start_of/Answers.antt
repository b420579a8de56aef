use Rattle.wf_outside.specs.Images.{IsImage}
use Rattle.replay_tests.proofs.MachineLemmas.{start_is}
use Rattle.replay_tests.proofs.machines.start_of.Goals as goal

pub returns : goal.returns
returns c =
    let image = c.args.image.now in
    let is : IsImage image.text image.pages image.entry = rw (← c.image.view_is) c.image.invariant in
    start_is c.args.deltas.now image c.args.last_birth c.in_ok-boot.field-0 c.starts_are_sound.ensures is c.requires.text c.requires.pages c.requires.some_birth c.requires.all_births c.requires.patches c.requires.few
    c.in_ok-boot.ensures.ok c.in_ok-boot.ensures.fits
