use Rattle.std.proofs.Common.{[], ◌∷◌}
use Rattle.wf_flat.specs.declared.event.Event.TheVariants.{Idle}
use Rattle.wf_stepping.proofs.UnitLemmas.{here_made, idle_here}
use Rattle.wf_stepping.proofs.stopping.idle.Goals as goal

pub returns : goal.returns
returns c =
    here_made c.args.process.now c.idle.new.self c.args.hart (Idle ∷ []) c.requires.rests
    (idle_here c.idles_are_units.ensures c.args.process.now c.args.hart c.requires.rests c.keeps_sound.ensures c.requires.stopped)
    c.idle.ensures
