use Rattle.std.proofs.Common.{◌≡◌, take, map}
use Rattle.wf_effects.specs.Effects.{new_reach}
use Rattle.wf_effects.proofs.reaches.reaches_with.Given as goal

abbrev pub invariant-loop-version : goal.invariant-loop-version
invariant-loop-version l = l.reaches.items ≡ map (new_reach l.numbers) (take l.version-index l.gens)
