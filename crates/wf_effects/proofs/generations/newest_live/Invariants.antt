use Rattle.std.proofs.Common.{◌≡◌, drop, None}
use Rattle.wf_effects.specs.Generations.{newest_live}
use Rattle.wf_effects.proofs.generations.newest_live.Given as goal

abbrev pub invariant-loop-version : goal.invariant-loop-version
invariant-loop-version l = newest_live (drop l.version-index l.gens) l.newest ≡ newest_live l.gens None
