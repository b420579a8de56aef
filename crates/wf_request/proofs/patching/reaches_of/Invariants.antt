use Rattle.std.proofs.Common.{◌≡◌, map, take}
use Rattle.wf_request.proofs.patching.reaches_of.Given as goal

abbrev pub invariant-loop-version : goal.invariant-loop-version
invariant-loop-version l = l.reaches.items ≡ map (λ gen. gen.reach) (take l.version-index l.gens)
