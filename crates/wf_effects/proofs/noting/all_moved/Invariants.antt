use Rattle.std.proofs.Common.{◌≡◌, take, map}
use Rattle.wf_effects.specs.Effects.{new_moved}
use Rattle.wf_effects.proofs.noting.all_moved.Given as goal

abbrev pub invariant-loop-hart : goal.invariant-loop-hart
invariant-loop-hart l = l.all.items ≡ map (new_moved l.pages) (take l.hart-index l.harts)
