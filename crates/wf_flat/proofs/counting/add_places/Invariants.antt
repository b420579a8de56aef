use Rattle.std.proofs.Common.{◌≡◌, drop}
use Rattle.wf_outside.specs.Lists.{IsRising}
use Rattle.wf_flat.specs.Boot.{places_with}
use Rattle.wf_flat.proofs.counting.add_places.Given as goal

abbrev pub invariant-loop-n : goal.invariant-loop-n
invariant-loop-n l = record {
  rising : IsRising l.places.items;
  added : places_with l.places.items (drop l.n-index l.numbers) ≡ places_with l.fn.places.items l.numbers;
}
