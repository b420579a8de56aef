use Rattle.std.proofs.Common.{◌≡◌, drop, length}
use Rattle.std.specs.List.{fold}
use Rattle.wf_mapping.specs.Plans.{with_pointer}
use Rattle.wf_mapping.proofs.filling.put_pointers.Given as goal

abbrev pub invariant-loop-below : goal.invariant-loop-below
invariant-loop-below l = record {
  whole : length l.words.items ≡ 512;
  made : fold (with_pointer l.above) l.words.items (drop l.below-index l.nodes) ≡ fold (with_pointer l.above) l.fn.words.items l.nodes;
}
