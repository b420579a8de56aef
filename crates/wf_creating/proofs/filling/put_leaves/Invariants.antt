use Rattle.std.proofs.Common.{◌≡◌, drop, length}
use Rattle.std.specs.List.{fold}
use Rattle.wf_creating.specs.Plans.{with_private_leaf}
use Rattle.wf_creating.proofs.filling.put_leaves.Given as goal

abbrev pub invariant-loop-page : goal.invariant-loop-page
invariant-loop-page l = record {
  whole : length l.words.items ≡ 512;
  made : fold (with_private_leaf l.new) l.words.items (drop l.page-index l.text) ≡ fold (with_private_leaf l.new) l.fn.words.items l.text;
}
