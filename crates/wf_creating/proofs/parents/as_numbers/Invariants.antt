use Rattle.std.proofs.Common.{◌≡◌, ◌++◌, drop}
use Rattle.wf_creating.proofs.parents.as_numbers.Given as goal

abbrev pub invariant-loop-number : goal.invariant-loop-number
invariant-loop-number l = record {
  room : l.numbers.room ≡ 0;
  whole : l.numbers.items ++ drop l.number-index l.rising ≡ l.rising;
}
