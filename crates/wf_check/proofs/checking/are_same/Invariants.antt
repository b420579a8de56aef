use Rattle.std.proofs.Common.{◌≡◌, drop}
use Rattle.wf_check.proofs.checking.are_same.Given as goal

abbrev pub invariant-loop-line : goal.invariant-loop-line
invariant-loop-line l =
    (drop l.line-index l.one ≡ l.rest → l.one ≡ l.other)
    × (l.one ≡ l.other → drop l.line-index l.one ≡ l.rest)
