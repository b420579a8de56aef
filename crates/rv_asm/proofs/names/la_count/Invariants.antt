use Rattle.std.proofs.Common.{◌≡◌, ◌+◌, ◌≤◌, length}
use Rattle.wf_text.specs.Lines.{lines_of}
use Rattle.rv_asm.specs.Names.{la_count}
use Rattle.rv_asm.proofs.names.la_count.Given as goal

abbrev pub invariant-loop-rest : goal.invariant-loop-rest
invariant-loop-rest l = record {
  counted : l.count + la_count (lines_of l.rest) ≡ la_count (lines_of l.source);
  within : l.count + length l.rest ≤ length l.source;
}

abbrev pub decreases-loop-rest : goal.decreases-loop-rest
decreases-loop-rest l = length l.rest
