use Rattle.std.proofs.Common.{◌≡◌, ◌++◌, take, map}
use Rattle.wf_journal.specs.Finals.{gen_line}
use Rattle.wf_journal.proofs.finals.append_gens.Given as goal

abbrev pub invariant-loop-generation : goal.invariant-loop-generation
invariant-loop-generation l = l.lines.items ≡ l.fn.lines.items ++ map gen_line (take l.generation-index l.gens)
