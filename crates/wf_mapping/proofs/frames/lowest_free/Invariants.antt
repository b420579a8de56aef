use Rattle.wf_mapping.specs.Layout.{free_in}
use Rattle.wf_mapping.proofs.LowLemmas.{AreLowest}
use Rattle.wf_mapping.proofs.frames.lowest_free.Given as goal

abbrev pub invariant-loop : goal.invariant-loop
invariant-loop l = AreLowest (free_in l.records) l.frames.items l.from l.counter
