use Rattle.std.proofs.Common.{take, map}
use Rattle.wf_tables.specs.Index.{IsIndex}
use Rattle.wf_tables.specs.Values.{home_value}
use Rattle.wf_tables.proofs.index.index_of.Given as goal

abbrev pub invariant-loop-home : goal.invariant-loop-home
invariant-loop-home l = IsIndex l.index (map home_value (take l.home-index l.homes))
