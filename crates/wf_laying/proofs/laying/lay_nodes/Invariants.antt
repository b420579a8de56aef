use Rattle.wf_start.specs.Laying.{node_words}
use Rattle.wf_laying.proofs.LayLemmas.{AreSoFar}
use Rattle.wf_laying.proofs.laying.lay_nodes.Given as goal

abbrev pub invariant-loop-i : goal.invariant-loop-i
invariant-loop-i l = AreSoFar (node_words l.view) l.fn.words l.words l.first l.view.nodes.items l.i
