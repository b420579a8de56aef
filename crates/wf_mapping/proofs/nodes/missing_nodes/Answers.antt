use Rattle.wf_mapping.specs.Nodes.{missing_from, missing_in}
use Rattle.wf_mapping.proofs.MissLemmas.{flat_next}
use Rattle.wf_mapping.proofs.nodes.missing_nodes.Goals as goal

pub loop-i-preserved : goal.loop-i-preserved
loop-i-preserved c =
    flat_next (missing_in c.args.nodes.now) c.args.records.now.views.views c.loop-i.i c.at.result.now c.loop-i.missing.items c.push_missing.new.missing.items (missing_from c.args.nodes.now c.args.records.now.views.views) c.at.ensures c.in_ok-push_missing.ensures c.loop-i.invariant
