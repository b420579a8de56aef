use Rattle.std.proofs.Common.{◌∙◌, arith}
use Rattle.std.proofs.lemmas.List.{get_or-set_other}
use Rattle.wf_request.proofs.ReachLemmas.{reached_all, reached_more}
use Rattle.wf_request.proofs.patching.set_reaches.Goals as goal

pub loop-i-preserved : goal.loop-i-preserved
loop-i-preserved c = record {
  kept = λ k d le. get_or-set_other c.loop-i.reaches c.loop-i.i k c.set_reach.new.reach d (λ e. omega arith) ∙ c.loop-i.invariant.kept k d (omega arith);
  reached = reached_more c.loop-i.i c.args.reaches.now c.loop-i.reaches c.args.gens.now c.loop-i.gens c.index-gens-i.result c.set_reach.new.version c.index-reaches-i.result
      (omega arith) c.requires c.loop-i.invariant.reached (c.loop-i.invariant.kept c.loop-i.i c.index-reaches-i.result (omega arith)) c.set_reach.ensures;
}

pub returns : goal.returns
returns c = c.loop-i.invariant.reached ∙ reached_all c.loop-i.i c.args.reaches.now c.args.gens.now (omega arith)
