use Rattle.std.proofs.Common.{◌∙◌, arith}
use Rattle.std.proofs.lemmas.List.{get_or-set_other}
use Rattle.wf_effects.specs.Effects.{reaching}
use Rattle.wf_effects.proofs.FrontLemmas.{changed_all}
use Rattle.wf_effects.proofs.ReachLemmas.{reach_next}
use Rattle.wf_effects.proofs.reaches.set_reaches.Goals as goal

pub loop-i-preserved : goal.loop-i-preserved
loop-i-preserved c = record {
  kept = λ k d le. get_or-set_other c.loop-i.reaches c.loop-i.i k c.set_reach.new.reach d (λ e. omega arith) ∙ c.loop-i.invariant.kept k d (omega arith);
  reach = λ numbers e. reach_next numbers c.loop-i.i c.args.gens.now c.loop-i.gens c.args.reaches.now c.loop-i.reaches c.index-gens-i.result c.set_reach.new.version c.index-reaches-i.result
      (omega arith) (c.loop-i.invariant.reach numbers e) e (c.loop-i.invariant.kept c.loop-i.i c.index-reaches-i.result (omega arith)) c.set_reach.ensures;
}

pub returns : goal.returns
returns c numbers e = c.loop-i.invariant.reach numbers e ∙ changed_all (reaching numbers) c.loop-i.i c.args.gens.now (omega arith)
