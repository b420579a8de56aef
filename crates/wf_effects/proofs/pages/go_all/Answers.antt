use Rattle.std.proofs.Common.{◌∙◌, arith}
use Rattle.wf_effects.specs.Effects.{going_in}
use Rattle.wf_effects.proofs.FrontLemmas.{changed_more, changed_all}
use Rattle.wf_effects.proofs.pages.go_all.Goals as goal

pub loop-i-preserved : goal.loop-i-preserved
loop-i-preserved c = changed_more (going_in c.args.first c.args.n) c.loop-i.i c.args.pages.now c.loop-i.pages c.index-pages-i.result c.go.new.page (omega arith) c.loop-i.invariant c.go.ensures

pub returns : goal.returns
returns c = c.loop-i.invariant ∙ changed_all (going_in c.args.first c.args.n) c.loop-i.i c.args.pages.now (omega arith)
