use Rattle.std.proofs.Common.{◌∙◌, ap, arith, List}
use Rattle.wf_flat.specs.State.{HartState}
use Rattle.wf_change.proofs.ChosenLemmas.{chosen, chosen_all, chosen_next, chosen_others}
use Rattle.wf_change.proofs.NotedLemmas.{one_noted_others}
use Rattle.wf_change.proofs.noting.noting_in.Goals as goal

pub loop-i-preserved : goal.loop-i-preserved
loop-i-preserved c =
    chosen_next c.args.generation c.args.harts.now c.args.noting.now c.loop-i.i c.loop-i.chosen.items c.push.new.self.items c.index-harts-i.result c.index-noting-i.result c.in_ok-one_of.field-0
    c.loop-i-test.true c.requires c.index-harts-i.is c.index-noting-i.is c.in_ok-push.ensures.items c.in_ok-one_of.ensures
    ∙ c.loop-i.invariant

pub returns : goal.returns
returns c = λ h page e.
    let harts = c.args.harts.now in
    chosen_all c.args.generation harts c.args.noting.now c.loop-i.chosen.items c.loop-i.i (omega arith) c.loop-i.invariant
    ∙ ap (λ (noting : List HartState). chosen c.args.generation harts noting) (e ∙ one_noted_others harts h page)
    ∙ chosen_others c.args.generation page harts h
