use Rattle.wf_views.specs.declared.view.TextAt.{TextAt}
use Rattle.wf_space.proofs.GiveLemmas.{left_next}
use Rattle.wf_space.proofs.changing.give_text.Goals as goal

abbrev none : TextAt
none = record { page = 0; frame = 0 }

pub loop-page-preserved : goal.loop-page-preserved
loop-page-preserved c = left_next (λ x. x.frame) c.args.frames.now c.loop-page.frames c.give.new.self c.args.text.now c.loop-page.page-index none c.loop-page.invariant c.loop-page-test.true c.give.ensures
