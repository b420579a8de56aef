use Rattle.std.proofs.Common.{◌+◌, ◌∙◌, ℕ, refl, ap}
use Rattle.wf_views.specs.Lists.{number_added}
use Rattle.wf_begin.proofs.NumberLemmas.{hart_added}
use Rattle.wf_begin.proofs.viewing.harts_of.Goals as goal

pub loop-hart-preserved : goal.loop-hart-preserved
loop-hart-preserved c = hart_added c.loop-hart.hart (c.loop-hart.hart + 1) c.loop-hart.made c.put.new.self c.loop-hart.invariant refl (c.in_ok-put.ensures.ok ∙ ap (λ (h : ℕ). number_added h c.loop-hart.made) c.from.ensures)
