use Rattle.wf_begin.proofs.booting.keeps_order.Goals as goal

pub returns : goal.returns
returns c = rw (← c.image.view_is) c.image.invariant
