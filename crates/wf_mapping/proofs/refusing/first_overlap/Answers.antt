use Rattle.std.proofs.Common.{sym, ◌∙◌, ◌||◌}
use Rattle.wf_mapping.specs.Refusals.{is_here_at, is_text_at}
use Rattle.wf_space.proofs.PushLemmas.{find_next}
use Rattle.wf_mapping.proofs.refusing.first_overlap.Goals as goal

pub loop-i-preserved : goal.loop-i-preserved
loop-i-preserved c = find_next (λ page. is_here_at c.args.records.now page || is_text_at c.args.records.now page) c.args.first c.args.pages c.loop-i.i c.loop-i-test.true (sym c.overlaps.ensures ∙ c.if-overlaps.false) c.loop-i.invariant
