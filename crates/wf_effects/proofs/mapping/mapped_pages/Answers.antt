use Rattle.std.proofs.Common.{◌∙◌}
use Rattle.std.specs.Prelude.{option_copied}
use Rattle.wf_effects.proofs.MappedLemmas.{mapped_next}
use Rattle.wf_effects.proofs.mapping.mapped_pages.Goals as goal

pub loop-i-preserved : goal.loop-i-preserved
loop-i-preserved c =
    mapped_next (option_copied c.args.delta) c.args.write c.args.first c.args.birth c.args.n c.loop-i.i c.loop-i.pages.items c.push.new.self.items c.in_ok-mapped_page.field-0 c.loop-i-test.true c.in_ok-push.ensures.items c.in_ok-mapped_page.ensures
    ∙ c.loop-i.invariant
