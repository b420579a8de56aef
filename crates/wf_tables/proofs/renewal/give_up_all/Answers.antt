use Rattle.std.proofs.Common.{subst}
use Rattle.wf_flat.specs.declared.event.Entry.{Entry}
use Rattle.wf_homes.specs.Homes.{homes_behind}
use Rattle.wf_tables.specs.Index.{AreNoted}
use Rattle.wf_tables.proofs.RenewalLemmas.{fold_more}
use Rattle.wf_tables.proofs.renewal.give_up_all.Goals as goal

pub loop-entry-preserved : goal.loop-entry-preserved
loop-entry-preserved c = λ before homes noted.
    subst (AreNoted c.give_up.new.index c.give_up.new.new.items before)
    (fold_more homes_behind (λ (entry : Entry). entry.event) homes c.args.entries.now c.loop-entry.entry-index _ c.loop-entry-test.true)
    (c.in_ok-give_up.ensures before _ (c.loop-entry.invariant before homes noted))
