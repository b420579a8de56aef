use Rattle.std.proofs.Common.{◌&&◌, ◌∙◌, sym, is_some}
use Rattle.std.specs.BTreeMap.{get}
use Rattle.std.specs.BTreeSet.{contains}
use Rattle.wf_tables.specs.Index.{tenant_cmp}
use Rattle.wf_tables.specs.declared.homes.Home.{Home}
use Rattle.wf_tables.proofs.RenewalLemmas.{kept_more, kept_less}
use Rattle.wf_tables.proofs.renewal.kept.Goals.{then-stays+in_ok-push, else-stays}
use Rattle.wf_tables.proofs.renewal.kept.Goals as goal

pub loop-home-preserved : goal.loop-home-preserved
loop-home-preserved c =
    let keeps = λ (home : Home). is_some (get tenant_cmp c.args.index.now home.tenant) && contains tenant_cmp c.args.there.now home.tenant in
    elim c.if-stays.branch [
      | then-stays+in_ok-push w ↦ (rw w.kept-is (
          kept_more keeps c.loop-home.kept.items w.push.new.self.items c.args.homes.now _ c.loop-home.home-index _ c.loop-home-test.true
          (sym c.stays.ensures ∙ w.if-stays.true) w.in_ok-push.ensures.items c.loop-home.invariant))
      | else-stays w ↦ (rw w.kept-is (
          kept_less keeps c.loop-home.kept.items c.args.homes.now _ c.loop-home.home-index _ c.loop-home-test.true
          (sym c.stays.ensures ∙ w.if-stays.false) c.loop-home.invariant))
    ]
