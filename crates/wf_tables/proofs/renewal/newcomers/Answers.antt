use Rattle.std.proofs.Common.{◌∙◌, sym, ap, is_some, not}
use Rattle.std.specs.BTreeMap.{get}
use Rattle.wf_tables.specs.Index.{tenant_cmp}
use Rattle.wf_tables.specs.declared.homes.Tenant.{Tenant}
use Rattle.wf_tables.proofs.RenewalLemmas.{kept_more, kept_less}
use Rattle.wf_tables.proofs.renewal.newcomers.Goals.{then-not-contains_key+in_ok-push, else-not-contains_key}
use Rattle.wf_tables.proofs.renewal.newcomers.Goals as goal

pub loop-tenant-preserved : goal.loop-tenant-preserved
loop-tenant-preserved c =
    let keeps = λ (tenant : Tenant). not (is_some (get tenant_cmp c.args.index.now tenant)) in
    elim c.if-not-contains_key.branch [
      | then-not-contains_key+in_ok-push w ↦ (rw w.new-is (
          kept_more keeps c.loop-tenant.new.items w.push.new.self.items c.args.tenants.now _ c.loop-tenant.tenant-index _ c.loop-tenant-test.true
          (ap not (sym c.contains_key.ensures ∙ w.if-not-contains_key.true)) w.in_ok-push.ensures.items c.loop-tenant.invariant))
      | else-not-contains_key w ↦ (rw w.new-is (
          kept_less keeps c.loop-tenant.new.items c.args.tenants.now _ c.loop-tenant.tenant-index _ c.loop-tenant-test.true
          (ap not (sym c.contains_key.ensures ∙ w.if-not-contains_key.false)) c.loop-tenant.invariant))
    ]
