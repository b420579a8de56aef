use Rattle.std.proofs.Common.{subst}
use Rattle.wf_tables.specs.Values.{tenant_value}
use Rattle.wf_tables.specs.Index.{IsSet}
use Rattle.wf_tables.proofs.IndexLemmas.{map_more}
use Rattle.wf_tables.proofs.index.set_of.Goals as goal

pub loop-tenant-preserved : goal.loop-tenant-preserved
loop-tenant-preserved c =
    subst (IsSet c.note_tenant.new.set) (map_more tenant_value c.args.tenants.now c.loop-tenant.tenant-index _ c.loop-tenant-test.true)
    (c.in_ok-note_tenant.ensures _ c.loop-tenant.invariant)
