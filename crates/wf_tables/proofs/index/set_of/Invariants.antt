use Rattle.std.proofs.Common.{take, map}
use Rattle.wf_tables.specs.Index.{IsSet}
use Rattle.wf_tables.specs.Values.{tenant_value}
use Rattle.wf_tables.proofs.index.set_of.Given as goal

abbrev pub invariant-loop-tenant : goal.invariant-loop-tenant
invariant-loop-tenant l = IsSet l.set (map tenant_value (take l.tenant-index l.tenants))
