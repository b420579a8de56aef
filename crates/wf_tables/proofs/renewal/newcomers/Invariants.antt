use Rattle.std.proofs.Common.{◌≡◌, drop, ◌++◌, is_some, not}
use Rattle.std.specs.BTreeMap.{get}
use Rattle.std.specs.List.{filter}
use Rattle.wf_tables.specs.Index.{tenant_cmp}
use Rattle.wf_tables.proofs.renewal.newcomers.Given as goal

abbrev pub invariant-loop-tenant : goal.invariant-loop-tenant
invariant-loop-tenant l =
    l.new.items ++ filter (λ tenant. not (is_some (get tenant_cmp l.index tenant))) (drop l.tenant-index l.tenants)
    ≡ filter (λ tenant. not (is_some (get tenant_cmp l.index tenant))) l.tenants
