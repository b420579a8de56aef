use Rattle.std.proofs.Common.{◌≡◌, ◌++◌, take, map}
use Rattle.wf_homes.specs.Homes.{DataOf}
use Rattle.wf_tables.specs.Values.{tenant_value}
use Rattle.wf_tables.proofs.tenants.push_data.Given as goal

abbrev pub invariant-loop-page : goal.invariant-loop-page
invariant-loop-page l =
    map tenant_value l.out.items ≡ map tenant_value l.fn.out.items ++ map (λ page. DataOf page.number) (take l.page-index l.pages)
