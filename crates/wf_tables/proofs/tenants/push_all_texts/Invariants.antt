use Rattle.std.proofs.Common.{◌≡◌, ◌++◌, take, map}
use Rattle.std.specs.List.{flat_map}
use Rattle.wf_homes.specs.Homes.{text_tenants}
use Rattle.wf_tables.specs.Values.{tenant_value}
use Rattle.wf_tables.proofs.tenants.push_all_texts.Given as goal

abbrev pub invariant-loop-version : goal.invariant-loop-version
invariant-loop-version l =
    map tenant_value l.out.items ≡ map tenant_value l.fn.out.items ++ flat_map text_tenants (take l.version-index l.gens)
