use Rattle.std.proofs.Common.{◌≡◌, ◌++◌, take, map}
use Rattle.wf_homes.specs.Homes.{TextOf}
use Rattle.wf_outside.specs.Images.{text_numbers}
use Rattle.wf_tables.specs.Values.{tenant_value}
use Rattle.wf_tables.proofs.tenants.push_texts.Given as goal

abbrev pub invariant-loop-page : goal.invariant-loop-page
invariant-loop-page l =
    map tenant_value l.out.items ≡ map tenant_value l.fn.out.items ++ map (TextOf l.version.number) (text_numbers (take l.page-index l.version.text))
