use Rattle.std.proofs.Common.{◌≡◌, ◌&&◌, drop, ◌++◌, is_some}
use Rattle.std.specs.BTreeMap.{get}
use Rattle.std.specs.BTreeSet.{contains}
use Rattle.std.specs.List.{filter}
use Rattle.wf_tables.specs.Index.{tenant_cmp}
use Rattle.wf_tables.proofs.renewal.kept.Given as goal

abbrev pub invariant-loop-home : goal.invariant-loop-home
invariant-loop-home l =
    l.kept.items ++ filter (λ home. is_some (get tenant_cmp l.index home.tenant) && contains tenant_cmp l.there home.tenant) (drop l.home-index l.homes)
    ≡ filter (λ home. is_some (get tenant_cmp l.index home.tenant) && contains tenant_cmp l.there home.tenant) l.homes
