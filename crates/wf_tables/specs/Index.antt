-- An index of homes, and a set of tenants.
use Rattle.std.specs.Prelude.{ℕ, List, ◌≡◌, ◌++◌, is_some, reverse}
use Rattle.std.specs.declared.cmp.Ordering.{Ordering}
use Rattle.std.specs.BTreeMap.{BTreeMap, get}
use Rattle.std.specs.BTreeSet.{BTreeSet, contains}
use Rattle.std.specs.List.{filter}
use Rattle.std.specs.Map.{lookup}
use Rattle.std.specs.Set.{is_member}
use Rattle.wf_homes.specs.Homes.{Homes, Tenant, home_frame, same_tenant}
use Rattle.wf_tables.specs.Values.{tenant_value}
use Rattle.wf_tables.specs.declared.homes.Tenant.{Tenant as CodeTenant}
use Rattle.wf_tables.specs.contracts.homes.TenantOrd.TheImpl as tenant_ord

-- the order of the code's tenants
abbrev pub tenant_cmp : CodeTenant → CodeTenant → Ordering
tenant_cmp = (tenant_ord.ghosts).cmp

-- an index has the home of each tenant, and no other
abbrev pub IsIndex : BTreeMap CodeTenant ℕ → List (Tenant × ℕ) → Type 0
IsIndex index homes =
    (tenant : CodeTenant) → get tenant_cmp index tenant
    ≡ lookup (same_tenant (tenant_value tenant)) homes

-- a set has these tenants, and no other
abbrev pub IsSet : BTreeSet CodeTenant → List Tenant → Type 0
IsSet set tenants =
    (tenant : CodeTenant) → contains tenant_cmp set tenant
    ≡ is_member same_tenant tenants (tenant_value tenant)

-- an index has the homes, and these frames are worn beside those that were before, the last first
pub record AreNoted (noted : BTreeMap CodeTenant ℕ) (new before : List ℕ) (homes : Homes)
    : Type 0 where
  pub index : IsIndex noted homes.homes
  pub worn : homes.worn ≡ reverse new ++ before

-- these are left of homes: those of all tenants that have one still
abbrev pub AreLeft : Homes → List (Tenant × ℕ) → Type 0
AreLeft left homes = left.homes ≡ filter (λ home. is_some (home_frame left home.0)) homes
