-- Tenants and homes of the code, as definitions have them.
use Rattle.std.specs.Prelude.{ℕ}
use Rattle.wf_homes.specs.Homes.{DataOf, NodeOf, Tenant, TextOf}
use Rattle.wf_tables.specs.declared.homes.Tenant.{Tenant as CodeTenant}
use Rattle.wf_tables.specs.declared.homes.Tenant.TheVariants.{Data, Node, Text}
use Rattle.wf_tables.specs.declared.homes.Home.{Home}

-- a tenant of the code
abbrev pub tenant_value : CodeTenant → Tenant
tenant_value (Text generation page) = TextOf generation page
tenant_value (Data page) = DataOf page
tenant_value (Node generation level prefix) = NodeOf generation level prefix

-- a home of the code: its tenant, and its frame
abbrev pub home_value : Home → Tenant × ℕ
home_value home = (tenant_value home.tenant, home.frame)
