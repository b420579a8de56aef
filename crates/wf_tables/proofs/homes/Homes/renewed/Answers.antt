use Rattle.std.proofs.Common.{◌∙◌, ℕ, List, sym, ap, subst, map}
use Rattle.std.specs.List.{fold}
use Rattle.wf_flat.specs.declared.event.Entry.{Entry}
use Rattle.wf_homes.specs.Homes.{Homes, Tenant, homes_behind, homes_in}
use Rattle.wf_tables.specs.declared.homes.Home.{Home}
use Rattle.wf_tables.specs.declared.homes.Tenant.{Tenant as CodeTenant}
use Rattle.wf_tables.specs.Index.{AreLeft}
use Rattle.wf_tables.specs.Values.{home_value, tenant_value}
use Rattle.wf_tables.proofs.HousedLemmas.{left_after}
use Rattle.wf_tables.proofs.homes.Homes.renewed.Goals as goal

pub returns : goal.returns
returns c =
    let events = map (λ (entry : Entry). entry.event) c.args.entries.now in
    let left = fold homes_behind c.args.self.now events in
    let all =
    c.in_ok-homes.ensures left c.args.flat.now c.in_ok-index.ensures.index
    (subst (AreLeft left) (ap (λ (v : Homes). v.homes) (sym c.self.view_is) ∙ ap (λ (homes : List Home). map home_value homes) (sym c.deref.ensures.value)) (left_after c.args.self.now events))
    (sym c.in_ok-index.ensures.worn ∙ sym c.deref-2.ensures.value)
    (sym c.in_ok-tenants.ensures ∙ ap (λ (tenants : List CodeTenant). map tenant_value tenants) (sym c.deref-3.ensures.value))
    (sym c.frames_of.ensures) in
    ap (λ (es : List (Tenant × ℕ)). record { homes = es; worn = c.in_ok-index.worn.items }) all
    ∙ ap (λ (fs : List ℕ). record { homes = (homes_in left c.args.flat.now).homes; worn = fs }) c.in_ok-index.ensures.worn
