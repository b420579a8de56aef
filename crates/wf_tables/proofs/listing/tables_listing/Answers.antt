use Rattle.std.proofs.Common.{◌∙◌, List, Option, ℕ, ap, map, subst}
use Rattle.std.proofs.lemmas.Result.{IfOk-weaker}
use Rattle.wf_homes.specs.Homes.{Homes}
use Rattle.wf_tables.specs.Index.{IsIndex}
use Rattle.wf_tables.specs.Tables.{node_lines, tables_lines, view_listed}
use Rattle.wf_tables.specs.Values.{home_value}
use Rattle.wf_tables.specs.declared.homes.Home.{Home}
use Rattle.wf_tables.specs.declared.homes.Tenant.TheVariants.{Node}
use Rattle.wf_tables.proofs.listing.tables_listing.Goals as goal

pub returns : goal.returns
unfolding tables_lines
returns c =
    let homes = c.args.homes.now in
    let is : IsIndex c.in_ok-index.index homes.homes =
    subst (IsIndex c.in_ok-index.index) (ap (λ (hs : List Home). map home_value hs) c.deref.ensures.value ∙ ap (λ (v : Homes). v.homes) c.homes.view_is) c.in_ok-index.ensures in
    IfOk-weaker c.view_listing.result _ _ (λ lines all.
    all homes is
    ∙ ap (λ (home : Option ℕ). view_listed (node_lines homes c.args.flat.now c.args.generation 2 0) c.args.generation home)
    (c.home_of-root.ensures ∙ is (Node c.args.generation 2 0))) c.view_listing.ensures
