use Rattle.std.proofs.Common.{◌∙◌, ◌||◌, ◌++◌, List, ap, map, nat_eq, not}
use Rattle.std.specs.BTreeSet.{contains}
use Rattle.std.specs.List.{filter, range_with_len, zip}
use Rattle.std.specs.Ordering.{nat_cmp}
use Rattle.std.specs.Set.{is_member}
use Rattle.wf_tables.specs.declared.homes.Home.{Home}
use Rattle.wf_tables.specs.declared.homes.Tenant.{Tenant}
use Rattle.wf_tables.specs.Values.{home_value, tenant_value}
use Rattle.wf_tables.proofs.HousedLemmas.{housed_are}
use Rattle.wf_tables.proofs.renewal.housed.Goals as goal

pub returns : goal.returns
returns c = λ left s is rest e are same.
    housed_are left s c.args.index.now c.args.tenants.now is are c.args.homes.now c.in_ok-housed.housed.items c.in_ok-new.new.items c.in_ok-there.there c.in_ok-taken.taken
    c.args.worn.now c.args.count _ rest e same c.in_ok-there.ensures c.in_ok-housed.ensures c.in_ok-new.ensures
    (λ frame. c.in_ok-taken.ensures frame
    ∙ ap (λ (homes : List Home). is_member nat_eq (map (λ (home : Home). home.frame) homes) frame || is_member nat_eq c.args.worn.now frame) c.deref.ensures.value)
    (c.in_ok-settle.ensures
    ∙ ap (λ (new : List Tenant). map home_value c.in_ok-housed.housed.items ++ zip (map tenant_value new) (filter (λ frame. not (contains nat_cmp c.in_ok-taken.taken frame)) (range_with_len 0 c.args.count))) c.deref-2.ensures.value)
