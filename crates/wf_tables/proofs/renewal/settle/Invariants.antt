use Rattle.std.proofs.Common.{◌≡◌, ◌≤◌, ◌++◌, ◌-◌, drop, length, map, not}
use Rattle.std.specs.BTreeSet.{contains}
use Rattle.std.specs.List.{filter, range_with_len, zip}
use Rattle.std.specs.Ordering.{nat_cmp}
use Rattle.wf_tables.specs.Values.{home_value, tenant_value}
use Rattle.wf_tables.proofs.renewal.settle.Given as goal

abbrev pub invariant-loop-frame : goal.invariant-loop-frame
invariant-loop-frame l = record {
  within : l.at ≤ length l.new;
  settled :
      map home_value l.homes.items ++ zip (map tenant_value (drop l.at l.new)) (filter (λ frame. not (contains nat_cmp l.taken frame)) (range_with_len l.frame-counter (l.count - l.frame-counter)))
      ≡ map home_value l.fn.homes.items ++ zip (map tenant_value l.new) (filter (λ frame. not (contains nat_cmp l.taken frame)) (range_with_len 0 l.count));
}
