use Rattle.std.proofs.Common.{◌≡◌, map, take}
use Rattle.std.specs.Prelude.{is_some, not}
use Rattle.std.specs.List.{filter, range_with_len, AllByRecursion}
use Rattle.rv_asm.specs.Names.{name_place, name_values, pcrel_name}
use Rattle.rv_asm.specs.Uses.{IsPlainName}
use Rattle.rv_asm.proofs.names.free_names.Given as goal

abbrev pub invariant-loop-n : goal.invariant-loop-n
invariant-loop-n l = record {
  free : l.names.items ≡ take l.count (filter (λ name. not (is_some (name_place name (name_values l.used)))) (map pcrel_name (range_with_len 0 l.n)));
  plain : AllByRecursion IsPlainName l.names.items;
}
