use Rattle.std.proofs.Common.{◌≡◌, length}
use Rattle.std.specs.List.{AllByRecursion}
use Rattle.wf_mapping.specs.Blanks.{blank}
use Rattle.wf_mapping.proofs.blanks.Blanks.new.Given as goal

abbrev pub invariant-loop : goal.invariant-loop
invariant-loop l = record {
  blank : AllByRecursion (λ page. page ≡ blank) l.pages.items;
  count : length l.pages.items ≡ l.counter;
}
