use Rattle.std.proofs.Common.{◌≡◌, arith, rules, ◌∙◌}
use Rattle.std.proofs.lemmas.Grind.{common_steps}
use Rattle.std.specs.BTreeMap.{values}
use Rattle.elf_load.proofs.PlacingLemmas.{no_segment, same_with, same_without, all_placed}
use Rattle.elf_load.proofs.placing.placed.Goals as goal
use Rattle.elf_load.proofs.placing.placed.Goals.{then-is_load+else-not-fits+in_ok-place, else-is_load}

pub loop-i-preserved : goal.loop-i-preserved
loop-i-preserved c = record {
  left = grind (arith, common_steps);
  map = grind (arith, common_steps);
  same = elim c.if-is_load.branch [
    | then-is_load+else-not-fits+in_ok-place w ↦ rw w.placed-is (same_with (values c.loop-i.placed) _ _ c.args.elf.now.segments c.loop-i.i no_segment c.segments-segment-items.ensures.value c.loop-i-test.true (search rules) c.loop-i.invariant.same (w.in_ok-place.ensures.one_more))
    | else-is_load w ↦ rw w.placed-is (same_without (values c.loop-i.placed) _ c.args.elf.now.segments c.loop-i.i no_segment c.segments-segment-items.ensures.value c.loop-i-test.true (search rules) c.loop-i.invariant.same)
  ];
}

pub returns-clause-placed : goal.returns-clause-placed
returns-clause-placed c =
    let e : c.in_ok-collect.field-0.items ≡ c.into_values.result = search rules in
    let f : c.in_ok-collect.field-0.items ≡ values c.loop-i.placed = e ∙ c.into_values.ensures.rest in
    rw f (all_placed c.args.elf.now.bytes _ c.args.elf.now.segments (values c.loop-i.placed) c.loop-i.i c.segments-segment-items.ensures.value c.loop-i-test.false c.requires c.segments-segment-items.ensures.fit c.loop-i.invariant.same c.loop-i.invariant.map.rising)
