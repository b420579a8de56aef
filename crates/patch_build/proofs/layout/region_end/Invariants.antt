use Rattle.std.proofs.Common.{◌≡◌, ◌≤◌, ◌*◌, ◌^◌, take}
use Rattle.std.specs.List.{fold}
use Rattle.patch_build.specs.Layout.{end_with}
use Rattle.patch_build.proofs.layout.region_end.Given as goal

-- the sections so far end here, and each took no more than an alignment and a size
abbrev pub invariant-loop-section : goal.invariant-loop-section
invariant-loop-section l = record {
  end : l.end ≡ fold (end_with l.region) 0 (take l.section-index l.sections);
  fits : l.end ≤ 2 ^ 65 * l.section-index;
}
