use Rattle.std.proofs.Common.{◌≡◌, ◌++◌, drop}
use Rattle.std.specs.List.{fold}
use Rattle.patch_build.specs.declared.region.Region.TheVariants.{Text, Constants, Data}
use Rattle.patch_build.specs.Layout.{region_end, end_with, places_behind, places_of}
use Rattle.patch_build.proofs.layout.places_of.Given as goal

-- what is left is placed behind these ends, and comes to the ends of all
abbrev pub invariant-loop-section : goal.invariant-loop-section
invariant-loop-section l = record {
  places : l.places.items ++ places_behind l.starts l.ends (drop l.section-index l.sections) ≡ places_of l.starts l.sections;
  text : fold (end_with Text) l.ends.text (drop l.section-index l.sections) ≡ region_end Text l.sections;
  constants : fold (end_with Constants) l.ends.constants (drop l.section-index l.sections) ≡ region_end Constants l.sections;
  variables : fold (end_with Data) l.ends.variables (drop l.section-index l.sections) ≡ region_end Data l.sections;
}
