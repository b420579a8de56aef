use Rattle.std.proofs.Common.{◌≡◌, true, refl, arith}
use Rattle.std.proofs.lemmas.Bool.Decides.{nat_tests}
use Rattle.patch_build.specs.Layout.{end_in}
use Rattle.patch_build.specs.Sections.{is_loaded, region_of}
use Rattle.patch_build.proofs.PlaceLemmas.{room_at}
use Rattle.patch_build.proofs.layout.place.Goals as goal

pub overflow_add-result : goal.overflow_add-result
overflow_add-result c =
    let s = c.args.section.now in
    let loaded : is_loaded s ≡ true = grind (arith, nat_tests) in
    let h = room_at (region_of s) (end_in c.args.ends.now (region_of s)) s loaded refl (c.requires (region_of s)) in
    omega (arith, c.put-offset.ensures.start, c.address_of.ensures.fits)
