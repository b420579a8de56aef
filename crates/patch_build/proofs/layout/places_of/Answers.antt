use Rattle.std.proofs.Common.{◌≡◌, ℕ, List, Option, length, sym, subst, ap, ◌∙◌, arith}
use Rattle.std.proofs.lemmas.Grind.{common_steps}
use Rattle.elf_link.specs.Links.{AreLow}
use Rattle.patch_build.specs.Layout.{no_ends, places_of}
use Rattle.patch_build.specs.Links.{HasPlaces}
use Rattle.patch_build.proofs.LinkLemmas.{places-room}
use Rattle.patch_build.proofs.PlaceLemmas.{fits-starts, length-places_behind, low-behind, placed-behind}
use Rattle.patch_build.proofs.layout.places_of.Goals as goal

pub place-requires : goal.place-requires
place-requires c =
    places-room c.loop-section.ends c.args.sections.now c.loop-section.section-index _ c.requires.few c.loop-section-test.true
    c.loop-section.invariant.text c.loop-section.invariant.constants c.loop-section.invariant.variables

pub returns-clause-all : goal.returns-clause-all
returns-clause-all c =
    let e : c.loop-section.places.items ≡ places_of c.args.starts c.args.sections.now = grind (arith, common_steps) in
    ap (λ ps. length ps) e ∙ length-places_behind c.args.starts no_ends c.args.sections.now

pub returns-clause-placed : goal.returns-clause-placed
returns-clause-placed c =
    let e : c.loop-section.places.items ≡ places_of c.args.starts c.args.sections.now = grind (arith, common_steps) in
    subst (λ (ps : List (Option ℕ)). HasPlaces c.args.sections.now ps) (sym e) (placed-behind c.args.starts no_ends c.args.sections.now)

pub returns-clause-low : goal.returns-clause-low
returns-clause-low c =
    let e : c.loop-section.places.items ≡ places_of c.args.starts c.args.sections.now = grind (arith, common_steps) in
    subst (λ (ps : List (Option ℕ)). AreLow ps c.args.sections.now) (sym e)
    (low-behind c.args.starts no_ends c.args.sections.now (fits-starts c.args.starts c.args.sections.now c.requires.fit))
