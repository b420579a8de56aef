use Rattle.std.proofs.Common.{◌≡◌, ◌≤◌, ◌∙◌, ap, length, arith, refl}
use Rattle.wf_outside.specs.Images.{IsImage}
use Rattle.wf_flat.specs.State.{GenState}
use Rattle.wf_flat.specs.Boot.{boot_pages, boot_gen, boot_text, boot_reach}
use Rattle.wf_flat.proofs.BootLemmas.{text_few, pages_few, places_few}
use Rattle.wf_flat.proofs.OrderedLemmas.{boot_ordered}
use Rattle.wf_flat.proofs.booting.boot.Goals as goal

pub frames_in-requires-clause-few_pages : goal.frames_in-requires-clause-few_pages
frames_in-requires-clause-few_pages c =
    let image = c.args.image.now in
    let is : IsImage image.text image.pages image.entry = rw (← c.image.view_is) c.image.invariant in
    let few : length (boot_pages image c.args.harts) ≤ 0x3E00100 = pages_few image c.args.harts is c.requires.few in
    let same : length c.in_ok-pages.pages.items ≡ length (boot_pages image c.args.harts) = rw c.in_ok-pages.ensures refl in
    omega arith

pub frames_in-requires-clause-few_texts : goal.frames_in-requires-clause-few_texts
frames_in-requires-clause-few_texts c =
    let image = c.args.image.now in
    let is : IsImage image.text image.pages image.entry = rw (← c.image.view_is) c.image.invariant in
    let gen : c.in_ok-first.first ≡ boot_gen image c.args.harts = c.in_ok-first.ensures c.args.harts (c.deref.ensures.value ∙ c.in_ok-pages.ensures) in
    let few : length (boot_text image) ≤ 0x3E00000 = text_few image is in
    let same : length c.in_ok-first.first.text ≡ length (boot_text image) = ap (λ (g : GenState). length g.text) gen in
    omega arith

pub frames_in-requires-clause-few_places : goal.frames_in-requires-clause-few_places
frames_in-requires-clause-few_places c =
    let image = c.args.image.now in
    let is : IsImage image.text image.pages image.entry = rw (← c.image.view_is) c.image.invariant in
    let gen : c.in_ok-first.first ≡ boot_gen image c.args.harts = c.in_ok-first.ensures c.args.harts (c.deref.ensures.value ∙ c.in_ok-pages.ensures) in
    let few : length (boot_reach image c.args.harts) ≤ 0x7C00100 = places_few image c.args.harts is c.requires.few in
    let same : length c.in_ok-first.first.reach ≡ length (boot_reach image c.args.harts) = ap (λ (g : GenState). length g.reach) gen in
    omega arith

pub returns-clause-ordered : goal.returns-clause-ordered
returns-clause-ordered c =
    let image = c.args.image.now in
    let is : IsImage image.text image.pages image.entry = rw (← c.image.view_is) c.image.invariant in
    let up = boot_ordered image c.args.harts c.args.limits is in
    record { pages = rw c.in_ok-pages.ensures (up.pages); met = rw c.new.ensures.items tt }
