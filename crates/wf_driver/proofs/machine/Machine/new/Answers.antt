use Rattle.std.specs.List.{AllByRecursion}
use Rattle.wf_outside.specs.Images.{IsImage}
use Rattle.wf_outside.specs.Pages.{IsPage}
use Rattle.wf_sound.specs.Laws.{IsStart}
use Rattle.wf_driver.proofs.StartLemmas.{starts_at, starts_kept, starts_ready}
use Rattle.wf_driver.proofs.machine.Machine.new.Goals as goal

pub invariant_of-result : goal.invariant_of-result
invariant_of-result c =
    let image = c.args.image.now in
    let is : IsImage image.text image.pages image.entry = rw (← c.image.view_is) c.image.invariant in
    let text : AllByRecursion (λ page. IsPage page.number page.words) image.text = rw (← c.image.view_is) (rw c.deref.ensures.value at c.text_is_whole.ensures) in
    let pages : AllByRecursion (λ page. IsPage page.number page.words) image.pages = rw (← c.image.view_is) (rw c.deref-2.ensures.value at c.data_is_whole.ensures) in
    let start : IsStart c.args.deltas.items image c.args.harts c.args.limits = record {
      is_image = is;
      text = text;
      pages = pages;
      few_harts = c.requires.few;
      sizes = c.limits_are_sizes.ensures;
      frames = c.in_ok-flat.ensures.fits;
      patches = c.requires.patches;
      few_patches = c.requires.few_patches;
    } in
    starts_kept c.homes_settle.ensures c.args.deltas.items c.in_ok-flat.flat c.new.result.items c.in_ok-homes.homes c.args.wanted c.in_ok-homes.ensures c.new.ensures.items
    (starts_ready c.args.deltas.items image c.args.harts c.args.limits c.in_ok-flat.flat c.new.result.items c.in_ok-flat.ensures.ok c.new.ensures.items c.requires.some start c.in_ok-flat.ensures.ordered c.starts_are_sound.ensures)

pub returns-clause-ok : goal.returns-clause-ok
returns-clause-ok c =
    starts_at c.homes_settle.ensures c.args.deltas.items c.args.image.now c.args.harts c.args.limits c.args.wanted c.in_ok-flat.flat c.in_ok-homes.homes c.new.result.items c.new-2.result.items c.in_ok-flat.ensures.ok c.in_ok-homes.ensures c.new.ensures.items c.new-2.ensures.items
