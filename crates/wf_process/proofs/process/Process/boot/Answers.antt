use Rattle.std.proofs.Common.{ap}
use Rattle.std.specs.List.{AllByRecursion}
use Rattle.wf_outside.specs.Images.{ImageValue, IsImage}
use Rattle.wf_outside.specs.Pages.{IsPage}
use Rattle.wf_sound.specs.Laws.{IsStart}
use Rattle.wf_process.proofs.StartLemmas.{booted}
use Rattle.wf_process.proofs.process.Process.boot.Goals as goal

pub invariant_of-result : goal.invariant_of-result
invariant_of-result c =
    let image = c.args.image in
    let is : IsImage image.text image.pages image.entry = rw (← c.image.view_is) c.image.invariant in
    let text : AllByRecursion (λ page. IsPage page.number page.words) image.text = rw (← c.image.view_is) (rw c.deref.ensures.value at c.text_is_whole.ensures) in
    let pages : AllByRecursion (λ page. IsPage page.number page.words) image.pages = rw (← c.image.view_is) (rw c.deref-2.ensures.value at c.data_is_whole.ensures) in
    let start : IsStart c.args.deltas.items image c.args.harts c.args.limits = record {
      is_image = is;
      text = text;
      pages = pages;
      few_harts = c.requires.few;
      sizes = c.limits_are_sizes.ensures;
      frames = c.in_ok-space.ensures.fits;
      patches = c.requires.patches;
      few_patches = c.requires.few_patches;
    } in
    booted c.args.deltas.items image c.args.harts c.args.limits start c.in_ok-space.words c.in_ok-space.space.records c.in_ok-space.ensures.stands c.new.result.items c.in_ok-kept.kept.items _ c.new.ensures.items (ap (λ (i : ImageValue). i.entry) c.image.view_is) c.in_ok-kept.ensures
