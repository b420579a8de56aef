use Rattle.std.proofs.Common.{◌≡◌, List, arith, rules, subst, sym}
use Rattle.std.specs.List.{AllByRecursion}
use Rattle.wf_outside.specs.Images.{DeltaValue, IsImage}
use Rattle.wf_outside.specs.Pages.{DataPageValue, IsPage, PageValue}
use Rattle.wf_flat.specs.State.{FlatState}
use Rattle.wf_legal.specs.Legal.{at_rest}
use Rattle.wf_sound.specs.Laws.{IsStart}
use Rattle.wf_sound.specs.Sound.{IsSound}
use Rattle.wf_check.specs.Stages.{boot_for, limits_of}
use Rattle.wf_check.proofs.checking.check_files.Goals as goal

pub replay-requires-clause-sound : goal.replay-requires-clause-sound
replay-requires-clause-sound c =
    let files = c.args.files.now in
    let is : IsImage files.image.text files.image.pages files.image.entry = rw (← c.files.view_is, ← c.files-inside.view_is) c.files-inside.invariant in
    let texts : c.deref.result.now ≡ files.image.text = search rules in
    let pages : c.deref-2.result.now ≡ files.image.pages = search rules in
    let deltas : c.deref-4.result.now ≡ files.deltas = search rules in
    let starts : IsStart files.deltas files.image files.journal.harts (limits_of files.journal) = record {
      is_image = is;
      text = subst (λ (ps : List PageValue). AllByRecursion (λ page. IsPage page.number page.words) ps) texts c.text_is_whole.ensures;
      pages = subst (λ (ps : List DataPageValue). AllByRecursion (λ page. IsPage page.number page.words) ps) pages c.data_is_whole.ensures;
      few_harts = c.requires.sized.1;
      sizes = record { few_frames = c.requires.sized.2; many_frames = c.requires.sized.3; some_writes = omega arith; all_writes = omega arith; some_birth = omega arith; all_births = omega arith };
      frames = c.in_ok-flat.ensures.fits;
      patches = c.requires.patches;
      few_patches = omega arith;
    } in
    let booted : IsSound (at_rest files.deltas (boot_for files)) = c.starts_are_sound.ensures files.deltas files.image files.journal.harts (limits_of files.journal) starts in
    subst (λ (s : FlatState). IsSound (at_rest c.deref-4.result.now s)) (sym c.in_ok-flat.ensures.ok) (subst (λ (ds : List DeltaValue). IsSound (at_rest ds (boot_for files))) (sym deltas) booted)
