use Rattle.std.proofs.Common.{rules, ◌≡◌, [], max, subst}
use Rattle.std.specs.List.Sorted.{IsPermutation}
use Rattle.wf_outside.specs.Images.{ImageValue, IsImage, data_numbers, text_numbers}
use Rattle.patch_build.specs.Fits.{page_behind}
use Rattle.patch_build.proofs.AreaLemmas.{area_begins, same_begun}
use Rattle.patch_build.proofs.area.Area.over.Goals as goal

pub invariant_of-result : goal.invariant_of-result
invariant_of-result c =
    let kept : IsImage c.args.image.now.text c.args.image.now.pages c.args.image.now.entry = subst (λ (i : ImageValue). IsImage i.text i.pages i.entry) c.image.view_is c.image.invariant in
    let numbers : c.push_text.new.numbers.items ≡ text_numbers c.args.image.now.text = search rules in
    let next : c.max-next.result ≡ max (page_behind (text_numbers c.args.image.now.text)) (page_behind (data_numbers c.args.image.now.pages)) = search rules in
    let same : IsPermutation (text_numbers c.args.image.now.text) c.sort_unstable.new.self.items = rw numbers at c.sort_unstable.ensures.permutation in
    rw next (area_begins (text_numbers c.args.image.now.text) (data_numbers c.args.image.now.pages) c.sort_unstable.new.self.items kept.distinct kept.text_low kept.data_low same c.sort_unstable.ensures.sorted)

pub returns : goal.returns
returns c =
    let numbers : c.push_text.new.numbers.items ≡ text_numbers c.args.image.now.text = search rules in
    let next : c.max-next.result ≡ max (page_behind (text_numbers c.args.image.now.text)) (page_behind (data_numbers c.args.image.now.pages)) = search rules in
    let same : IsPermutation (text_numbers c.args.image.now.text) c.sort_unstable.new.self.items = rw numbers at c.sort_unstable.ensures.permutation in
    let none : c.new.result.items ≡ [] = search rules in
    same_begun c.args.image.now _ next same none
