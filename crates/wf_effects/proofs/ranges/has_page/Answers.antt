use Rattle.std.proofs.Common.{rules, ◌≡◌, ℕ, List, Ok, Err, Result, length, ap, ◌∙◌, sym, is_some, is_ok}
use Rattle.std.proofs.lemmas.List.Sorted.{answers_always}
use Rattle.std.specs.List.Sorted.{IsBinarySearchResult, IsSearchInRange}
use Rattle.std.specs.Ordering.{nat_cmp}
use Rattle.wf_outside.specs.Lists.{IsRising}
use Rattle.wf_outside.specs.Images.{text_numbers}
use Rattle.wf_outside.specs.Pages.{PageValue}
use Rattle.wf_flat.specs.Memory.{page_in}
use Rattle.wf_flat.proofs.FoundLemmas.{key_searched, key_missed, there_is}
use Rattle.wf_effects.proofs.ranges.has_page.Goals as goal

there : (pages : List PageValue) (n : ℕ) (r : Result ℕ ℕ) → IsRising (text_numbers pages) → IsSearchInRange r (length pages) → IsBinarySearchResult (λ (p : PageValue). nat_cmp p.number n) pages r
    → is_ok r ≡ is_some (page_in pages n)
there pages n (Ok i) up h r = sym (ap is_some (key_searched (λ (p : PageValue). p.number) pages n i up h r) ∙ there_is pages i h)
there pages n (Err i) up h r = sym (ap is_some (key_missed (λ (p : PageValue). p.number) pages n i up r))

pub returns : goal.returns
returns c =
    c.is_ok.ensures.value ∙ there c.args.text.now c.args.page c.binary_search_by_key.result c.requires c.binary_search_by_key.ensures.bound
    (c.binary_search_by_key.ensures.position (λ (p : PageValue). p.number) (answers_always _ _ _ (λ f a r g h. search rules)))
