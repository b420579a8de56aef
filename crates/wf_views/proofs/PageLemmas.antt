-- One data page changes.
use Rattle.std.proofs.Common.{◌≡◌, ◌<◌, ◌∙◌, ℕ, List, None, length, map, get_or, slice_set, sym, ap, subst}
use Rattle.wf_outside.specs.Lists.{IsRising}
use Rattle.wf_views.specs.declared.pages.PageAt.{PageAt}
use Rattle.wf_views.specs.Lists.{RoomyValue, found_by}
use Rattle.wf_views.specs.Pages.{page_number, page_changed}
use Rattle.wf_views.proofs.KeyLemmas.{changed_none, changed_only, keys_changed}

-- the page at its place changes
pub page_set : (now inside new : RoomyValue PageAt) (qs : List PageAt) (page at : ℕ) (f : PageAt → PageAt) (d : PageAt) → inside ≡ now → qs ≡ now.items → IsRising (map page_number now.items) → at < length now.items → page_number (get_or now.items at d) ≡ page
    → new ≡ record inside { items = slice_set inside.items at (f (get_or qs at d)) } → new ≡ page_changed page f now
page_set now inside new qs page at f d p q up lt key e =
    e ∙ ap {B = RoomyValue PageAt} (λ ys. record inside { items = slice_set inside.items at (f (get_or ys at d)) }) q
    ∙ ap (λ (x : RoomyValue PageAt). record x { items = slice_set x.items at (f (get_or now.items at d)) }) p
    ∙ ap {B = RoomyValue PageAt} (λ ys. record now { items = ys }) (changed_only page_number f now.items page at d up lt key)

-- pages still rise
pub rising_changed : (now new : RoomyValue PageAt) (page : ℕ) (f : PageAt → PageAt) → ((p : PageAt) → page_number (f p) ≡ page_number p) → IsRising (map page_number now.items) → new ≡ page_changed page f now → IsRising (map page_number new.items)
rising_changed now new page f same up e =
    subst (λ (l : RoomyValue PageAt). IsRising (map page_number l.items)) (sym e) (subst IsRising (sym (keys_changed page_number f now.items page same)) up)

-- there is no such page
pub none_changed : (now : RoomyValue PageAt) (qs : List PageAt) (page : ℕ) (f : PageAt → PageAt) → qs ≡ now.items → found_by page_number qs page ≡ None → now ≡ page_changed page f now
none_changed now qs page f q e = ap {B = RoomyValue PageAt} (λ ys. record now { items = ys }) (sym (changed_none page_number f now.items page (subst (λ ys. found_by page_number ys page ≡ None) q e)))
