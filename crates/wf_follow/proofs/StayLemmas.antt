-- Pages of data within a call: nobody holds one, and each is Here or one that is to leave.
use Rattle.std.proofs.Common.{◌≡◌, ◌⊎◌, ◌+◌, ◌++◌, ◌≤◌, ◌<◌, ℕ, zero, suc, List, [], ◌∷◌, Option, None, Bool, true, false, refl, inl, inr, arith}
use Rattle.std.specs.Prelude.{◌==◌, ◌&&◌, if◌then◌else◌, map, nat_le, nat_lt, not}
use Rattle.std.specs.List.{AllByRecursion, filter}
use Rattle.std.proofs.lemmas.Bool.{and_parts}
use Rattle.std.proofs.lemmas.Bool.Decides.{nat_tests}
use Rattle.wf_outside.specs.Images.{DeltaValue}
use Rattle.wf_flat.specs.declared.state.Stage.TheVariants as stages
use Rattle.wf_flat.specs.State.{PageState}
use Rattle.wf_flat.specs.Lists.{sorted_by}
use Rattle.wf_flat.proofs.ListLemmas.{all_append}
use Rattle.wf_flat.proofs.SortLemmas.{all_sorted}
use Rattle.wf_effects.specs.Effects.{going_in, mapped_page, mapped_pages}
use Rattle.wf_verdict.specs.declared.work.Todo.{Todo}
use Rattle.wf_verdict.specs.declared.work.Todo.TheVariants.{Leaves}
use Rattle.wf_follow.proofs.HartLemmas.{all_filter, all_map, all_more}
use Rattle.wf_follow.proofs.PageLemmas.{IsFree}
use Rattle.wf_follow.proofs.WorkLemmas.{AreToLeave, IsToLeave}

-- the page is free, and Here or one that is to leave
abbrev pub IsStaying : List Todo → PageState → Type 0
IsStaying todo page = ((page.stage ≡ stages.Here) ⊎ IsToLeave page.number todo) × (page.holder ≡ None)

pub free_staying : (todo : List Todo) (pages : List PageState) → AllByRecursion IsFree pages → AllByRecursion (IsStaying todo) pages
free_staying todo pages all = all_more IsFree (IsStaying todo) (λ page free. (inl free.0, free.1)) pages all

-- where nothing is to be done, all are Here
free_of : (page : PageState) → IsStaying [] page → IsFree page
free_of page stays = (elim stays.0 [ inl here ↦ here | inr none ↦ absurd none ], stays.1)

pub staying_free : (pages : List PageState) → AllByRecursion (IsStaying []) pages → AllByRecursion IsFree pages
staying_free pages all = all_more (IsStaying []) IsFree free_of pages all

-- an unmap begins of pages that are to leave
at_least : (a b : ℕ) → nat_le a b ≡ true → a ≤ b
at_least a b e = grind (arith, nat_tests)

below : (a b : ℕ) → nat_lt a b ≡ true → a < b
below a b e = grind (arith, nat_tests)

going_page : (first n : ℕ) (todo : List Todo) (page : PageState) → AreToLeave first n todo → IsStaying todo page → IsStaying todo (going_in first n page)
going_page first n todo page leave stays = by_test (nat_le first page.number && nat_lt page.number (first + n)) refl
  where
    by_test : (b : Bool) → (nat_le first page.number && nat_lt page.number (first + n)) ≡ b → IsStaying todo (if b then record page { stage = stages.Going } else page)
    by_test true e =
        let parts = and_parts (nat_le first page.number) (nat_lt page.number (first + n)) e in
        (inr (leave page.number (at_least first page.number parts.0) (below page.number (first + n) parts.1)), stays.1)
    by_test false e = stays

pub going_staying : (first n : ℕ) (todo : List Todo) (pages : List PageState) → AreToLeave first n todo → AllByRecursion (IsStaying todo) pages → AllByRecursion (IsStaying todo) (map (going_in first n) pages)
going_staying first n todo pages leave all = all_map (IsStaying todo) (IsStaying todo) (going_in first n) (λ page stays. going_page first n todo page leave stays) pages all

-- a page is gone
other_number : (n m : ℕ) → not (n == m) ≡ true → n ≡ m → ⊥
other_number n m e same = grind (arith, nat_tests)

gone_page : (n : ℕ) (todo : List Todo) (page : PageState) → not (page.number == n) ≡ true → IsStaying (Leaves n ∷ todo) page → IsStaying todo page
gone_page n todo page apart stays = (
  elim stays.0 [
    | inl here ↦ inl here
    | inr leaves ↦ (elim leaves [ inl same ↦ absurd (other_number page.number n apart same) | inr leaves ↦ inr leaves ])
  ],
  stays.1,
)

pub gone_staying : (n : ℕ) (todo : List Todo) (pages : List PageState) → AllByRecursion (IsStaying (Leaves n ∷ todo)) pages → AllByRecursion (IsStaying todo) (filter (λ page. not (page.number == n)) pages)
gone_staying n todo pages all =
    all_filter (λ (page : PageState). not (page.number == n)) (IsStaying (Leaves n ∷ todo)) (IsStaying todo) (gone_page n todo) pages all

-- pages are mapped
fresh_all : (P : PageState → Type 0) → ((page : PageState) → IsFree page → P page) → (delta : Option DeltaValue) (write : Bool) (page birth n : ℕ) → AllByRecursion P (mapped_pages delta write page birth n)
fresh_all P fresh delta write page birth zero = tt
fresh_all P fresh delta write page birth (suc n) = (fresh (mapped_page delta write page birth) (refl, refl), fresh_all P fresh delta write (page + 1) (birth + 1) n)

pub mapped_all : (P : PageState → Type 0) → ((page : PageState) → IsFree page → P page) → (delta : Option DeltaValue) (write : Bool) (page birth n : ℕ) (pages : List PageState) → AllByRecursion P pages
    → AllByRecursion P (sorted_by (λ page. page.number) (pages ++ mapped_pages delta write page birth n))
mapped_all P fresh delta write page birth n pages all =
    let new : List PageState = mapped_pages delta write page birth n in
    all_sorted P (λ (page : PageState). page.number) (pages ++ new) (all_append P pages new all (fresh_all P fresh delta write page birth n))
