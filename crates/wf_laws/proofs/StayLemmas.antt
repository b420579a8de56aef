-- What holds of a page of data, if it is there, and changes keep.
use Rattle.std.proofs.Common.{◌≡◌, ℕ, Option, Some, None, Bool, true, false, ◌==◌, refl, sym, subst}
use Rattle.std.specs.Prelude.{if◌then◌else◌}
use Rattle.std.specs.Option.{option_map, IfSome}
use Rattle.wf_outside.specs.Pages.{page_of}
use Rattle.wf_flat.specs.State.{FlatState, HartState, PageState}
use Rattle.wf_flat.specs.Accesses.{Access, holds}
use Rattle.wf_flat.specs.Steps.{access_in}
use Rattle.wf_flat.specs.Changes.{given_back}
use Rattle.wf_laws.proofs.PageLemmas.{at_number, given_by, given_of, or_else}

pub if_map : (P : PageState → Type 0) (f : PageState → PageState) (o : Option PageState) → ((p : PageState) → o ≡ Some p → P p → P (f p)) → IfSome o P → IfSome (option_map f o) P
if_map P f None k p = tt
if_map P f (Some page) k p = k page refl p

pub at_stays : (P : PageState → Type 0) (n : ℕ) (f : PageState → PageState) → ((p : PageState) → P p → P (f p)) → (p : PageState) → P p → P (at_number n f p)
at_stays P n f k p e = by_test (p.number == n)
  where
    by_test : (b : Bool) → P (if b then f p else p)
    by_test true = k p e
    by_test false = e

pub given_stays : (P : PageState → Type 0) (s : FlatState) (h : ℕ) (o : Option HartState) → ((last : ℕ) (put : Bool) (p : PageState) → P p → P (given_back last put p)) → (p : PageState) → P p → P (given_by s h o p)
given_stays P s h None k p e = e
given_stays P s h (Some hart) k p e = by_access (access_in hart)
  where
    by_test : (b : Bool) (n : ℕ) → P (if b then at_number n (given_back s.limits.last_writes hart.put) p else p)
    by_test true n = at_stays P n (given_back s.limits.last_writes hart.put) (k s.limits.last_writes hart.put) p e
    by_test false n = e

    by_access : (o : Option Access) → P (given_of s hart h o p)
    by_access None = e
    by_access (Some access) = by_test (holds s h access) (page_of access.va)

pub or_stays : (P : PageState → Type 0) (o other : Option PageState) → other ≡ None → IfSome o P → IfSome (or_else o other) P
or_stays P None other none p = subst (λ (o : Option PageState). IfSome o P) (sym none) tt
or_stays P (Some page) other none p = p

pub gone_stays : (P : PageState → Type 0) (b : Bool) (o : Option PageState) → IfSome o P → IfSome (if b then None else o) P
gone_stays P true o p = tt
gone_stays P false o p = p
