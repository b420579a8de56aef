-- Pages of data of which at most that of one number is held, by one hart.
use Rattle.std.proofs.Common.{◌≡◌, ◌⊎◌, ℕ, List, [], ◌∷◌, Option, Some, None, Bool, true, false, refl, sym, subst, ◌∙◌, inl, inr, arith}
use Rattle.std.specs.Prelude.{◌==◌, if◌then◌else◌}
use Rattle.std.specs.List.{AllByRecursion}
use Rattle.std.proofs.lemmas.Bool.Decides.{nat_tests}
use Rattle.wf_flat.specs.declared.state.Stage.TheVariants.{Here}
use Rattle.wf_flat.specs.declared.event.Event.{Event}
use Rattle.wf_flat.specs.State.{FlatState, PageState}
use Rattle.wf_flat.specs.Lists.{changed_by}
use Rattle.wf_flat.specs.Memory.{data_in}
use Rattle.wf_flat.specs.Accesses.{holder_is, holds_page}
use Rattle.wf_flat.specs.Changes.{given_back, put_with, taken_by}
use Rattle.wf_flat.proofs.ListLemmas.{some_and}
use Rattle.wf_legal.specs.Calls.{Settles, may_go}
use Rattle.wf_next.specs.Determined.{IsOwn}
use Rattle.wf_next.proofs.QuietLemmas.{found_all}
use Rattle.wf_follow.proofs.HartLemmas.{all_more, pages_changed}

-- the page is Here, and nobody holds it
abbrev pub IsFree : PageState → Type 0
IsFree page = (page.stage ≡ Here) × (page.holder ≡ None)

-- the holder of the page of a number, where a hart holds that of one number, if any
abbrev pub holder_of : ℕ → Option ℕ → ℕ → Option ℕ
holder_of h None n = None
holder_of h (Some held) n = if n == held then Some h else None

-- the page is Here, and has this holder
abbrev pub IsKept : ℕ → Option ℕ → PageState → Type 0
IsKept h held page = (page.stage ≡ Here) × (page.holder ≡ holder_of h held page.number)

-- at most that of this number is held
abbrev pub IsAtMost : Option ℕ → ℕ → Type 0
IsAtMost held n = (held ≡ None) ⊎ (held ≡ Some n)

pub free_kept : (h : ℕ) (pages : List PageState) → AllByRecursion IsFree pages → AllByRecursion (IsKept h None) pages
free_kept h pages all = all_more IsFree (IsKept h None) (λ page free. free) pages all

pub kept_free : (h : ℕ) (held : Option ℕ) (pages : List PageState) → held ≡ None → AllByRecursion (IsKept h held) pages → AllByRecursion IsFree pages
kept_free h held pages e all =
    all_more (IsKept h None) IsFree (λ page kept. kept) pages (subst (λ (o : Option ℕ). AllByRecursion (IsKept h o) pages) e all)

-- no other hart holds one
own_of : (h : ℕ) (held : Option ℕ) (page : PageState) → IsKept h held page → IsOwn h page
own_of h None page kept = (kept.0, inl kept.1)
own_of h (Some n) page kept = (kept.0, by_test (page.number == n) kept.1)
  where
    by_test : (b : Bool) → page.holder ≡ (if b then Some h else None) → (page.holder ≡ None) ⊎ (page.holder ≡ Some h)
    by_test true e = inr e
    by_test false e = inl e

pub kept_own : (h : ℕ) (held : Option ℕ) (pages : List PageState) → AllByRecursion (IsKept h held) pages → AllByRecursion (IsOwn h) pages
kept_own h held pages all = all_more (IsKept h held) (IsOwn h) (own_of h held) pages all

-- a page of another number is not held
other_free : (h n : ℕ) (page : PageState) → page.holder ≡ holder_of h (Some n) page.number → (page.number == n) ≡ false → page.holder ≡ None
other_free h n page e t = let none : holder_of h (Some n) page.number ≡ None = rw t refl in e ∙ none

not_held : (h n : ℕ) (held : Option ℕ) (page : PageState) → IsAtMost held n → (page.number == n) ≡ false → IsKept h held page → page.holder ≡ None
not_held h n held page most t kept = elim most [
  | inl e ↦ subst (λ (o : Option ℕ). page.holder ≡ holder_of h o page.number) e kept.1
  | inr e ↦ other_free h n page (subst (λ (o : Option ℕ). page.holder ≡ holder_of h o page.number) e kept.1) t
]

-- it is taken, written and given back
taken_page : (h n : ℕ) (page : PageState) → (page.number == n) ≡ true → page.stage ≡ Here → IsKept h (Some n) (taken_by h page)
taken_page h n page t here = let held : holder_of h (Some n) page.number ≡ Some h = rw t refl in (here, sym held)

pub taken : (h n : ℕ) (held : Option ℕ) (pages : List PageState) → IsAtMost held n → AllByRecursion (IsKept h held) pages → AllByRecursion (IsKept h (Some n)) (changed_by (λ page. page.number) pages n (taken_by h))
taken h n held pages most all =
    pages_changed (IsKept h held) (IsKept h (Some n)) (taken_by h) n pages all
    (λ page t kept. taken_page h n page t kept.0)
    (λ page t kept. (kept.0, not_held h n held page most t kept ∙ sym (let none : holder_of h (Some n) page.number ≡ None = rw t refl in none)))

pub written : (h n at width value : ℕ) (held : Option ℕ) (pages : List PageState) → AllByRecursion (IsKept h held) pages → AllByRecursion (IsKept h held) (changed_by (λ page. page.number) pages n (put_with at width value))
written h n at width value held pages all =
    pages_changed (IsKept h held) (IsKept h held) (put_with at width value) n pages all (λ page t kept. kept) (λ page t kept. kept)

pub given : (h n last : ℕ) (put : Bool) (held : Option ℕ) (pages : List PageState) → IsAtMost held n → AllByRecursion (IsKept h held) pages → AllByRecursion IsFree (changed_by (λ page. page.number) pages n (given_back last put))
given h n last put held pages most all =
    pages_changed (IsKept h held) IsFree (given_back last put) n pages all (λ page t kept. (kept.0, refl)) (λ page t kept. (kept.0, not_held h n held page most t kept))

-- where the hart does not hold the page of that number, it holds none
same_number : (h : ℕ) → (h == h) ≡ true
same_number h = grind (arith, nat_tests)

no_page : (h n : ℕ) (pages : List PageState) → holds_page h (data_in pages n) ≡ false → AllByRecursion (IsKept h (Some n)) pages → AllByRecursion IsFree pages
no_page h n [] lacks all = tt
no_page h n (page ∷ pages) lacks all = by_test (page.number == n) all.0.1 lacks (λ other. no_page h n pages other all.1)
  where
    by_test : (b : Bool) → page.holder ≡ (if b then Some h else None) → holds_page h (if b then Some page else data_in pages n) ≡ false → (holds_page h (data_in pages n) ≡ false → AllByRecursion IsFree pages) → AllByRecursion IsFree (page ∷ pages)
    by_test true e lacks rest =
        let is : holder_is page.holder h ≡ true = subst (λ (o : Option ℕ). holder_is o h ≡ true) (sym e) (same_number h) in
        absurd (cc)
    by_test false e lacks rest = ((all.0.0, e), rest lacks)

pub unheld : (h n : ℕ) (held : Option ℕ) (pages : List PageState) → IsAtMost held n → holds_page h (data_in pages n) ≡ false → AllByRecursion (IsKept h held) pages → AllByRecursion IsFree pages
unheld h n held pages most lacks all = elim most [
  | inl e ↦ kept_free h held pages e all
  | inr e ↦ no_page h n pages lacks (subst (λ (o : Option ℕ). AllByRecursion (IsKept h o) pages) e all)
]

-- where no page is leaving, none goes in a call that settles
pub none_settles : (s : FlatState) (owed : List ℕ) (last : Option ℕ) (e : Event) → AllByRecursion IsFree s.pages → Settles s owed last e → ⊥
none_settles s owed last e free d =
    let w = some_and (data_in s.pages d.page) _ d.may in
    let here = (found_all IsFree s.pages d.page w.0 free w.1).0 in
    let stays : may_go w.0 ≡ false = rw here refl in
    let goes = w.2 in
    cc
