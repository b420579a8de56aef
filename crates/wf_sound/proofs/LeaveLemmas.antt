-- The invariant is kept where pages of data leave.
use Rattle.std.proofs.Common.{◌≡◌, ◌≢◌, ◌<◌, ◌≤◌, ◌+◌, ◌==◌, ◌&&◌, ℕ, List, [], ◌∷◌, Bool, true, false, Option, Some, None, length, map, refl, sym, ap, subst, ◌∙◌, inl, inr, arith, is_some, if◌then◌else◌}
use Rattle.std.specs.Prelude.{IsSomeAnd, nat_lt, nat_le, not}
use Rattle.std.specs.Option.{option_map}
use Rattle.std.specs.List.{AllByRecursion, filter}
use Rattle.std.proofs.lemmas.List.{length-map}
use Rattle.std.proofs.lemmas.Bool.Decides.{nat_tests}
use Rattle.wf_outside.specs.Images.{DeltaValue}
use Rattle.wf_outside.specs.Lists.{IsRising}
use Rattle.wf_outside.specs.Pages.{page_of}
use Rattle.wf_flat.specs.declared.state.Stage.TheVariants.{Going}
use Rattle.wf_flat.specs.State.{FlatState, PageState}
use Rattle.wf_flat.specs.Ordered.{IsOrdered, page_numbers}
use Rattle.wf_flat.specs.Memory.{data_in}
use Rattle.wf_flat.specs.Accesses.{holder_is, holds_page, is_ending, is_free}
use Rattle.wf_flat.proofs.FoundLemmas.{key_of_found}
use Rattle.wf_flat.proofs.ListLemmas.{and_some, some_and}
use Rattle.wf_effects.specs.Effects.{ending, going_in, page_ending, page_gone, pages_going}
use Rattle.wf_effects.specs.Generations.{is_live}
use Rattle.wf_effects.specs.Ranges.{is_data}
use Rattle.wf_effects.proofs.OrderLemmas.{ending_ordered, going_ordered, gone_ordered}
use Rattle.wf_sound.specs.Sound.{HasHolder, IsMet, IsSoundPage, IsSoundState}
use Rattle.wf_sound.proofs.AllLemmas.{all_filter, all_map, all_more, distinct_filter, found_dropped, found_kept, found_map, found_past, map_all, one_or_two}
use Rattle.wf_sound.proofs.KernelLemmas.{change_sound, changed_to}
use Rattle.wf_sound.proofs.PageLemmas.{at_here, at_number, at_past, found_at}
use Rattle.wf_sound.proofs.StateLemmas.{gens_kept}

-- a free page is held by nobody
free_held : (o : ℕ) (p : Option PageState) → IsSomeAnd p (λ page. is_free page ≡ true) → holds_page o p ≡ true → ⊥
free_held o None is e = is
free_held o (Some page) is e = by_holder page.holder is e
  where
    by_holder : (q : Option ℕ) → not (is_some q) ≡ true → holder_is q o ≡ true → ⊥
    by_holder None free e = cc
    by_holder (Some k) free e = cc

pub not_equal : (a b : ℕ) → not (a == b) ≡ true → a ≢ b
not_equal a b e = grind (arith, nat_tests)

pub equal_not : (a b : ℕ) → a ≢ b → not (a == b) ≡ true
equal_not a b e = grind (arith, nat_tests)

equal_drops : (a b : ℕ) → a ≡ b → not (a == b) ≡ false
equal_drops a b e = grind (arith, nat_tests)

module _ (s : FlatState) (n : ℕ) where
  -- the other pages stay
  pub gone_past : (m : ℕ) → m ≢ n → data_in (filter (λ (page : PageState). not (page.number == n)) s.pages) m ≡ data_in s.pages m
  gone_past m apart = found_kept (λ (page : PageState). page.number) (λ page. not (page.number == n)) m (λ page e. equal_not page.number n (λ same. apart (sym e ∙ same))) s.pages

  pub gone_here : data_in (filter (λ (page : PageState). not (page.number == n)) s.pages) n ≡ None
  gone_here = found_dropped (λ (page : PageState). page.number) (λ page. not (page.number == n)) n (λ page e. equal_drops page.number n e) s.pages

-- as many are left but one
pub length_kept : (pages : List PageState) (n : ℕ) → AllByRecursion (λ page. page.number ≢ n) pages → filter (λ (page : PageState). not (page.number == n)) pages ≡ pages
length_kept [] n all = refl
length_kept (page ∷ pages) n all = rw (equal_not page.number n all.0, length_kept pages n all.1) refl

-- where numbers rise, the page that is there goes alone
pub gone_length : (pages : List PageState) (n : ℕ) (page : PageState) → IsRising (page_numbers pages) → data_in pages n ≡ Some page → length (filter (λ (other : PageState). not (other.number == n)) pages) + 1 ≡ length pages
gone_length [] n page up found = absurd cc
gone_length (p ∷ pages) n page up found = elim (one_or_two p.number n) [
  | inl e ↦ (
      let behind : AllByRecursion (λ (other : PageState). other.number ≢ n) pages = map_all (λ (other : PageState). other.number ≢ n) (λ m. p.number < m) (λ other. other.number) (λ other lt same. (let k : p.number < other.number = lt in omega arith)) pages up.0 in
      rw (equal_drops p.number n e, length_kept pages n behind) (omega arith))
  | inr apart ↦ (
      let rest = gone_length pages n page up.1 (sym (found_past (λ (other : PageState). other.number) p pages n apart) ∙ found) in
      rw (equal_not p.number n apart) (omega arith))
]

met_past : (s : FlatState) (pages : List PageState) (n : ℕ) → ((m : ℕ) → m ≢ n → (page : PageState) → data_in s.pages m ≡ Some page → is_ending page.stage ≡ false → IsSomeAnd (data_in pages m) (λ page. is_ending page.stage ≡ false))
    → AllByRecursion (IsMet s) s.met → AllByRecursion (λ pair. (is_live s pair.0 ≡ true) × IsSomeAnd (data_in pages pair.1) (λ page. is_ending page.stage ≡ false)) (filter (λ pair. not (pair.1 == n)) s.met)
met_past s pages n still met = all_filter (λ (pair : ℕ × ℕ). not (pair.1 == n)) (IsMet s) (λ pair. (is_live s pair.0 ≡ true) × IsSomeAnd (data_in pages pair.1) (λ page. is_ending page.stage ≡ false))
    (λ pair keeps is. (let w = some_and (data_in s.pages pair.1) (λ page. is_ending page.stage ≡ false) is.1 in (is.0, still pair.1 (not_equal pair.1 n keeps) w.0 w.1 w.2))) s.met met

worn_more : (worn : Bool) (count : ℕ) → (if worn then count + 1 else count) ≤ count + 1
worn_more true count = omega arith
worn_more false count = omega arith

-- a page that nobody holds is gone
pub gone_sound : (deltas : List DeltaValue) (s : FlatState) (n : ℕ) (worn : Bool) (page : PageState) → IsSoundState deltas s → data_in s.pages n ≡ Some page → is_free page ≡ true → IsSoundState deltas (page_gone s n worn)
gone_sound deltas s n worn page sound found free =
    let t : FlatState = page_gone s n worn in
    let len = gone_length s.pages n page sound.ordered.pages found in
    let frames = sound.frames in
    let more = worn_more worn s.worn in
    let none : (m : ℕ) → is_data s m ≡ false → is_data t m ≡ false = λ m e. (elim (one_or_two m n) [
      | inl same ↦ (rw same (ap is_some (gone_here s n)))
      | inr apart ↦ (ap is_some (gone_past s n m apart) ∙ e)
    ]) in
    change_sound deltas s t.pages t.gens t.met t.births t.worn sound (record {
      ordered = gone_ordered s n worn sound.ordered;
      pages = all_filter (λ (other : PageState). not (other.number == n)) (IsSoundPage s.limits s.births) (IsSoundPage s.limits s.births) (λ other keeps is. is) s.pages sound.pages;
      births = distinct_filter (λ (other : PageState). other.birth) (λ other. not (other.number == n)) s.pages sound.births;
      held = all_filter (λ (other : PageState). not (other.number == n)) (HasHolder s) (HasHolder s) (λ other keeps is. is) s.pages sound.held;
      more_gens = omega arith;
      few_gens = sound.few_gens;
      placed = sound.placed;
      gens = gens_kept deltas s t none s.gens sound.gens;
      live = λ o hart known runs live. live;
      more_births = omega arith;
      holds = λ o access e. subst (λ (p : Option PageState). holds_page o p ≡ true) (sym (gone_past s n (page_of access.va) (λ same. free_held o (data_in s.pages (page_of access.va)) (rw same (and_some (data_in s.pages n) (λ p. is_free p ≡ true) page found free)) e))) e;
      met = met_past s t.pages n (λ m apart p known stays. and_some (data_in t.pages m) (λ p. is_ending p.stage ≡ false) p (gone_past s n m apart ∙ known) stays) sound.met;
      frames = omega arith;
    })

module _ (s : FlatState) (n : ℕ) where
  pub ending_past : (m : ℕ) → m ≢ n → data_in (map (at_number n ending) s.pages) m ≡ data_in s.pages m
  ending_past m apart = found_at n ending (λ page. refl) s.pages m ∙ by_found (data_in s.pages m) (λ page known. key_of_found (λ (page : PageState). page.number) s.pages m page known)
    where
      by_found : (o : Option PageState) → ((page : PageState) → o ≡ Some page → page.number ≡ m) → option_map (at_number n ending) o ≡ o
      by_found None numbers = refl
      by_found (Some page) numbers = ap Some (at_past n ending page (λ same. apart (sym (numbers page refl) ∙ same)))

-- a change of the stage alone
pub record IsStaged (old new : PageState) : Type 0 where
  pub stage_only : new ≡ record old { stage = new.stage }

ending_staged : (n : ℕ) (page : PageState) → IsStaged page (at_number n ending page)
ending_staged n page = elim (one_or_two page.number n) [
  | inl e ↦ subst (IsStaged page) (sym (at_here n ending page e)) (record { stage_only = refl })
  | inr apart ↦ subst (IsStaged page) (sym (at_past n ending page apart)) (record { stage_only = refl })
]

pub going_staged : (first n : ℕ) (page : PageState) → IsStaged page (going_in first n page)
going_staged first n page = by_test (nat_le first page.number && nat_lt page.number (first + n))
  where
    by_test : (b : Bool) → IsStaged page (if b then record page { stage = Going } else page)
    by_test true = record { stage_only = refl }
    by_test false = record { stage_only = refl }

-- pages of which stages change alone
module _ (f : PageState → PageState) (staged : (page : PageState) → IsStaged page (f page)) where
  staged_page : (limits : _) (births : ℕ) (page : PageState) → IsSoundPage limits births page → IsSoundPage limits births (f page)
  staged_page limits births page is = subst (IsSoundPage limits births) (sym (staged page).stage_only) (record { is_page = is.is_page; writes = is.writes; birth = is.birth })

  staged_held : (s : FlatState) (page : PageState) → HasHolder s page → HasHolder s (f page)
  staged_held s page is = subst (HasHolder s) (sym (staged page).stage_only) is

  pub staged_found : (pages : List PageState) (m : ℕ) → data_in (map f pages) m ≡ option_map f (data_in pages m)
  staged_found pages m = found_map (λ (page : PageState). page.number) f (λ page. ap (λ (p : PageState). p.number) (staged page).stage_only) pages m

  staged_births : (pages : List PageState) → map (λ (page : PageState). page.birth) (map f pages) ≡ map (λ (page : PageState). page.birth) pages
  staged_births [] = refl
  staged_births (page ∷ pages) = rw (ap (λ (p : PageState). p.birth) (staged page).stage_only, staged_births pages) refl

  staged_there : (o : Option PageState) → is_some (option_map f o) ≡ is_some o
  staged_there None = refl
  staged_there (Some page) = refl

  staged_holds : (h : ℕ) (o : Option PageState) → holds_page h (option_map f o) ≡ holds_page h o
  staged_holds h None = refl
  staged_holds h (Some page) = ap (λ (p : PageState). holder_is p.holder h) (staged page).stage_only

  pub staged_data : (s : FlatState) (met : List (ℕ × ℕ)) (m : ℕ) → is_data (changed_to s (map f s.pages) s.gens met s.births s.worn) m ≡ is_data s m
  staged_data s met m = ap is_some (staged_found s.pages m) ∙ staged_there (data_in s.pages m)

  pub staged_sound : (deltas : List DeltaValue) (s : FlatState) (met : List (ℕ × ℕ)) → IsSoundState deltas s → IsOrdered (changed_to s (map f s.pages) s.gens met s.births s.worn) → AllByRecursion (IsMet (changed_to s (map f s.pages) s.gens met s.births s.worn)) met
      → IsSoundState deltas (changed_to s (map f s.pages) s.gens met s.births s.worn)
  staged_sound deltas s met sound ordered met_sound =
      let t : FlatState = changed_to s (map f s.pages) s.gens met s.births s.worn in
      let len = length-map s.pages f in
      let frames = sound.frames in
      change_sound deltas s t.pages t.gens met t.births t.worn sound (record {
        ordered = ordered;
        pages = all_map (IsSoundPage s.limits s.births) (IsSoundPage s.limits s.births) f (staged_page s.limits s.births) s.pages sound.pages;
        births = rw (staged_births s.pages) (sound.births);
        held = all_map (HasHolder s) (HasHolder s) f (staged_held s) s.pages sound.held;
        more_gens = omega arith;
        few_gens = sound.few_gens;
        placed = sound.placed;
        gens = gens_kept deltas s t (λ m e. staged_data s met m ∙ e) s.gens sound.gens;
        live = λ o hart known runs live. live;
        more_births = omega arith;
        holds = λ o access e. ap (holds_page o) (staged_found s.pages (page_of access.va)) ∙ staged_holds o (data_in s.pages (page_of access.va)) ∙ e;
        met = met_sound;
        frames = omega arith;
      })

-- a page is Ending
pub ending_sound : (deltas : List DeltaValue) (s : FlatState) (n : ℕ) → IsSoundState deltas s → IsSoundState deltas (page_ending s n)
ending_sound deltas s n sound =
    let t : FlatState = page_ending s n in
    staged_sound (at_number n ending) (ending_staged n) deltas s t.met sound (ending_ordered s n sound.ordered)
    (met_past s t.pages n (λ m apart p known stays. and_some (data_in t.pages m) (λ p. is_ending p.stage ≡ false) p (ending_past s n m apart ∙ known) stays) sound.met)

going_stays : (first n : ℕ) (page : PageState) → is_ending page.stage ≡ false → is_ending (going_in first n page).stage ≡ false
going_stays first n page e = by_test (nat_le first page.number && nat_lt page.number (first + n))
  where
    by_test : (b : Bool) → is_ending (if b then record page { stage = Going } else page).stage ≡ false
    by_test true = refl
    by_test false = e

-- pages are Going
pub going_sound : (deltas : List DeltaValue) (s : FlatState) (first n : ℕ) → IsSoundState deltas s → IsSoundState deltas (pages_going s first n)
going_sound deltas s first n sound =
    let t : FlatState = pages_going s first n in
    staged_sound (going_in first n) (going_staged first n) deltas s s.met sound (going_ordered s first n sound.ordered)
    (all_more (IsMet s) (IsMet t) (λ pair is. (let w = some_and (data_in s.pages pair.1) (λ page. is_ending page.stage ≡ false) is.1 in
    (is.0, and_some (data_in t.pages pair.1) (λ page. is_ending page.stage ≡ false) (going_in first n w.0) (staged_found (going_in first n) (going_staged first n) s.pages pair.1 ∙ ap (option_map (going_in first n)) w.1) (going_stays first n w.0 w.2))))
    s.met sound.met)
