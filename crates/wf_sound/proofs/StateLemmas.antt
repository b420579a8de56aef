-- The invariant is kept where harts, pages and who is inside change as an entry of a try changes them.
use Rattle.std.proofs.Common.{◌≡◌, ◌≢◌, ◌<◌, ◌≤◌, ℕ, suc, List, [], ◌∷◌, true, false, Option, Some, None, length, map, refl, sym, ap, subst, ◌∙◌, inl, inr, arith, is_some}
use Rattle.std.specs.Prelude.{slice_get, IfSome}
use Rattle.std.specs.List.{AllByRecursion}
use Rattle.wf_outside.specs.Images.{DeltaValue, text_numbers}
use Rattle.wf_outside.specs.Pages.{page_of}
use Rattle.wf_flat.specs.declared.event.Actor.{Actor}
use Rattle.wf_flat.specs.declared.state.Life.TheVariants.{Running}
use Rattle.wf_flat.specs.declared.state.Reservation.{Reservation}
use Rattle.wf_flat.specs.State.{FlatState, GenState, HartState, PageState}
use Rattle.wf_flat.specs.Ordered.{page_numbers}
use Rattle.wf_flat.specs.Memory.{data_in}
use Rattle.wf_flat.specs.Accesses.{Access, holder_is, holds, holds_page, is_ending, is_free}
use Rattle.wf_flat.proofs.ListLemmas.{and_some, some_and, if_some_more}
use Rattle.wf_effects.specs.Generations.{is_live}
use Rattle.wf_effects.specs.Ranges.{is_data}
use Rattle.wf_sound.specs.Sound.{HasHolder, IsLeft, IsMet, IsSoundGen, IsSoundHart, IsSoundPage, IsSoundState}
use Rattle.wf_sound.proofs.AllLemmas.{all_more, found_here, found_past, one_or_two}
use Rattle.wf_sound.proofs.HartLemmas.{IsNoted, Other, Own, Stepped, stands_after}

-- two lists of pages, one by one
abbrev pub Paired : (PageState → PageState → Type 0) → List PageState → List PageState → Type 0
Paired R [] [] = Unit {0}
Paired R [] (y ∷ ys) = ⊥
Paired R (x ∷ xs) [] = ⊥
Paired R (x ∷ xs) (y ∷ ys) = R x y × Paired R xs ys

abbrev pub AreFound : (PageState → PageState → Type 0) → Option PageState → Option PageState → Type 0
AreFound R None None = Unit {0}
AreFound R None (Some y) = ⊥
AreFound R (Some x) None = ⊥
AreFound R (Some x) (Some y) = R x y

module _ (R : PageState → PageState → Type 0) where
  -- each by itself
  pub paired_same : (xs : List PageState) → AllByRecursion (λ x. R x x) xs → Paired R xs xs
  paired_same [] all = tt
  paired_same (x ∷ xs) all = (all.0, paired_same xs all.1)

  -- each changes
  pub paired_map : (f : PageState → PageState) (xs : List PageState) → AllByRecursion (λ x. R x (f x)) xs → Paired R xs (map f xs)
  paired_map f [] all = tt
  paired_map f (x ∷ xs) all = (all.0, paired_map f xs all.1)

  pub paired_all : (P Q : PageState → Type 0) → ((x y : PageState) → R x y → P x → Q y) → (xs ys : List PageState) → Paired R xs ys → AllByRecursion P xs → AllByRecursion Q ys
  paired_all P Q more [] [] p all = tt
  paired_all P Q more [] (y ∷ ys) p all = absurd p
  paired_all P Q more (x ∷ xs) [] p all = absurd p
  paired_all P Q more (x ∷ xs) (y ∷ ys) p all = (more x y p.0 all.0, paired_all P Q more xs ys p.1 all.1)

  pub paired_keys : {B : Type 0} (f : PageState → B) → ((x y : PageState) → R x y → f y ≡ f x) → (xs ys : List PageState) → Paired R xs ys → map f ys ≡ map f xs
  paired_keys f same [] [] p = refl
  paired_keys f same [] (y ∷ ys) p = absurd p
  paired_keys f same (x ∷ xs) [] p = absurd p
  paired_keys f same (x ∷ xs) (y ∷ ys) p = rw (same x y p.0, paired_keys f same xs ys p.1) refl

  pub paired_length : (xs ys : List PageState) → Paired R xs ys → length ys ≡ length xs
  paired_length [] [] p = refl
  paired_length [] (y ∷ ys) p = absurd p
  paired_length (x ∷ xs) [] p = absurd p
  paired_length (x ∷ xs) (y ∷ ys) p = ap suc (paired_length xs ys p.1)

  pub paired_found : ((x y : PageState) → R x y → y.number ≡ x.number) → (xs ys : List PageState) (n : ℕ) → Paired R xs ys → AreFound R (data_in xs n) (data_in ys n)
  paired_found same [] [] n p = tt
  paired_found same [] (y ∷ ys) n p = absurd p
  paired_found same (x ∷ xs) [] n p = absurd p
  paired_found same (x ∷ xs) (y ∷ ys) n p = elim (one_or_two x.number n) [
    | inl e ↦ (rw (found_here (λ (page : PageState). page.number) x xs n e, found_here (λ (page : PageState). page.number) y ys n (same x y p.0 ∙ e)) (p.0))
    | inr apart ↦ (rw (found_past (λ (page : PageState). page.number) x xs n apart, found_past (λ (page : PageState). page.number) y ys n (λ e. apart (sym (same x y p.0) ∙ e))) (paired_found same xs ys n p.1))
  ]

  -- a page that was there is there still
  pub found_after : (xs ys : Option PageState) (x : PageState) → AreFound R xs ys → xs ≡ Some x → (y : PageState) × (ys ≡ Some y) × R x y
  found_after None ys x p e = absurd cc
  found_after (Some z) None x p e = absurd p
  found_after (Some z) (Some y) x p e = (y, refl, subst (λ (w : PageState). R w y) (let k : z ≡ x = cc in k) p)

  pub same_there : (xs ys : Option PageState) → AreFound R xs ys → is_some ys ≡ is_some xs
  same_there None None p = refl
  same_there None (Some y) p = absurd p
  same_there (Some x) None p = absurd p
  same_there (Some x) (Some y) p = refl

-- a page before and after an entry of an actor's try
pub record IsPageAfter (s t : FlatState) (a : ℕ) (old new : PageState) : Type 0 where
  pub number : new.number ≡ old.number
  pub birth : new.birth ≡ old.birth
  pub stage : new.stage ≡ old.stage
  pub words : length new.words ≡ length old.words
  pub writes : old.writes ≤ s.limits.last_writes → new.writes ≤ s.limits.last_writes
  pub held : HasHolder s old → HasHolder t new
  pub kept : (o : ℕ) → o ≢ a → holder_is old.holder o ≡ true → holder_is new.holder o ≡ true
  pub free : is_ending old.stage ≡ true → is_free old ≡ true → is_free new ≡ true

-- a page that stays as it is
pub page_same : (s t : FlatState) (a : ℕ) (page : PageState) → (HasHolder s page → HasHolder t page) → IsPageAfter s t a page page
page_same s t a page held = record {
  number = refl;
  birth = refl;
  stage = refl;
  words = refl;
  writes = λ le. le;
  held = held;
  kept = λ o apart e. e;
  free = λ ends free. free;
}

-- no page of text comes to be one of data
pub gens_kept : (deltas : List DeltaValue) (s t : FlatState) → ((n : ℕ) → is_data s n ≡ false → is_data t n ≡ false) → (gens : List GenState) → AllByRecursion (IsSoundGen deltas s) gens → AllByRecursion (IsSoundGen deltas t) gens
gens_kept deltas s t none gens all =
    all_more (IsSoundGen deltas s) (IsSoundGen deltas t) (λ gen sound. record {
      kept = sound.kept;
      whole = sound.whole;
      patches = sound.patches;
      apart = λ live. all_more (λ n. is_data s n ≡ false) (λ n. is_data t n ≡ false) none (text_numbers gen.text) (sound.apart live);
    }) gens all

-- what an actor's entry keeps of the harts
pub record AreHartsAfter (s t : FlatState) (a : ℕ) (g : HartState → HartState) : Type 0 where
  pub step : Stepped s.harts t.harts a g
  pub gens : length s.gens ≤ length t.gens
  pub live : (o : ℕ) (hart : HartState) → slice_get s.harts o ≡ Some hart → hart.life ≡ Running → is_live s hart.generation ≡ true → is_live t hart.generation ≡ true
  pub limits : t.limits ≡ s.limits
  pub births : s.births ≤ t.births
  pub holds : (o : ℕ) (access : Access) → o ≢ a → holds s o access ≡ true → holds t o access ≡ true
  pub own : (hart : HartState) → slice_get s.harts a ≡ Some hart → IsSoundHart s a hart → IsSoundHart t a (g hart)

left_after : (s t : FlatState) (o : Option Reservation) → t.limits ≡ s.limits → s.births ≤ t.births → IfSome o (IsLeft s) → IfSome o (IsLeft t)
left_after s t o limits births left =
    if_some_more o (IsLeft s) (IsLeft t) (λ reservation is. (rw limits (is.0), let k : reservation.birth < s.births = is.1 in omega arith)) left

other_after : (s t : FlatState) (a : ℕ) (g : HartState → HartState) → AreHartsAfter s t a g → (o : ℕ) (old new : HartState) → o ≢ a → slice_get s.harts o ≡ Some old → IsNoted old new → IsSoundHart s o old → IsSoundHart t o new
other_after s t a g after o old new apart at is sound =
    let bare : IsSoundHart t o (record old { moved = new.moved }) = record {
      generation = (let k : old.generation < length s.gens = sound.generation in let m = after.gens in omega arith);
      live = λ runs. after.live o old at runs (sound.live runs);
      registers = sound.registers;
      zero_register = sound.zero_register;
      reservation = left_after s t old.reservation after.limits after.births sound.reservation;
      written = λ access wants writes put. after.holds o access apart (sound.written access wants writes put);
    } in
    subst (IsSoundHart t o) (sym is) bare

-- the harts stay sound
pub harts_after : (s t : FlatState) (a : ℕ) (g : HartState → HartState) → AreHartsAfter s t a g → ((o : ℕ) (hart : HartState) → slice_get s.harts o ≡ Some hart → IsSoundHart s o hart) → (o : ℕ) (hart : HartState) → slice_get t.harts o ≡ Some hart → IsSoundHart t o hart
harts_after s t a g after sound o new e = elim (stands_after s.harts t.harts a g after.step o new e) [
  | Own old same at is ↦ (rw (same, is) (after.own old at (sound a old at)))
  | Other old apart at is ↦ other_after s t a g after o old new apart at is (sound o old at)
]

-- the state after an entry of a try
abbrev pub tried_with : FlatState → List PageState → List HartState → Option Actor → FlatState
tried_with s pages harts inside = record s { pages = pages; harts = harts; inside = inside }

module _ (s : FlatState) (pages : List PageState) (harts : List HartState) (inside : Option Actor) (a : ℕ) (g : HartState → HartState)
    (paired : Paired (IsPageAfter s (tried_with s pages harts inside) a) s.pages pages) where
  pub found_pair : (n : ℕ) → AreFound (IsPageAfter s (tried_with s pages harts inside) a) (data_in s.pages n) (data_in pages n)
  found_pair n = paired_found (IsPageAfter s (tried_with s pages harts inside) a) (λ x y p. p.number) s.pages pages n paired

  holds_after : (o : ℕ) → o ≢ a → (x y : Option PageState) → AreFound (IsPageAfter s (tried_with s pages harts inside) a) x y → holds_page o x ≡ true → holds_page o y ≡ true
  holds_after o apart None y p e = absurd cc
  holds_after o apart (Some x) None p e = absurd p
  holds_after o apart (Some x) (Some y) p e = p.kept o apart e

  met_after : (pair : ℕ × ℕ) → IsMet s pair → IsMet (tried_with s pages harts inside) pair
  met_after pair is =
      let old = some_and (data_in s.pages pair.1) (λ page. is_ending page.stage ≡ false) is.1 in
      let new = found_after (IsPageAfter s (tried_with s pages harts inside) a) (data_in s.pages pair.1) (data_in pages pair.1) old.0 (found_pair pair.1) old.1 in
      (is.0, and_some (data_in pages pair.1) (λ page. is_ending page.stage ≡ false) new.0 new.1 (rw (new.2.stage) (old.2)))

  pub state_after : (deltas : List DeltaValue) → Stepped s.harts harts a g
      → ((hart : HartState) → slice_get s.harts a ≡ Some hart → IsSoundHart s a hart → IsSoundHart (tried_with s pages harts inside) a (g hart))
      → IsSoundState deltas s → IsSoundState deltas (tried_with s pages harts inside)
  state_after deltas step own sound =
      let t : FlatState = tried_with s pages harts inside in
      let R : PageState → PageState → Type 0 = IsPageAfter s t a in
      let numbers : page_numbers pages ≡ page_numbers s.pages = paired_keys R (λ page. page.number) (λ x y p. p.number) s.pages pages paired in
      let births : map (λ (page : PageState). page.birth) pages ≡ map (λ (page : PageState). page.birth) s.pages = paired_keys R (λ page. page.birth) (λ x y p. p.birth) s.pages pages paired in
      let len : length pages ≡ length s.pages = paired_length R s.pages pages paired in
      let frames = sound.frames in
      let few = sound.few_harts in
      let many = step.same_length in
      record {
        ordered = record { pages = rw numbers (sound.ordered.pages); met = sound.ordered.met };
        pages = paired_all R (IsSoundPage s.limits s.births) (IsSoundPage s.limits s.births) (λ x y p is. record {
          is_page = record { whole = p.words ∙ is.is_page.whole; low = rw (p.number) (is.is_page.low) };
          writes = p.writes is.writes;
          birth = rw (p.birth) (is.birth);
        }) s.pages pages paired sound.pages;
        births = rw births (sound.births);
        held = paired_all R (HasHolder s) (HasHolder t) (λ x y p is. p.held is) s.pages pages paired sound.held;
        some_gens = sound.some_gens;
        few_gens = sound.few_gens;
        placed = sound.placed;
        gens = gens_kept deltas s t (λ n none. same_there R (data_in s.pages n) (data_in pages n) (found_pair n) ∙ none) s.gens sound.gens;
        few_harts = omega arith;
        harts = harts_after s t a g (record {
          step = step;
          gens = omega arith;
          live = λ o hart at runs live. live;
          limits = refl;
          births = omega arith;
          holds = λ o access apart e. holds_after o apart (data_in s.pages (page_of access.va)) (data_in pages (page_of access.va)) (found_pair (page_of access.va)) e;
          own = own;
        }) sound.harts;
        met = all_more (IsMet s) (IsMet t) met_after s.met sound.met;
        limits = sound.limits;
        frames = omega arith;
      }
