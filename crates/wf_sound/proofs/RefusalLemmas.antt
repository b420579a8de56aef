-- What holds where a request is not refused.
use Rattle.std.proofs.Common.{◌≡◌, ◌<◌, ◌≤◌, ◌+◌, ◌-◌, ◌*◌, ◌%◌, ◌^◌, ◌==◌, ◌&&◌, ◌||◌, ℕ, zero, suc, List, [], ◌∷◌, Bool, true, false, Option, Some, None, length, refl, ap, subst, ◌∙◌, arith, is_some, if◌then◌else◌, unwrap_or}
use Rattle.std.specs.Prelude.{slice_get, IfSome, IsSomeAnd, nat_le, nat_lt, not}
use Rattle.std.specs.Option.{option_map}
use Rattle.std.specs.List.{AllByRecursion}
use Rattle.std.proofs.lemmas.Bool.Decides.{nat_tests}
use Rattle.wf_outside.specs.declared.refusal.Refusal.TheVariants.{Argument, Overlap, Absent, Leaving, NoFrames, NoView, NotEmpty, Views}
use Rattle.wf_outside.specs.Lists.{first_of}
use Rattle.wf_outside.specs.Pages.{page_of}
use Rattle.wf_flat.specs.declared.state.Stage.{Stage}
use Rattle.wf_flat.specs.declared.state.Stage.TheVariants as stages
use Rattle.wf_flat.specs.State.{FlatState, GenState, PageState}
use Rattle.wf_flat.specs.Counts.{used_of}
use Rattle.wf_flat.specs.Memory.{data_in}
use Rattle.wf_flat.specs.Accesses.{is_ending, is_going, is_here}
use Rattle.wf_effects.specs.Generations.{is_live, lowest_in, newest, newest_live}
use Rattle.wf_effects.specs.Ranges.{first_absent, first_leaving, first_overlap, is_data, is_live_text, is_page_ending, is_page_here}
use Rattle.wf_verdict.specs.Verdict.{absent, bad_range, free_of, leaving, no_frames, no_more_views, no_view, not_empty, overlap}
use Rattle.wf_sound.specs.Sound.{HasNoneGoing, IsSoundState, IsUnused}
use Rattle.wf_sound.proofs.AllLemmas.{all_both, all_found, all_more}
use Rattle.wf_sound.proofs.GenerationLemmas.{live_from, live_gen}
use Rattle.wf_sound.proofs.HandLemmas.{second_true}
use Rattle.wf_sound.proofs.SearchLemmas.{none_passes}

-- where the first that is there is none, none is there
pub all_none : {A : Type 0} (os : List (Option A)) → first_of os ≡ None → AllByRecursion (λ o. o ≡ None) os
all_none [] e = tt
all_none (None ∷ os) e = (refl, all_none os e)
all_none (Some x ∷ os) e = absurd cc

none_mapped : {A B : Type 0} (f : A → B) (o : Option A) → option_map f o ≡ None → o ≡ None
none_mapped f None e = refl
none_mapped f (Some x) e = absurd cc

none_if : {A : Type 0} (b : Bool) (x : A) → (if b then None else Some x) ≡ None → b ≡ true
none_if true x e = refl
none_if false x e = absurd cc

some_if : {A : Type 0} (b : Bool) (x : A) → (if b then Some x else None) ≡ None → b ≡ false
some_if true x e = absurd cc
some_if false x e = refl

-- the pages of a range that is right end below the last address
pub range_low : (va pages : ℕ) → bad_range va pages ≡ None → page_of va + pages ≤ 67108864
range_low va pages e =
    let all = none_if ((va % 4096 == 0) && nat_le 1 pages && nat_le pages 256 && nat_le (va + 4096 * pages) (2 ^ 38)) Argument e in
    let last : nat_le (va + 4096 * pages) (2 ^ 38) ≡ true = second_true ((va % 4096 == 0) && nat_le 1 pages && nat_le pages 256) (nat_le (va + 4096 * pages) (2 ^ 38)) all in
    let le : va + 4096 * pages ≤ 2 ^ 38 = grind (arith, nat_tests) in
    omega arith

-- a generation of which there is a view lives
pub view_live : (s : FlatState) (g : ℕ) → no_view s g ≡ None → is_live s g ≡ true
view_live s g e = none_if (is_live s g) (NoView g) e

pub views_few : (s : FlatState) → no_more_views s ≡ None → length s.gens < 1024
views_few s e = let k : nat_lt (length s.gens) 1024 ≡ true = none_if (nat_lt (length s.gens) 1024) Views e in grind (arith, nat_tests)

pub empty_none : (s : FlatState) (g : ℕ) → not_empty s g ≡ None → lowest_in s g ≡ None
empty_none s g e = none_mapped NotEmpty (lowest_in s g) e

-- there are frames for what is to come
pub frames_enough : (deltas : _) (s t : FlatState) → IsSoundState deltas s → no_frames s t ≡ None → used_of t + s.worn ≤ s.limits.frames
unfolding no_frames
frames_enough deltas s t sound e =
    let k : nat_lt (s.limits.frames - used_of s - s.worn) (used_of t - used_of s) ≡ false = some_if (nat_lt (free_of s) (used_of t - used_of s)) (NoFrames (used_of t - used_of s) (free_of s)) e in
    let le : used_of t - used_of s ≤ s.limits.frames - used_of s - s.worn = grind (arith, nat_tests) in
    let frames = sound.frames in
    omega arith

not_here : (a b : Bool) → (a || b) ≡ false → a ≡ false
not_here true b e = absurd cc
not_here false b e = refl

not_text : (a b : Bool) → (a || b) ≡ false → b ≡ false
not_text true b e = absurd cc
not_text false b e = e

no_stage : (stage : Stage) → is_here stage ≡ false → is_going stage ≡ false → is_ending stage ≡ false → ⊥
no_stage stages.Here here going ending = cc
no_stage stages.Going here going ending = cc
no_stage stages.Ending here going ending = cc

no_data : (s : FlatState) (m : ℕ) (o : Option PageState) → data_in s.pages m ≡ o → HasNoneGoing s → unwrap_or (option_map (λ (page : PageState). is_here page.stage) o) false ≡ false → unwrap_or (option_map (λ (page : PageState). is_ending page.stage) o) false ≡ false → is_some o ≡ false
no_data s m None found none here ending = refl
no_data s m (Some page) found none here ending = absurd (no_stage page.stage here (all_found (λ (page : PageState). page.number) (λ page. is_going page.stage ≡ false) s.pages m page none found) ending)

-- pages that do not overlap, and of which none leaves, are not used
pub unused_pages : (s : FlatState) (ns : List ℕ) → HasNoneGoing s → overlap s ns ≡ None → leaving s ns ≡ None → AllByRecursion (IsUnused s) ns
unused_pages s ns none over leave =
    all_both (λ m. (is_page_here s m || is_live_text s m) ≡ false) (λ m. is_page_ending s m ≡ false) (IsUnused s)
    (λ m a b. (no_data s m (data_in s.pages m) refl none (not_here (is_page_here s m) (is_live_text s m) a) b, not_text (is_page_here s m) (is_live_text s m) a))
    ns (none_passes (λ m. is_page_here s m || is_live_text s m) ns (none_mapped Overlap (first_overlap s ns) over)) (none_passes (λ m. is_page_ending s m) ns (none_mapped Leaving (first_leaving s ns) leave))

data_there : (o : Option PageState) → not (is_some o) ≡ false → IsSomeAnd o (λ page. Unit {0})
data_there None e = absurd cc
data_there (Some page) e = tt

-- pages of which none is absent are there
pub present_pages : (s : FlatState) (ns : List ℕ) → absent s ns ≡ None → AllByRecursion (λ m. IsSomeAnd (data_in s.pages m) (λ page. Unit {0})) ns
present_pages s ns e = all_more (λ m. not (is_data s m) ≡ false) (λ m. IsSomeAnd (data_in s.pages m) (λ page. Unit {0})) (λ m f. data_there (data_in s.pages m) f) ns
    (none_passes (λ m. not (is_data s m)) ns (none_mapped Absent (first_absent s ns) e))

all_by_place : {A : Type 0} (P : A → Type 0) (xs : List A) → ((i : ℕ) (x : A) → slice_get xs i ≡ Some x → P x) → AllByRecursion P xs
all_by_place P [] each = tt
all_by_place P (x ∷ xs) each = (each 0 x refl, all_by_place P xs (λ i y e. each (suc i) y e))

newest_is : (s : FlatState) (gens : List GenState) (so_far : Option ℕ) (g : ℕ) → IfSome so_far (λ k. is_live s k ≡ true) → AllByRecursion (λ gen. gen.live ≡ true → is_live s gen.number ≡ true) gens → newest_live gens so_far ≡ Some g → is_live s g ≡ true
newest_is s [] None g old all e = absurd cc
newest_is s [] (Some k) g old all e = let same : k ≡ g = cc in subst (λ (j : ℕ). is_live s j ≡ true) same old
newest_is s (gen ∷ gens) so_far g old all e = newest_is s gens (if gen.live then Some gen.number else so_far) g (by_live gen.live refl) all.1 e
  where
    by_live : (b : Bool) → gen.live ≡ b → IfSome (if b then Some gen.number else so_far) (λ k. is_live s k ≡ true)
    by_live true t = all.0 t
    by_live false t = old

newest_some : (gens : List GenState) (so_far : Option ℕ) → is_some so_far ≡ true → newest_live gens so_far ≡ None → ⊥
newest_some [] None some e = cc
newest_some [] (Some k) some e = cc
newest_some (gen ∷ gens) so_far some e = newest_some gens (if gen.live then Some gen.number else so_far) (by_live gen.live) e
  where
    by_live : (b : Bool) → is_some (if b then Some gen.number else so_far) ≡ true
    by_live true = refl
    by_live false = some

newest_there : (gens : List GenState) (so_far : Option ℕ) (i : ℕ) (gen : GenState) → slice_get gens i ≡ Some gen → gen.live ≡ true → newest_live gens so_far ≡ None → ⊥
newest_there [] so_far i gen e live none = cc
newest_there (x ∷ xs) so_far zero gen e live none =
    let k : x ≡ gen = cc in
    let t : x.live ≡ true = ap (λ (g : GenState). g.live) k ∙ live in
    newest_some xs (if x.live then Some x.number else so_far) (rw t refl) none
newest_there (x ∷ xs) so_far (suc i) gen e live none = newest_there xs (if x.live then Some x.number else so_far) i gen e live none

-- where one lives, the newest lives
pub newest_lives : (deltas : _) (s : FlatState) (g : ℕ) → IsSoundState deltas s → is_live s g ≡ true → is_live s (newest s) ≡ true
newest_lives deltas s g sound live = by_found (newest_live s.gens None) refl
  where
    by_found : (o : Option ℕ) → newest_live s.gens None ≡ o → is_live s (unwrap_or o (length s.gens - 1)) ≡ true
    by_found None e = absurd (let w = live_gen s g live in newest_there s.gens None g w.0 w.1 w.2 e)
    by_found (Some k) e = newest_is s s.gens None k tt
        (all_by_place (λ gen. gen.live ≡ true → is_live s gen.number ≡ true) s.gens (λ i gen at lives. (let p = sound.placed i gen at in rw (p.0) (live_from s i gen at lives)))) e
