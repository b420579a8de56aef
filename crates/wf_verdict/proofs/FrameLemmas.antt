-- How many frames are used where generations reach more places.
use Rattle.std.proofs.Common.{◌≡◌, ◌≤◌, ◌<◌, ◌+◌, ◌-◌, ◌*◌, ◌++◌, ℕ, suc, zero, List, [], ◌∷◌, Bool, true, false, Option, None, length, map, sum_by, ◌^◌, refl, sym, ap, ◌∙◌, arith, if◌then◌else◌, length-append}
use Rattle.std.specs.List.{filter, range_with_len}
use Rattle.std.proofs.lemmas.List.Sums.{count_by-le-length, length-filter, sum_by-append, sum_by-cons}
use Rattle.wf_outside.specs.Images.{DeltaValue}
use Rattle.wf_flat.proofs.BootLemmas.{places_none}
use Rattle.wf_flat.proofs.RisingLemmas.{length-places_with}
use Rattle.wf_flat.specs.Boot.{places_with}
use Rattle.wf_flat.specs.Counts.{frames_of, nodes_of, used_of}
use Rattle.wf_flat.specs.State.{FlatState, GenState}
use Rattle.wf_flat.proofs.SortLemmas.{length-map, length-sorted_by}
use Rattle.std.specs.Option.{option_map}
use Rattle.std.specs.Prelude.{slice_get, unwrap_or}
use Rattle.wf_flat.specs.Accesses.{generation_text, is_here, text_in}
use Rattle.wf_outside.specs.Images.{data_numbers, text_numbers}
use Rattle.wf_outside.specs.Pages.{DataPageValue, PageValue}
use Rattle.wf_effects.specs.Generations.{is_live}
use Rattle.wf_flat.specs.State.{PageState}
use Rattle.wf_effects.specs.Effects.{generation_born, here_numbers, mapped, mapped_pages, newborn, reaching}
use Rattle.wf_verdict.specs.Frames.{born_frames, frames_reaching, no_frames_mapping, patched_places, used_reaching}
use Rattle.std.proofs.lemmas.List.FromFn.{length-range_with_len}
use Rattle.std.proofs.Common.{rules}
use Rattle.wf_verdict.specs.Verdict.{IsWithinLimits, free_of, more_than_free, no_frames}

none_by : (live : Bool) (text : ℕ) (reach : List ℕ) → (if live then text + nodes_of (if live then places_with reach [] else reach) else 0) ≡ (if live then text + nodes_of reach else 0)
none_by true text reach = rw (places_none reach) refl
none_by false text reach = refl

-- no more places
none_more : (gens : List GenState) → sum_by (λ (gen : GenState). frames_of (reaching [] gen)) gens ≡ sum_by frames_of gens
none_more [] = refl
none_more (gen ∷ gens) =
    let one : frames_of (reaching [] gen) ≡ frames_of gen = none_by gen.live (length gen.text) gen.reach in
    sum_by-cons (λ (gen : GenState). frames_of (reaching [] gen)) gen gens ∙ both one (none_more gens) ∙ sym (sum_by-cons frames_of gen gens)
  where
    both : {a b c d : ℕ} → a ≡ b → c ≡ d → a + c ≡ b + d
    both e f = omega (arith, e, f)

pub used_none : (s : FlatState) (pages : List ℕ) → pages ≡ [] → used_reaching s pages ≡ used_of s
unfolding used_reaching frames_reaching
used_none s pages e = rw e (ap (λ (k : ℕ). length s.pages + k) (none_more s.gens))

most_by : (live : Bool) (text : ℕ) (reach pages : List ℕ) → (if live then text + nodes_of (if live then places_with reach pages else reach) else 0) ≤ 2 * (if live then text + nodes_of reach else 0) + 2 * length pages
most_by true text reach pages =
    let upper = length-places_with [] (places_with reach pages) in
    let lower = length-places_with reach pages in
    omega arith
most_by false text reach pages = omega arith

-- the places of so many pages
few_more : (gens : List GenState) (pages : List ℕ) → length pages ≤ 67108864 → sum_by (λ (gen : GenState). frames_of (reaching pages gen)) gens ≤ 2 * sum_by frames_of gens + 134217728 * length gens
few_more [] pages h = omega arith
few_more (gen ∷ gens) pages h =
    let one : frames_of (reaching pages gen) ≤ 2 * frames_of gen + 2 * length pages = most_by gen.live (length gen.text) gen.reach pages in
    let others = few_more gens pages h in
    omega (arith, sum_by-cons (λ (gen : GenState). frames_of (reaching pages gen)) gen gens, sum_by-cons frames_of gen gens)

pub used_few : (s : FlatState) (pages : List ℕ) → IsWithinLimits s → length pages ≤ 67108864 → used_reaching s pages < 2 ^ 40
unfolding used_reaching frames_reaching
used_few s pages w h =
    let more = few_more s.gens pages h in
    let used = w.frames in
    let gens = w.generations in
    omega arith

pub frames_few : (s : FlatState) (pages : List ℕ) → IsWithinLimits s → length pages ≤ 67108864 → frames_reaching pages s.gens < 2 ^ 40
unfolding used_reaching
frames_few s pages w h = let all = used_few s pages w h in omega arith

pub length-mapped_pages : (delta : Option DeltaValue) (write : Bool) (page birth n : ℕ) → length (mapped_pages delta write page birth n) ≡ n
length-mapped_pages delta write page birth zero = refl
length-mapped_pages delta write page birth (suc n) = ap suc (length-mapped_pages delta write (page + 1) (birth + 1) n)

pub sum_by-map : {A B : Type 0} (f : B → ℕ) (g : A → B) (xs : List A) → sum_by f (map g xs) ≡ sum_by (λ x. f (g x)) xs
sum_by-map f g [] = refl
sum_by-map f g (x ∷ xs) =
    let rest = sum_by-map f g xs in
    omega (arith, sum_by-cons f (g x) (map g xs), sum_by-cons (λ x. f (g x)) x xs)

-- so many pages are mapped
pub used_mapped : (s : FlatState) (first n : ℕ) (write : Bool) (delta : Option DeltaValue) → used_of (mapped s first n write delta) ≡ used_reaching s (range_with_len first n) + n
unfolding used_reaching frames_reaching
used_mapped s first n write delta =
    let pages : List PageState = s.pages ++ mapped_pages delta write first s.births n in
    let sorted = length-sorted_by (λ (page : PageState). page.number) pages in
    let all = length-append s.pages (mapped_pages delta write first s.births n) in
    let more = length-mapped_pages delta write first s.births n in
    let gens = sum_by-map frames_of (reaching (range_with_len first n)) s.gens in
    omega arith

-- a generation is born
pub used_born : (deltas : List DeltaValue) (s : FlatState) (parent : ℕ) (patch : Option ℕ) → used_of (generation_born deltas s parent patch) ≡ used_of s + frames_of (newborn deltas s parent patch)
used_born deltas s parent patch =
    let gens = sum_by-append frames_of s.gens (newborn deltas s parent patch ∷ []) in
    let one = sum_by-cons frames_of (newborn deltas s parent patch) [] in
    omega arith

live_text : (live : Bool) (text nodes : ℕ) → live ≡ true → text ≤ (if live then text + nodes else 0)
live_text true text nodes e = omega arith
live_text false text nodes e = absurd (search rules)

-- a generation that lives has no more text than there are frames in use
text_below : (gens : List GenState) (g : ℕ) → unwrap_or (option_map (λ (gen : GenState). gen.live) (slice_get gens g)) false ≡ true
    → length (text_in (slice_get gens g)) ≤ sum_by frames_of gens
text_below [] g live = absurd (search rules)
text_below (gen ∷ gens) zero live =
    let one : length gen.text ≤ frames_of gen = live_text gen.live (length gen.text) (nodes_of gen.reach) live in
    omega (arith, sum_by-cons frames_of gen gens)
text_below (gen ∷ gens) (suc g) live =
    let rest = text_below gens g live in
    omega (arith, sum_by-cons frames_of gen gens)

pub text_few : (s : FlatState) (g : ℕ) → IsWithinLimits s → is_live s g ≡ true → length (generation_text s g) ≤ 65536
text_few s g w live =
    let texts = text_below s.gens g live in
    let used = w.frames in
    omega arith

pub pages_few : (s : FlatState) → IsWithinLimits s → length s.pages ≤ 65536
pages_few s w = let used = w.frames in omega arith

length-filter-le : {A : Type 0} (p : A → Bool) (xs : List A) → length (filter p xs) ≤ length xs
length-filter-le p xs = omega (arith, length-filter p xs, count_by-le-length p xs)

-- the nodes of a generation that is born
pub born_few : (s : FlatState) (text : List PageValue) → nodes_of (places_with (places_with [] (text_numbers text)) (here_numbers s)) ≤ 1 + 2 * length text + 2 * length s.pages
born_few s text =
    let numbers = length-map (λ (page : PageValue). page.number) text in
    let here = length-map (λ (page : PageState). page.number) (filter (λ (page : PageState). is_here page.stage) s.pages) in
    let few = length-filter-le (λ (page : PageState). is_here page.stage) s.pages in
    let lower = length-places_with [] (text_numbers text) in
    let all = length-places_with (places_with [] (text_numbers text)) (here_numbers s) in
    let upper = length-places_with [] (places_with (places_with [] (text_numbers text)) (here_numbers s)) in
    omega arith

-- what a map is refused for
pub map_frames : (s : FlatState) (first n : ℕ) (write : Bool) (pages : List ℕ) → pages ≡ range_with_len first n → no_frames s (mapped s first n write None) ≡ no_frames_mapping s pages
unfolding no_frames no_frames_mapping
map_frames s first n write pages e =
    rw (e, length-range_with_len first n) (ap (λ (used : ℕ). more_than_free (used - used_of s) (free_of s)) (used_mapped s first n write None))

-- what a clone is refused for
pub clone_frames : (s : FlatState) (g : ℕ) → no_frames s (generation_born [] s g None) ≡ more_than_free (born_frames s (generation_text s g)) (free_of s)
unfolding no_frames born_frames
clone_frames s g =
    let born = used_born [] s g None in
    ap (λ (need : ℕ). more_than_free need (free_of s)) (omega (arith, born))

-- the nodes of a generation that is born with a patch
pub patched_few : (s : FlatState) (text : List PageValue) (delta : DeltaValue) → nodes_of (patched_places s text delta) ≤ 1 + 2 * length text + 2 * length delta.private + 2 * length s.pages + 2 * length delta.shared
unfolding patched_places
patched_few s text delta =
    let numbers = length-map (λ (page : PageValue). page.number) text in
    let privates = length-map (λ (page : PageValue). page.number) delta.private in
    let shareds = length-map (λ (page : DataPageValue). page.number) delta.shared in
    let here = length-map (λ (page : PageState). page.number) (filter (λ (page : PageState). is_here page.stage) s.pages) in
    let few = length-filter-le (λ (page : PageState). is_here page.stage) s.pages in
    let a : List ℕ = places_with [] (text_numbers text) in
    let b : List ℕ = places_with a (text_numbers delta.private) in
    let c : List ℕ = places_with b (here_numbers s) in
    let d : List ℕ = places_with c (data_numbers delta.shared) in
    let la = length-places_with [] (text_numbers text) in
    let lb = length-places_with a (text_numbers delta.private) in
    let lc = length-places_with b (here_numbers s) in
    let ld = length-places_with c (data_numbers delta.shared) in
    let upper = length-places_with [] d in
    omega arith

pub range_length : (first n : ℕ) (pages : List ℕ) → pages ≡ range_with_len first n → length pages ≡ n
range_length first n pages e = rw e (length-range_with_len first n)
