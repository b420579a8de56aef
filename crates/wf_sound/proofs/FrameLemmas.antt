-- Frames in use: they only rise where pages are mapped and a generation is born, and they depend on
-- the numbers and stages of pages alone.
use Rattle.std.proofs.Common.{◌≡◌, ◌≤◌, ◌+◌, ◌/◌, ◌++◌, ℕ, zero, suc, List, [], ◌∷◌, Bool, true, false, Option, Some, length, map, sum_by, refl, sym, ap, ◌∙◌, inl, inr, arith, if◌then◌else◌}
use Rattle.std.specs.List.{filter, range_with_len}
use Rattle.std.proofs.lemmas.Bool.{cases_lt, cases_order}
use Rattle.std.proofs.lemmas.List.{length-map, map-append}
use Rattle.std.proofs.lemmas.List.Sums.{sum_by-cons}
use Rattle.wf_outside.specs.Images.{DeltaValue, text_numbers}
use Rattle.wf_flat.specs.declared.event.Actor.{Actor}
use Rattle.wf_flat.specs.declared.state.Stage.{Stage}
use Rattle.wf_flat.specs.Accesses.{is_here}
use Rattle.wf_flat.specs.Boot.{places_with}
use Rattle.wf_flat.specs.Counts.{frames_of, nodes_of, used_of}
use Rattle.wf_flat.specs.Lists.{inserted_by, sorted_by, with_number}
use Rattle.wf_flat.specs.State.{FlatState, GenState, HartState, PageState}
use Rattle.wf_flat.proofs.RisingLemmas.{with_past, with_same, with_here}
use Rattle.wf_effects.specs.declared.ranges.PageRun.{PageRun}
use Rattle.wf_effects.specs.Effects.{generation_born, here_numbers, mapped, mapped_page, mapped_pages, newborn, reaching}
use Rattle.wf_verdict.proofs.FrameLemmas.{used_born, used_mapped}
use Rattle.wf_verdict.proofs.PlaceLemmas.{placed_swap}
use Rattle.wf_verdict.specs.Frames.{frames_reaching, used_reaching}
use Rattle.wf_sound.specs.Sound.{runs_mapped}
use Rattle.wf_sound.proofs.AllLemmas.{inserted_here, inserted_past, true_or_false}

longer_with : (n : ℕ) (xs : List ℕ) → length xs ≤ length (with_number n xs)
longer_with n [] = omega arith
longer_with n (m ∷ ms) = elim (cases_order m n) [
  | inl e ↦ (rw (with_same n m ms e) (omega arith))
  | inr o ↦ (elim o [
    | inl lt ↦ (rw (with_past n m ms lt) (let k : length ms ≤ length (with_number n ms) = longer_with n ms in omega arith))
    | inr gt ↦ (rw (with_here n m ms gt) (omega arith))
  ])
]

-- one place more at first is one more at last
with_first : (n : ℕ) (places ns : List ℕ) → places_with (with_number (n / 512) places) ns ≡ with_number (n / 512) (places_with places ns)
unfolding places_with
with_first n places [] = refl
with_first n places (m ∷ ms) =
    ap (λ (ps : List ℕ). places_with ps ms) (placed_swap (λ (k : ℕ). k) (λ k. true) places n m)
    ∙ with_first n (with_number (m / 512) places) ms

more_first : (n : ℕ) (places ns : List ℕ) → length (places_with places ns) ≤ length (places_with (with_number (n / 512) places) ns)
more_first n places ns = rw (with_first n places ns) (longer_with (n / 512) (places_with places ns))

more_numbers : (n : ℕ) (places ns : List ℕ) → length (places_with places ns) ≤ length (places_with places (with_number n ns))
unfolding places_with
more_numbers n places [] = more_first n places []
more_numbers n places (m ∷ ms) = elim (cases_order m n) [
  | inl e ↦ (rw (with_same n m ms e) (omega arith))
  | inr o ↦ (elim o [
    | inl lt ↦ (rw (with_past n m ms lt) (more_numbers n (with_number (m / 512) places) ms))
    | inr gt ↦ (rw (with_here n m ms gt) (more_first n places (m ∷ ms)))
  ])
]

-- a view that reaches more places has no fewer nodes
more_nodes : (reach pages : List ℕ) → nodes_of reach ≤ nodes_of (places_with reach pages)
unfolding places_with
more_nodes reach [] = omega arith
more_nodes reach (page ∷ pages) =
    let rest : nodes_of (with_number (page / 512) reach) ≤ nodes_of (places_with (with_number (page / 512) reach) pages) = more_nodes (with_number (page / 512) reach) pages in
    let upper = more_numbers (page / 512) [] reach in
    let lower = longer_with (page / 512) reach in
    omega arith

more_by : (live : Bool) (text : ℕ) (reach pages : List ℕ) → (if live then text + nodes_of reach else 0) ≤ (if live then text + nodes_of (if live then places_with reach pages else reach) else 0)
more_by true text reach pages = let nodes = more_nodes reach pages in omega arith
more_by false text reach pages = omega arith

more_frames : (gens : List GenState) (pages : List ℕ) → sum_by frames_of gens ≤ sum_by (λ (gen : GenState). frames_of (reaching pages gen)) gens
more_frames [] pages = omega arith
more_frames (gen ∷ gens) pages =
    let one : frames_of gen ≤ frames_of (reaching pages gen) = more_by gen.live (length gen.text) gen.reach pages in
    let rest = more_frames gens pages in
    omega (arith, sum_by-cons frames_of gen gens, sum_by-cons (λ (gen : GenState). frames_of (reaching pages gen)) gen gens)

-- so many pages more take so many frames more at least
pub used_more : (s : FlatState) (first n : ℕ) (write : Bool) (delta : Option DeltaValue) → used_of s + n ≤ used_of (mapped s first n write delta)
unfolding used_reaching frames_reaching
used_more s first n write delta =
    let is = used_mapped s first n write delta in
    let more = more_frames s.gens (range_with_len first n) in
    omega arith

used_runs : (s : FlatState) (delta : DeltaValue) (runs : List PageRun) → used_of s ≤ used_of (runs_mapped s delta runs)
used_runs s delta [] = omega arith
used_runs s delta (run ∷ runs) =
    let one = used_more s run.first run.count run.write (Some delta) in
    let rest = used_runs (mapped s run.first run.count run.write (Some delta)) delta runs in
    omega arith

-- runs of pages and a generation take no fewer frames
pub used_before : (deltas : List DeltaValue) (s : FlatState) (delta : DeltaValue) (runs : List PageRun) (parent : ℕ) (patch : Option ℕ) → used_of s ≤ used_of (generation_born deltas (runs_mapped s delta runs) parent patch)
used_before deltas s delta runs parent patch =
    let born = used_born deltas (runs_mapped s delta runs) parent patch in
    let runs = used_runs s delta runs in
    omega arith

-- the number and the stage of a page
abbrev pub shape : PageState → ℕ × Stage
shape page = (page.number, page.stage)

abbrev first : ℕ × Stage → ℕ
first pair = pair.0

shapes_inserted : (x : PageState) (xs : List PageState) → map shape (inserted_by (λ page. page.number) x xs) ≡ inserted_by first (shape x) (map shape xs)
shapes_inserted x [] = refl
shapes_inserted x (y ∷ ys) = elim (cases_lt y.number x.number) [
  | inl lt ↦ (ap (map shape) (inserted_past (λ (page : PageState). page.number) x y ys lt) ∙ ap (λ (ps : List (ℕ × Stage)). shape y ∷ ps) (shapes_inserted x ys) ∙ sym (inserted_past first (shape x) (shape y) (map shape ys) lt))
  | inr le ↦ (ap (map shape) (inserted_here (λ (page : PageState). page.number) x y ys le) ∙ sym (inserted_here first (shape x) (shape y) (map shape ys) le))
]

shapes_sorted : (xs : List PageState) → map shape (sorted_by (λ page. page.number) xs) ≡ sorted_by first (map shape xs)
shapes_sorted [] = refl
shapes_sorted (x ∷ xs) = shapes_inserted x (sorted_by (λ page. page.number) xs) ∙ ap (inserted_by first (shape x)) (shapes_sorted xs)

shapes_mapped : (delta : Option DeltaValue) (write : Bool) (page b c n : ℕ) → map shape (mapped_pages delta write page b n) ≡ map shape (mapped_pages delta write page c n)
shapes_mapped delta write page b c zero = refl
shapes_mapped delta write page b c (suc n) = ap (λ (ps : List (ℕ × Stage)). shape (mapped_page delta write page b) ∷ ps) (shapes_mapped delta write (page + 1) (b + 1) (c + 1) n)

abbrev here_in : List (ℕ × Stage) → List ℕ
here_in pairs = map first (filter (λ pair. is_here pair.1) pairs)

here_is : (pages : List PageState) → map (λ (page : PageState). page.number) (filter (λ page. is_here page.stage) pages) ≡ here_in (map shape pages)
here_is [] = refl
here_is (page ∷ pages) = elim (true_or_false (is_here page.stage)) [
  | inl e ↦ (rw e (ap (λ (ns : List ℕ). page.number ∷ ns) (here_is pages)))
  | inr e ↦ (rw e (here_is pages))
]

-- a state with other pages, births and harts
abbrev pub paged : FlatState → List PageState → List HartState → Option Actor → ℕ → FlatState
paged s pages harts inside births = record s { pages = pages; harts = harts; inside = inside; births = births }

pub same_numbers : (pages others : List PageState) → map shape pages ≡ map shape others → length pages ≡ length others
same_numbers pages others e = sym (length-map pages shape) ∙ ap length e ∙ length-map others shape

born_frames : (deltas : List DeltaValue) (s : FlatState) (pages : List PageState) (harts : List HartState) (inside : Option Actor) (births parent : ℕ) (patch : Option ℕ) → map shape pages ≡ map shape s.pages
    → newborn deltas (paged s pages harts inside births) parent patch ≡ newborn deltas s parent patch
born_frames deltas s pages harts inside births parent patch e =
    let heres : here_numbers (paged s pages harts inside births) ≡ here_numbers s = here_is pages ∙ ap here_in e ∙ sym (here_is s.pages) in
    ap (λ (ns : List ℕ). (let gen : GenState = newborn deltas s parent patch in let k : GenState = record gen { reach = places_with (places_with [] (text_numbers gen.text)) ns } in k)) heres

-- the frames do not depend on more of the pages
pub same_used : (deltas : List DeltaValue) (s : FlatState) (pages : List PageState) (harts : List HartState) (inside : Option Actor) (births : ℕ) (delta : DeltaValue) (runs : List PageRun) (parent : ℕ) (patch : Option ℕ) → map shape pages ≡ map shape s.pages
    → used_of (generation_born deltas (runs_mapped (paged s pages harts inside births) delta runs) parent patch) ≡ used_of (generation_born deltas (runs_mapped s delta runs) parent patch)
same_used deltas s pages harts inside births delta [] parent patch e =
    let gens = ap (λ (gen : GenState). sum_by frames_of (s.gens ++ gen ∷ [])) (born_frames deltas s pages harts inside births parent patch e) in
    let len = same_numbers pages s.pages e in
    omega arith
same_used deltas s pages harts inside births delta (run ∷ runs) parent patch e =
    let number : PageState → ℕ = λ page. page.number in
    let mine : List PageState = mapped_pages (Some delta) run.write run.first births run.count in
    let theirs : List PageState = mapped_pages (Some delta) run.write run.first s.births run.count in
    let more : map shape (pages ++ mine) ≡ map shape (s.pages ++ theirs) = map-append shape pages mine ∙ (rw (e, shapes_mapped (Some delta) run.write run.first births s.births run.count) (sym (map-append shape s.pages theirs))) in
    same_used deltas (mapped s run.first run.count run.write (Some delta)) (sorted_by number (pages ++ mine)) harts inside (births + run.count) delta runs parent patch (shapes_sorted (pages ++ mine) ∙ ap (sorted_by first) more ∙ sym (shapes_sorted (s.pages ++ theirs)))
