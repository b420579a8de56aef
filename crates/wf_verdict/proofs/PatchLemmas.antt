-- How many frames are used where a patch is there.
use Rattle.std.proofs.Common.{◌≡◌, ◌+◌, ◌-◌, ◌/◌, ◌++◌, ◌==◌, ◌&&◌, ℕ, suc, zero, List, [], ◌∷◌, Bool, true, false, Option, Some, length, map, sum_by, refl, sym, ap, ◌∙◌, arith, if◌then◌else◌, append_assoc, length-append, add-one}
use Rattle.std.specs.Prelude.{slice_get}
use Rattle.std.specs.List.{fold, range_with_len}
use Rattle.std.proofs.lemmas.Bool.Decides.{nat_tests}
use Rattle.std.proofs.lemmas.List.Sums.{sum_by-cons}
use Rattle.std.proofs.lemmas.List.FromFn.{length-range_with_len}
use Rattle.wf_outside.specs.declared.image.Jump.{Jump}
use Rattle.wf_outside.specs.declared.refusal.Refusal.{Refusal}
use Rattle.wf_outside.specs.Images.{DeltaValue, data_numbers, text_numbers}
use Rattle.wf_outside.specs.Pages.{DataPageValue, PageValue}
use Rattle.wf_flat.proofs.BootLemmas.{places_none}
use Rattle.wf_flat.proofs.SortLemmas.{length-map, length-sorted_by}
use Rattle.wf_flat.specs.Accesses.{generation_text, is_here, text_in}
use Rattle.wf_flat.specs.Boot.{places_with}
use Rattle.wf_flat.specs.Counts.{frames_of, nodes_of, used_of}
use Rattle.wf_flat.specs.Lists.{sorted_by, with_number}
use Rattle.wf_flat.specs.State.{FlatState, GenState, PageState}
use Rattle.wf_effects.proofs.TextLemmas.{jump_kept}
use Rattle.wf_effects.specs.declared.ranges.PageRun.{PageRun}
use Rattle.wf_effects.specs.Effects.{here_numbers, mapped, mapped_pages, newborn, reaching}
use Rattle.wf_effects.specs.Generations.{newest}
use Rattle.wf_effects.specs.Ranges.{continues, longer, run_of, runs_of, with_behind}
use Rattle.wf_effects.specs.Texts.{pages_of, spliced, with_jump, with_pages}
use Rattle.wf_verdict.proofs.FrameLemmas.{length-mapped_pages, used_born, used_none}
use Rattle.wf_verdict.proofs.PlaceLemmas.{fold_append, fold_sorted, placed_if, placed_swap, places_append, places_fold, places_sorted}
use Rattle.wf_verdict.specs.Frames.{delta_refusals, frames_reaching, no_frames_patching, patched_frames, patched_places, used_reaching}
use Rattle.wf_verdict.specs.Verdict.{delta_at, free_of, lacks, leaving, more_than_free, no_frames, no_more_views, no_view, overlap, patch_refusals, patched, shared_mapped}

-- the pages of runs
abbrev runs_pages : List PageRun → List ℕ
runs_pages [] = []
runs_pages (run ∷ runs) = range_with_len run.first run.count ++ runs_pages runs

nil_behind : (xs : List ℕ) → xs ++ [] ≡ xs
nil_behind [] = refl
nil_behind (x ∷ xs) = ap (λ (ys : List ℕ). x ∷ ys) (nil_behind xs)

range_more : (a n : ℕ) → range_with_len a (suc n) ≡ range_with_len a n ++ (a + n) ∷ []
range_more a zero = ap (λ (k : ℕ). k ∷ []) (omega arith)
range_more a (suc n) =
    ap (λ (ks : List ℕ). a ∷ ks) (range_more (a + 1) n)
    ∙ ap (λ (k : ℕ). (a ∷ range_with_len (a + 1) n) ++ k ∷ []) (omega arith)

is_behind : (x y : ℕ) (b : Bool) → ((x == y) && b) ≡ true → x ≡ y
is_behind x y b e = grind (arith, nat_tests)

last_run : (run : PageRun) (page : DataPageValue) (b : Bool) → (b ≡ true → run.first + run.count ≡ page.number)
    → runs_pages (if b then longer run ∷ [] else run ∷ run_of page ∷ []) ≡ (range_with_len run.first run.count ++ []) ++ page.number ∷ []
last_run run page true h =
    nil_behind (range_with_len run.first (run.count + 1))
    ∙ rw add-one (range_more run.first run.count)
    ∙ ap (λ (k : ℕ). range_with_len run.first run.count ++ k ∷ []) (h refl)
    ∙ ap (λ (ks : List ℕ). ks ++ page.number ∷ []) (sym (nil_behind (range_with_len run.first run.count)))
last_run run page false h = sym (append_assoc (range_with_len run.first run.count) [] (page.number ∷ []))

one_behind : (runs : List PageRun) (page : DataPageValue) → runs_pages (with_behind runs page) ≡ runs_pages runs ++ page.number ∷ []
one_behind [] page = refl
one_behind (run ∷ []) page = last_run run page (continues run page) (λ e. is_behind (run.first + run.count) page.number _ e)
one_behind (run ∷ next ∷ runs) page =
    ap (λ (ks : List ℕ). range_with_len run.first run.count ++ ks) (one_behind (next ∷ runs) page)
    ∙ sym (append_assoc (range_with_len run.first run.count) (runs_pages (next ∷ runs)) (page.number ∷ []))

all_behind : (runs : List PageRun) (pages : List DataPageValue) → runs_pages (fold with_behind runs pages) ≡ runs_pages runs ++ data_numbers pages
all_behind runs [] = sym (nil_behind (runs_pages runs))
all_behind runs (page ∷ pages) =
    all_behind (with_behind runs page) pages
    ∙ ap (λ (ks : List ℕ). ks ++ data_numbers pages) (one_behind runs page)
    ∙ append_assoc (runs_pages runs) (page.number ∷ []) (data_numbers pages)

-- a run of a patch is mapped
abbrev map_run : DeltaValue → FlatState → PageRun → FlatState
map_run delta s run = mapped s run.first run.count run.write (Some delta)

twice_by : (live : Bool) (text : ℕ) (reach first second : List ℕ)
    → (if live then text + nodes_of (if live then places_with (if live then places_with reach first else reach) second else (if live then places_with reach first else reach)) else 0)
    ≡ (if live then text + nodes_of (if live then places_with reach (first ++ second) else reach) else 0)
twice_by true text reach first second = ap (λ (places : List ℕ). text + nodes_of places) (sym (places_append reach first second))
twice_by false text reach first second = refl

frames_twice : (gens : List GenState) (first second : List ℕ) → sum_by (λ (gen : GenState). frames_of (reaching second gen)) (map (reaching first) gens) ≡ sum_by (λ (gen : GenState). frames_of (reaching (first ++ second) gen)) gens
frames_twice [] first second = refl
frames_twice (gen ∷ gens) first second =
    let one : frames_of (reaching second (reaching first gen)) ≡ frames_of (reaching (first ++ second) gen) = twice_by gen.live (length gen.text) gen.reach first second in
    let rest = frames_twice gens first second in
    omega (
      arith,
      one,
      rest,
      sum_by-cons (λ (gen : GenState). frames_of (reaching second gen)) (reaching first gen) (map (reaching first) gens),
      sum_by-cons (λ (gen : GenState). frames_of (reaching (first ++ second) gen)) gen gens,
    )

used_after : (delta : DeltaValue) (s : FlatState) (run : PageRun) (pages : List ℕ) → used_reaching (map_run delta s run) pages ≡ used_reaching s (range_with_len run.first run.count ++ pages) + run.count
unfolding used_reaching frames_reaching
used_after delta s run pages =
    let all : List PageState = s.pages ++ mapped_pages (Some delta) run.write run.first s.births run.count in
    let sorted = length-sorted_by (λ (page : PageState). page.number) all in
    let both = length-append s.pages (mapped_pages (Some delta) run.write run.first s.births run.count) in
    let more = length-mapped_pages (Some delta) run.write run.first s.births run.count in
    let gens = frames_twice s.gens (range_with_len run.first run.count) pages in
    omega (arith, sorted, both, more, gens)

used_runs : (delta : DeltaValue) (s : FlatState) (runs : List PageRun) → used_reaching (fold (map_run delta) s runs) [] ≡ used_reaching s (runs_pages runs) + length (runs_pages runs)
used_runs delta s [] = omega arith
used_runs delta s (run ∷ runs) =
    let rest = used_runs delta (map_run delta s run) runs in
    let one = used_after delta s run (runs_pages runs) in
    let both = length-append (range_with_len run.first run.count) (runs_pages runs) in
    let len = length-range_with_len run.first run.count in
    omega (arith, rest, one, both, len)

text_kept : (gens : List GenState) (pages : List ℕ) (g : ℕ) → text_in (slice_get (map (reaching pages) gens) g) ≡ text_in (slice_get gens g)
text_kept [] pages g = refl
text_kept (gen ∷ gens) pages zero = refl
text_kept (gen ∷ gens) pages (suc g) = text_kept gens pages g

text_after : (delta : DeltaValue) (s : FlatState) (runs : List PageRun) (g : ℕ) → generation_text (fold (map_run delta) s runs) g ≡ generation_text s g
text_after delta s [] g = refl
text_after delta s (run ∷ runs) g = text_after delta (map_run delta s run) runs g ∙ text_kept s.gens (range_with_len run.first run.count) g

mapped_places : (delta : Option DeltaValue) (write : Bool) (page birth n : ℕ) (places : List ℕ)
    → fold (placed_if (λ (page : PageState). page.number) (λ page. is_here page.stage)) places (mapped_pages delta write page birth n) ≡ places_with places (range_with_len page n)
unfolding places_with
mapped_places delta write page birth zero places = refl
mapped_places delta write page birth (suc n) places = mapped_places delta write (page + 1) (birth + 1) n (with_number (page / 512) places)

here_after : (delta : DeltaValue) (s : FlatState) (run : PageRun) (places : List ℕ) → places_with places (here_numbers (map_run delta s run)) ≡ places_with (places_with places (here_numbers s)) (range_with_len run.first run.count)
here_after delta s run places =
    let number : PageState → ℕ = λ page. page.number in
    let is : PageState → Bool = λ page. is_here page.stage in
    let new : List PageState = mapped_pages (Some delta) run.write run.first s.births run.count in
    places_fold number is places (sorted_by number (s.pages ++ new))
    ∙ fold_sorted (placed_if number is) (placed_swap number is) number places (s.pages ++ new)
    ∙ fold_append (placed_if number is) places s.pages new
    ∙ mapped_places (Some delta) run.write run.first s.births run.count (fold (placed_if number is) places s.pages)
    ∙ ap (λ (ps : List ℕ). places_with ps (range_with_len run.first run.count)) (sym (places_fold number is places s.pages))

here_runs : (delta : DeltaValue) (s : FlatState) (runs : List PageRun) (places : List ℕ) → places_with places (here_numbers (fold (map_run delta) s runs)) ≡ places_with (places_with places (here_numbers s)) (runs_pages runs)
here_runs delta s [] places = sym (places_none (places_with places (here_numbers s)))
here_runs delta s (run ∷ runs) places =
    here_runs delta (map_run delta s run) runs places
    ∙ ap (λ (ps : List ℕ). places_with ps (runs_pages runs)) (here_after delta s run places)
    ∙ sym (places_append (places_with places (here_numbers s)) (range_with_len run.first run.count) (runs_pages runs))

jumps_kept : (text : List PageValue) (jumps : List Jump) → text_numbers (fold with_jump text jumps) ≡ text_numbers text
jumps_kept text [] = refl
jumps_kept text (jump ∷ jumps) = jumps_kept (with_jump text jump) jumps ∙ jump_kept text jump

map_append : (xs ys : List PageValue) → text_numbers (xs ++ ys) ≡ text_numbers xs ++ text_numbers ys
map_append [] ys = refl
map_append (x ∷ xs) ys = ap (λ (ks : List ℕ). x.number ∷ ks) (map_append xs ys)

spliced_places : (text : List PageValue) (delta : DeltaValue) (places : List ℕ) → places_with places (text_numbers (spliced text delta)) ≡ places_with (places_with places (text_numbers text)) (text_numbers delta.private)
spliced_places text delta places =
    ap (places_with places) (jumps_kept (with_pages text delta.private) delta.jumps)
    ∙ places_sorted (λ (page : PageValue). page.number) places (text ++ delta.private)
    ∙ ap (places_with places) (map_append text delta.private)
    ∙ places_append places (text_numbers text) (text_numbers delta.private)

pub spliced_length : (text : List PageValue) (delta : DeltaValue) → length (spliced text delta) ≡ length text + length delta.private
spliced_length text delta =
    let number : PageValue → ℕ = λ page. page.number in
    omega (
      arith,
      length-map number (spliced text delta),
      ap length (jumps_kept (with_pages text delta.private) delta.jumps),
      length-map number (with_pages text delta.private),
      length-sorted_by number (text ++ delta.private),
      length-append text delta.private,
    )

-- all pages of a patch are mapped
shared_used : (s : FlatState) (delta : DeltaValue) → used_of (shared_mapped s delta) ≡ used_reaching s (data_numbers delta.shared) + length delta.shared
shared_used s delta =
    let runs : List PageRun = runs_of delta.shared in
    let numbers : runs_pages runs ≡ data_numbers delta.shared = all_behind [] delta.shared in
    sym (used_none (shared_mapped s delta) [] refl) ∙ used_runs delta s runs
    ∙ ap (λ (ns : List ℕ). used_reaching s ns + length ns) numbers
    ∙ ap (λ (n : ℕ). used_reaching s (data_numbers delta.shared) + n) (length-map (λ (page : DataPageValue). page.number) delta.shared)

-- the places of the generation that is born
places_patched : (s : FlatState) (delta : DeltaValue) (g : ℕ) → places_with (places_with [] (text_numbers (spliced (generation_text (shared_mapped s delta) g) delta))) (here_numbers (shared_mapped s delta)) ≡ patched_places s (generation_text s g) delta
unfolding patched_places
places_patched s delta g =
    let runs : List PageRun = runs_of delta.shared in
    let numbers : runs_pages runs ≡ data_numbers delta.shared = all_behind [] delta.shared in
    here_runs delta s runs (places_with [] (text_numbers (spliced (generation_text (shared_mapped s delta) g) delta)))
    ∙ ap (λ (ns : List ℕ). places_with (places_with (places_with [] (text_numbers (spliced (generation_text (shared_mapped s delta) g) delta))) (here_numbers s)) ns) numbers
    ∙ ap (λ (text : List PageValue). places_with (places_with (places_with [] (text_numbers (spliced text delta))) (here_numbers s)) (data_numbers delta.shared)) (text_after delta s runs g)
    ∙ ap (λ (ps : List ℕ). places_with (places_with ps (here_numbers s)) (data_numbers delta.shared)) (spliced_places (generation_text s g) delta [])

-- the frames of the generation that is born
frames_patched : (deltas : List DeltaValue) (s : FlatState) (patch : ℕ) (delta : DeltaValue) (g : ℕ) → slice_get deltas patch ≡ Some delta
    → frames_of (newborn deltas (shared_mapped s delta) g (Some patch)) ≡ patched_frames s (generation_text s g) delta
unfolding patched_frames
frames_patched deltas s patch delta g e =
    let after : FlatState = shared_mapped s delta in
    let text : List PageValue = spliced (generation_text after g) delta in
    let long : length text ≡ length (generation_text s g) + length delta.private =
    spliced_length (generation_text after g) delta ∙ ap (λ (t : List PageValue). length t + length delta.private) (text_after delta s (runs_of delta.shared) g) in
    rw (e, long, places_patched s delta g) refl

-- what a patch is refused for
pub patch_frames : (deltas : List DeltaValue) (s : FlatState) (patch : ℕ) (delta : DeltaValue) → slice_get deltas patch ≡ Some delta → no_frames s (patched deltas s patch) ≡ no_frames_patching s delta
unfolding no_frames no_frames_patching
patch_frames deltas s patch delta e =
    let at : delta_at deltas patch ≡ delta = rw e refl in
    let born = used_born deltas (shared_mapped s delta) (newest s) (Some patch) in
    let shared = shared_used s delta in
    let frames = frames_patched deltas s patch delta (newest s) e in
    rw at (ap (λ (used : ℕ). more_than_free (used - used_of s) (free_of s)) (omega (arith, born, shared, frames)))

-- what a patch of the run is refused for
pub patch_list : (deltas : List DeltaValue) (s : FlatState) (patch : ℕ) (delta : DeltaValue) → slice_get deltas patch ≡ Some delta → delta_refusals s patch delta ≡ patch_refusals deltas s patch
unfolding delta_refusals
patch_list deltas s patch delta e =
    let at : delta ≡ delta_at deltas patch = rw e refl in
    ap (λ (frames : Option Refusal). no_view s (newest s) ∷ lacks s (newest s) patch ∷ no_more_views s ∷ overlap s (pages_of delta) ∷ leaving s (pages_of delta) ∷ frames ∷ []) (sym (patch_frames deltas s patch delta e))
    ∙ ap (λ (d : DeltaValue). no_view s (newest s) ∷ lacks s (newest s) patch ∷ no_more_views s ∷ overlap s (pages_of d) ∷ leaving s (pages_of d) ∷ no_frames s (patched deltas s patch) ∷ []) at
