-- Ranges of pages, and what stands in them.
use Rattle.std.specs.Prelude.{ℕ, List, [], ◌∷◌, Bool, false, Option, ◌+◌, ◌==◌, ◌&&◌, ◌||◌, not, if◌then◌else◌, is_some, unwrap_or}
use Rattle.std.specs.Bool.{beq}
use Rattle.std.specs.Option.{option_map}
use Rattle.std.specs.List.{find, fold, list_any}
use Rattle.wf_outside.specs.Pages.{DataPageValue}
use Rattle.wf_flat.specs.State.{FlatState}
use Rattle.wf_flat.specs.Accesses.{is_here, is_ending}
use Rattle.wf_flat.specs.Memory.{data_in, page_in}
use Rattle.wf_effects.specs.declared.ranges.PageRun.{PageRun}

-- a page of data is there
abbrev pub is_data : FlatState → ℕ → Bool
is_data s page = is_some (data_in s.pages page)

-- a page of data is Here
abbrev pub is_page_here : FlatState → ℕ → Bool
is_page_here s page =
    unwrap_or (option_map (λ page. is_here page.stage) (data_in s.pages page)) false

-- a page of data is Ending
abbrev pub is_page_ending : FlatState → ℕ → Bool
is_page_ending s page =
    unwrap_or (option_map (λ page. is_ending page.stage) (data_in s.pages page)) false

-- a page is text of a generation that lives
abbrev pub is_live_text : FlatState → ℕ → Bool
is_live_text s page = list_any (λ gen. gen.live && is_some (page_in gen.text page)) s.gens

-- the first of these pages that is Here, or text of a generation that lives
abbrev pub first_overlap : FlatState → List ℕ → Option ℕ
first_overlap s pages = find (λ page. is_page_here s page || is_live_text s page) pages

-- the first of these pages that is no page of data
abbrev pub first_absent : FlatState → List ℕ → Option ℕ
first_absent s pages = find (λ page. not (is_data s page)) pages

-- the first of these pages that is Ending
abbrev pub first_leaving : FlatState → List ℕ → Option ℕ
first_leaving s pages = find (λ page. is_page_ending s page) pages

-- one page alone
abbrev pub run_of : DataPageValue → PageRun
run_of page = record { first = page.number; count = 1; write = page.write }

-- a page stands right behind a run, and has its right
abbrev pub continues : PageRun → DataPageValue → Bool
continues run page = (run.first + run.count == page.number) && beq run.write page.write

-- a run with one page more
abbrev pub longer : PageRun → PageRun
longer run = record { first = run.first; count = run.count + 1; write = run.write }

-- runs with one page more behind them, which joins the last where it continues that
abbrev pub with_behind : List PageRun → DataPageValue → List PageRun
with_behind [] page = run_of page ∷ []
with_behind (run ∷ []) page =
    if continues run page then longer run ∷ [] else run ∷ run_of page ∷ []
with_behind (run ∷ next ∷ runs) page = run ∷ with_behind (next ∷ runs) page

-- the longest runs of consecutive pages of one right, of pages by rising number
abbrev pub runs_of : List DataPageValue → List PageRun
runs_of pages = fold with_behind [] pages
