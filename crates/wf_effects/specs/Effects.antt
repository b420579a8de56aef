-- What the entries of calls change: pages come and go, and generations.
use Rattle.std.specs.Prelude.{ℕ, zero, suc, List, [], ◌∷◌, Bool, true, false, Option, Some, None, ◌+◌, ◌==◌, ◌&&◌, ◌++◌, not, if◌then◌else◌, is_some, length, map, nat_lt, nat_le, replicate, slice_get, unwrap_or, option_and_then}
use Rattle.std.specs.Option.{option_map}
use Rattle.std.specs.List.{filter, fold, range_with_len}
use Rattle.wf_outside.specs.declared.image.Jump.{Jump}
use Rattle.wf_outside.specs.declared.sizes.TheConstants.{PAGE_WORDS}
use Rattle.wf_outside.specs.Images.{DeltaValue, text_numbers}
use Rattle.wf_outside.specs.Pages.{PageValue, DataPageValue}
use Rattle.wf_flat.specs.declared.event.Actor.{Actor}
use Rattle.wf_flat.specs.declared.event.Actor.TheVariants.{Hart, Kernel}
use Rattle.wf_flat.specs.declared.state.Stage.TheVariants.{Here, Going, Ending}
use Rattle.wf_flat.specs.Accesses.{generation_text, is_here}
use Rattle.wf_flat.specs.Boot.{places_with}
use Rattle.wf_flat.specs.Lists.{changed_at, changed_by, found_by, others_changed, sorted_by, with_number}
use Rattle.wf_flat.specs.State.{FlatState, GenState, HartState, PageState}
use Rattle.wf_flat.specs.Changes.{answered, change_hart}
use Rattle.wf_effects.specs.Generations.{jumps_in, patches_in}
use Rattle.wf_effects.specs.Texts.{spliced, spliced_jumps}

-- the patch of the run that an entry names, if it names one that the run has
abbrev pub delta_of : List DeltaValue → Option ℕ → Option DeltaValue
delta_of deltas patch = option_and_then (λ k. slice_get deltas k) patch

-- the words that pages have for one of this number, and else zeros
abbrev pub shared_words : List DataPageValue → ℕ → List ℕ
shared_words shared page =
    unwrap_or (option_map (λ page. page.words) (found_by (λ page. page.number) shared page))
    (replicate PAGE_WORDS 0)

-- the words of a page that is mapped: those that its patch has for it, and zeros without a patch
abbrev pub words_of : Option DeltaValue → ℕ → List ℕ
words_of None page = replicate PAGE_WORDS 0
words_of (Some delta) page = shared_words delta.shared page

-- a page that is mapped now: it is Here, nobody holds it, and it was not written since
abbrev pub mapped_page : Option DeltaValue → Bool → ℕ → ℕ → PageState
mapped_page delta write page birth =
    record {
      number = page;
      write = write;
      stage = Here;
      holder = None;
      words = words_of delta page;
      writes = 0;
      birth = birth;
    }

-- so many pages from one on, which are mapped now, their births one after another
abbrev pub mapped_pages : Option DeltaValue → Bool → ℕ → ℕ → ℕ → List PageState
mapped_pages delta write page birth zero = []
mapped_pages delta write page birth (suc n) =
    mapped_page delta write page birth ∷ mapped_pages delta write (page + 1) (birth + 1) n

-- the places that a generation reaches, if it lives with those of these pages
abbrev pub new_reach : List ℕ → GenState → List ℕ
new_reach pages gen = if gen.live then places_with gen.reach pages else gen.reach

-- a generation, if it lives, reaches the places of these pages too
abbrev pub reaching : List ℕ → GenState → GenState
reaching pages gen = record gen { reach = new_reach pages gen }

-- So many pages are mapped from one on, of zeros or of a patch: they have the next births, by
-- rising number, and each generation that lives reaches them.
abbrev pub mapped : FlatState → ℕ → ℕ → Bool → Option DeltaValue → FlatState
mapped s first n write delta =
    record s {
      pages = sorted_by (λ page. page.number)
          (s.pages ++ mapped_pages delta write first s.births n);
      gens = map (reaching (range_with_len first n)) s.gens;
      births = s.births + n;
    }

-- what generations have met, but for a page
abbrev pub met_but_page : List (ℕ × ℕ) → ℕ → List (ℕ × ℕ)
met_but_page met page = filter (λ pair. not (pair.1 == page)) met

-- what generations but one have met
abbrev pub met_but_generation : List (ℕ × ℕ) → ℕ → List (ℕ × ℕ)
met_but_generation met generation = filter (λ pair. not (pair.0 == generation)) met

-- a page, if it is one of so many from one on, is Going
abbrev pub going_in : ℕ → ℕ → PageState → PageState
going_in first n page =
    if nat_le first page.number && nat_lt page.number (first + n)
    then record page { stage = Going } else page

-- an unmap of so many pages from one on has begun
abbrev pub pages_going : FlatState → ℕ → ℕ → FlatState
pages_going s first n = record s { pages = map (going_in first n) s.pages }

-- a page is Ending
abbrev pub ending : PageState → PageState
ending page = record page { stage = Ending }

-- a page is Ending, and no generation has met it any more
abbrev pub page_ending : FlatState → ℕ → FlatState
page_ending s page =
    record s {
      pages = changed_by (λ page. page.number) s.pages page ending;
      met = met_but_page s.met page;
    }

-- a page is there no more, and its frame is used no more where it is worn
abbrev pub page_gone : FlatState → ℕ → Bool → FlatState
page_gone s page worn =
    record s {
      pages = filter (λ other. not (other.number == page)) s.pages;
      met = met_but_page s.met page;
      worn = if worn then s.worn + 1 else s.worn;
    }

-- the text of a generation that is born: that of its parent, spliced with the patch where there is
-- one
abbrev pub born_text : FlatState → ℕ → Option DeltaValue → List PageValue
born_text s parent None = generation_text s parent
born_text s parent (Some delta) = spliced (generation_text s parent) delta

-- the jumps of a generation that is born
abbrev pub born_jumps : FlatState → ℕ → Option DeltaValue → List Jump
born_jumps s parent None = jumps_in s parent
born_jumps s parent (Some delta) = spliced_jumps (jumps_in s parent) delta.jumps

-- how many of the run's patches a generation has that is born: behind patch K it has K + 1, else
-- those of its parent
abbrev pub born_patches : FlatState → ℕ → Option ℕ → ℕ
born_patches s parent None = patches_in s parent
born_patches s parent (Some patch) = patch + 1

-- the numbers of the pages of data that are Here
abbrev pub here_numbers : FlatState → List ℕ
here_numbers s = map (λ page. page.number) (filter (λ page. is_here page.stage) s.pages)

-- a generation that is born: it reaches the places of its text and of the pages of data that are
-- Here
abbrev pub newborn : List DeltaValue → FlatState → ℕ → Option ℕ → GenState
newborn deltas s parent patch =
    let text : List PageValue = born_text s parent (delta_of deltas patch) in
    record {
      number = length s.gens;
      parent = Some parent;
      text = text;
      jumps = born_jumps s parent (delta_of deltas patch);
      patches = born_patches s parent patch;
      reach = places_with (places_with [] (text_numbers text)) (here_numbers s);
      live = true;
    }

-- a generation is born, of this parent and with this patch
abbrev pub generation_born : List DeltaValue → FlatState → ℕ → Option ℕ → FlatState
generation_born deltas s parent patch =
    record s { gens = s.gens ++ newborn deltas s parent patch ∷ [] }

-- a generation lives no more
abbrev pub dead : GenState → GenState
dead gen = record gen { live = false }

-- a generation lives no more, and has met nothing any more
abbrev pub generation_dead : FlatState → ℕ → FlatState
generation_dead s generation =
    record s {
      gens = changed_at s.gens generation dead;
      met = met_but_generation s.met generation;
    }

-- a hart is in another generation, whose number is the answer of its call
abbrev pub moved_to : ℕ → HartState → HartState
moved_to generation hart = record (answered generation hart) { generation = generation }

-- a hart moves to a generation
abbrev pub hart_moved : FlatState → ℕ → ℕ → FlatState
hart_moved s h generation = change_hart s h (moved_to generation)

-- the pages that have moved for a hart, if it is in a try with these
abbrev pub new_moved : List ℕ → HartState → List ℕ
new_moved pages hart =
    if is_some hart.fetched then fold (λ moved page. with_number page moved) hart.moved pages
    else hart.moved

-- pages that moved are noted by a hart, if it is in a try
abbrev pub all_noted : List ℕ → HartState → HartState
all_noted pages hart = record hart { moved = new_moved pages hart }

-- the place of an actor among so many harts, and their end for the kernel's own
abbrev pub place_among : ℕ → Actor → ℕ
place_among harts (Hart h) = h
place_among harts Kernel = harts

-- pages that an actor moved are noted by every hart that is in a try, but for the actor
abbrev pub pages_noted : FlatState → Actor → List ℕ → FlatState
pages_noted s actor pages =
    record s {
      harts = others_changed s.harts (place_among (length s.harts) actor) (all_noted pages);
    }
