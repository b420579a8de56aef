-- The state at the start.
use Rattle.std.specs.Prelude.{ℕ, zero, suc, ◌+◌, ◌*◌, ◌/◌, List, [], ◌∷◌, ◌++◌, true, false, None, length, map, replicate, slice_set}
use Rattle.wf_outside.specs.declared.sizes.TheConstants.{PAGE_WORDS, DATA_END, DATA_END_PAGE}
use Rattle.wf_outside.specs.Pages.{PageValue, DataPageValue, LimitsValue}
use Rattle.wf_outside.specs.Images.{ImageValue, text_numbers}
use Rattle.rv_inst.specs.Arch.{ArchState}
use Rattle.wf_flat.specs.declared.state.Stage.TheVariants.{Here}
use Rattle.wf_flat.specs.declared.state.Life.TheVariants.{Running}
use Rattle.wf_flat.specs.State.{PageState, GenState, HartState, FlatState}
use Rattle.wf_flat.specs.Lists.{sorted_by, with_number}

-- a page that nobody holds and that was not written yet
abbrev pub fresh_page : DataPageValue → PageState
fresh_page page =
    record {
      number = page.number;
      write = page.write;
      stage = Here;
      holder = None;
      words = page.words;
      writes = 0;
      birth = 0;
    }

-- a fresh page of a stack: it may be written, and its words are 0
abbrev pub stack_page : ℕ → DataPageValue
stack_page number = record { number = number; write = true; words = replicate PAGE_WORDS 0 }

-- Hart i has 16 pages, from the first behind data and text on for hart 0. Its stack is the last
-- four of them.
abbrev pub stack_of : ℕ → List PageState
stack_of i =
    let first = DATA_END_PAGE + 12 + 16 * i in
    fresh_page (stack_page first) ∷ fresh_page (stack_page (first + 1))
    ∷ fresh_page (stack_page (first + 2)) ∷ fresh_page (stack_page (first + 3)) ∷ []

-- where the stack pointer of hart i begins: behind its 16 pages
abbrev pub stack_top : ℕ → ℕ
stack_top i = DATA_END + 0x10000 + 0x10000 * i

-- the stacks of the first harts
unfoldable pub stacks_of : ℕ → List PageState
stacks_of zero = []
stacks_of (suc n) = stacks_of n ++ stack_of n

-- mappings are numbered from a number on, in the order of the pages
unfoldable pub numbered_from : ℕ → List PageState → List PageState
numbered_from birth [] = []
numbered_from birth (page ∷ pages) = record page { birth = birth } ∷ numbered_from (birth + 1) pages

-- all data pages, by rising number: the image's lie below the stacks
abbrev pub boot_pages : ImageValue → ℕ → List PageState
boot_pages image harts =
    numbered_from 0
    (sorted_by (λ page. page.number) (map fresh_page image.pages) ++ stacks_of harts)

-- the registers of hart i: its stack pointer in x2, its number in x10, and else 0
abbrev pub boot_arch : ℕ → ℕ → ArchState
boot_arch entry i =
    record { pc = entry; x = slice_set (slice_set (replicate 32 0) 2 (stack_top i)) 10 i }

-- hart i runs, in generation 0, from the entry on, is in no try, and has no reservation
abbrev pub boot_hart : ℕ → ℕ → HartState
boot_hart entry i =
    record {
      generation = 0;
      arch = boot_arch entry i;
      fetched = None;
      looked = None;
      put = false;
      moved = [];
      reservation = None;
      life = Running;
    }

-- the first harts
unfoldable pub boot_harts : ℕ → ℕ → List HartState
boot_harts entry zero = []
boot_harts entry (suc n) = boot_harts entry n ++ boot_hart entry n ∷ []

-- the text of generation 0, by rising number
abbrev pub boot_text : ImageValue → List PageValue
boot_text image = sorted_by (λ page. page.number) image.text

-- the places of 512 pages in which the pages of these numbers lie, each once, rising, added to
-- those that are there
unfoldable pub places_with : List ℕ → List ℕ → List ℕ
places_with places [] = places
places_with places (n ∷ ns) = places_with (with_number (n / PAGE_WORDS) places) ns

-- the places of its pages and of all data pages
abbrev pub boot_reach : ImageValue → ℕ → List ℕ
boot_reach image harts =
    places_with (places_with [] (text_numbers (boot_text image)))
    (map (λ page. page.number) (boot_pages image harts))

-- generation 0: it has no parent, no patch and no jump, and lives
abbrev pub boot_gen : ImageValue → ℕ → GenState
boot_gen image harts =
    record {
      number = 0;
      parent = None;
      text = boot_text image;
      jumps = [];
      patches = 0;
      reach = boot_reach image harts;
      live = true;
    }

-- so many harts at the start of an image
abbrev pub boot_of : ImageValue → ℕ → LimitsValue → FlatState
boot_of image harts limits = record {
  pages = boot_pages image harts;
  gens = boot_gen image harts ∷ [];
  harts = boot_harts image.entry harts;
  met = [];
  inside = None;
  births = length (boot_pages image harts);
  worn = 0;
  limits = limits;
}
