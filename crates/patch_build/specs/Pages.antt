-- The pages of a patch.
use Rattle.std.specs.Prelude.{ℕ, ◌+◌, ◌-◌, ◌*◌, Bool, true, false, if◌then◌else◌, List, [], ◌∷◌, ◌++◌, length, map, replicate, slice_range}
use Rattle.std.specs.List.{range_with_len}
use Rattle.wf_outside.specs.declared.image.Jump.{Jump}
use Rattle.wf_outside.specs.declared.sizes.TheConstants.{PAGE_SIZE, PAGE_WORDS}
use Rattle.wf_outside.specs.Images.{DeltaValue}
use Rattle.wf_outside.specs.Pages.{PageValue, DataPageValue}
use Rattle.elf_read.specs.declared.records.Section.{Section}
use Rattle.elf_load.specs.Loaded.{words_in}
use Rattle.patch_build.specs.declared.layout.Starts.{Starts}
use Rattle.patch_build.specs.declared.region.Region.{Region}
use Rattle.patch_build.specs.declared.region.Region.TheVariants.{Text, Constants, Data}
use Rattle.patch_build.specs.Layout.{first_page, offset_behind, pages_of}
use Rattle.patch_build.specs.Links.{LinkedValue}
use Rattle.patch_build.specs.Sections.{is_of}

-- bytes with zeros behind them, up to this many
abbrev pub padded : ℕ → List ℕ → List ℕ
padded n bytes = bytes ++ replicate (n - length bytes) 0

-- the bytes of a region with those of one section more, from its offset on; it may be of another
-- region
abbrev pub bytes_with : Region → List ℕ → Section → LinkedValue → List ℕ
bytes_with region bytes s linked =
    if is_of region s then padded (offset_behind (length bytes) s) bytes ++ linked.bytes else bytes

-- the bytes of a region with those of more sections
abbrev pub bytes_behind : Region → List ℕ → List Section → List LinkedValue → List ℕ
bytes_behind region bytes [] linked = bytes
bytes_behind region bytes (s ∷ ss) [] = bytes
bytes_behind region bytes (s ∷ ss) (l ∷ ls) =
    bytes_behind region (bytes_with region bytes s l) ss ls

-- the bytes of all pages of a region
abbrev pub bytes_of : Region → List Section → List LinkedValue → List ℕ
bytes_of region sections linked =
    padded (PAGE_SIZE * pages_of region sections) (bytes_behind region [] sections linked)

-- the words of page k in these bytes
abbrev pub words_of : List ℕ → ℕ → List ℕ
words_of bytes k = words_in PAGE_WORDS (slice_range bytes (PAGE_SIZE * k) (PAGE_SIZE * k + PAGE_SIZE))

-- page k of text in these bytes, from this page on
abbrev pub page_of_text : List ℕ → ℕ → ℕ → PageValue
page_of_text bytes first k = record { number = first + k; words = words_of bytes k }

-- page k of data
abbrev pub page_of_data : List ℕ → ℕ → Bool → ℕ → DataPageValue
page_of_data bytes first write k =
    record { number = first + k; write = write; words = words_of bytes k }

-- the pages of a region of data
abbrev pub data_pages : Starts → Region → Bool → List Section → List LinkedValue
    → List DataPageValue
data_pages starts region write sections linked =
    map (page_of_data (bytes_of region sections linked) (first_page starts region) write)
    (range_with_len 0 (pages_of region sections))

-- the pages of text
abbrev pub text_pages : Starts → List Section → List LinkedValue → List PageValue
text_pages starts sections linked =
    map (page_of_text (bytes_of Text sections linked) (first_page starts Text))
    (range_with_len 0 (pages_of Text sections))

-- what a patch brings: its text for itself, its constants and its data for all, and its jumps
abbrev pub delta_with : Starts → List Section → List LinkedValue → List Jump → DeltaValue
delta_with starts sections linked jumps = record {
  private = text_pages starts sections linked;
  shared = data_pages starts Constants false sections linked
      ++ data_pages starts Data true sections linked;
  jumps = jumps;
}
