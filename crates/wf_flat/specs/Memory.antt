-- Bytes of text and of data, and which pages a generation has met.
use Rattle.std.specs.Prelude.{ℕ, List, Bool, Option, ◌+◌, ◌*◌, ◌/◌, ◌%◌, ◌^◌, is_some, slice_index, slice_set}
use Rattle.std.specs.Option.{option_map}
use Rattle.wf_outside.specs.declared.sizes.TheConstants.{ADDRESS_PAGES, PAGE_SIZE}
use Rattle.wf_outside.specs.Pages.{PageValue, page_of}
use Rattle.wf_flat.specs.State.{PageState}
use Rattle.wf_flat.specs.Lists.{found_by, inserted_by}

-- the page of text of a number
abbrev pub page_in : List PageValue → ℕ → Option PageValue
page_in text number = found_by (λ page. page.number) text number

-- the page of data of a number
abbrev pub data_in : List PageState → ℕ → Option PageState
data_in pages number = found_by (λ page. page.number) pages number

-- the number of so many bytes at a place of a page, lowest first; the place is a multiple of their
-- count, which is 1, 2, 4 or 8
abbrev pub number_in : List ℕ → ℕ → ℕ → ℕ
number_in words at width = slice_index words (at / 8) / 2 ^ (8 * (at % 8)) % 2 ^ (8 * width)

-- a word in which so many bytes from one on are those of a number
abbrev pub word_with : ℕ → ℕ → ℕ → ℕ → ℕ
word_with word at width value =
    let low = 2 ^ (8 * at) in
    let span = 2 ^ (8 * width) in
    word / (low * span) * (low * span) + value % span * low + word % low

-- a page in which so many bytes at a place are those of a number
abbrev pub words_with : List ℕ → ℕ → ℕ → ℕ → List ℕ
words_with words at width value =
    slice_set words (at / 8) (word_with (slice_index words (at / 8)) (at % 8) width value)

-- the four bytes at a place of a page
abbrev pub word_in : List ℕ → ℕ → ℕ
word_in words at = number_in words at 4

-- the four bytes at an address of text, where its page is there
abbrev pub word_at : List PageValue → ℕ → Option ℕ
word_at text at =
    option_map (λ page. word_in page.words (at % PAGE_SIZE)) (page_in text (page_of at))

-- the number by which what generations have met stands in its table: it rises by generation, and
-- then by page
abbrev pub met_key : ℕ × ℕ → ℕ
met_key pair = pair.0 * ADDRESS_PAGES + pair.1

-- a generation has met a page
abbrev pub has_met : List (ℕ × ℕ) → ℕ → ℕ → Bool
has_met met generation page = is_some (found_by met_key met (met_key (generation, page)))

-- what was met, with a page that a generation meets now
abbrev pub with_met : List (ℕ × ℕ) → ℕ → ℕ → List (ℕ × ℕ)
with_met met generation page = inserted_by met_key (generation, page) met
