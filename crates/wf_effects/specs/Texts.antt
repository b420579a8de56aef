-- What a patch makes of a text.
use Rattle.std.specs.Prelude.{ℕ, List, Bool, ◌+◌, ◌%◌, ◌==◌, ◌++◌, ◌≡◌, ◌<◌, ◌^◌, not, nat_eq, take, drop}
use Rattle.std.specs.List.{AllByRecursion, IsDistinct, filter, fold, list_any}
use Rattle.std.specs.Int.{w32, from_le_bytes}
use Rattle.wf_outside.specs.declared.image.Jump.{Jump}
use Rattle.wf_outside.specs.declared.sizes.TheConstants.{PAGE_SIZE}
use Rattle.wf_outside.specs.Images.{DeltaValue, text_numbers, data_numbers}
use Rattle.wf_outside.specs.Pages.{PageValue, page_of}
use Rattle.wf_flat.specs.Lists.{changed_by, sorted_by}
use Rattle.wf_flat.specs.Memory.{words_with}

-- a text with more pages, by rising number
abbrev pub with_pages : List PageValue → List PageValue → List PageValue
with_pages text pages = sorted_by (λ page. page.number) (text ++ pages)

-- a page in which the four bytes at a place, a multiple of 4, are those of a number
abbrev pub page_with : ℕ → ℕ → PageValue → PageValue
page_with at value page = record page { words = words_with page.words at 4 value }

-- a text in which the four bytes at an address, a multiple of 4, are those of a number
abbrev pub text_with : List PageValue → ℕ → ℕ → List PageValue
text_with text at value =
    changed_by (λ page. page.number) text (page_of at) (page_with (at % PAGE_SIZE) value)

-- a text with the eight bytes of a jump at its address, four and four, which may stand in two pages
abbrev pub with_jump : List PageValue → Jump → List PageValue
with_jump text jump =
    text_with (text_with text jump.at (from_le_bytes w32 (take 4 jump.bytes))) (jump.at + 4)
    (from_le_bytes w32 (drop 4 jump.bytes))

-- A text spliced with a patch: with its private pages, and with its jumps over what stood there;
-- nothing else.
abbrev pub spliced : List PageValue → DeltaValue → List PageValue
spliced text delta = fold with_jump (with_pages text delta.private) delta.jumps

-- a jump is at a multiple of 4, below 2 ^ 38
pub record IsPlaced (jump : Jump) : Type 0 where
  pub even : jump.at % 4 ≡ 0
  pub low : jump.at < 2 ^ 38

-- A patch fits a text: no page of the text and of its private pages is there twice, and its jumps
-- are placed.
pub record IsSpliceable (text : List PageValue) (delta : DeltaValue) : Type 0 where
  pub distinct : IsDistinct nat_eq (text_numbers (text ++ delta.private))
  pub placed : AllByRecursion IsPlaced delta.jumps

-- one of the jumps stands at the address
abbrev pub is_jump_at : List Jump → ℕ → Bool
is_jump_at jumps at = list_any (λ jump. jump.at == at) jumps

-- the jumps of a text that was spliced: those that were there at other addresses, then the patch's
abbrev pub spliced_jumps : List Jump → List Jump → List Jump
spliced_jumps old new = filter (λ jump. not (is_jump_at new jump.at)) old ++ new

-- the numbers of the pages that a patch brings, private and shared ones, rising
abbrev pub pages_of : DeltaValue → List ℕ
pages_of delta = sorted_by (λ n. n) (text_numbers delta.private ++ data_numbers delta.shared)
