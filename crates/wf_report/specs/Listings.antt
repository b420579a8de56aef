-- What a script lists of the machine: the registers of a hart, and words of its data. Each line of a
-- listing begins with `| `.
use Rattle.std.specs.Prelude.{ℕ, zero, suc, List, [], ◌++◌, ◌+◌, ◌%◌, codes, Option, Some, None, drop, slice_get}
use Rattle.std.specs.Int.{to_le_bytes, w64}
use Rattle.std.specs.List.{flat_map}
use Rattle.std.specs.Fmt.{decimal}
use Rattle.hex.specs.Hex.{encode_lower}
use Rattle.wf_text.specs.Numbers.{hex}
use Rattle.wf_outside.specs.declared.sizes.TheConstants.{PAGE_SIZE}
use Rattle.wf_outside.specs.Pages.{page_of}
use Rattle.wf_flat.specs.State.{FlatState, HartState, PageState}
use Rattle.wf_flat.specs.Memory.{data_in, number_in}
use Rattle.wf_journal.specs.Finals.{register_text}
use Rattle.wf_journal.specs.Headers.{line}

-- a listing, without where it lies in memory: how many entries stand before it, and its lines, each
-- with its newline
pub record ListingValue : Type 0 where
  pub place : ℕ
  pub lines : List ℕ

-- the registers x1 to x31 of a hart that is there
abbrev pub registers_of : Option HartState → List ℕ
registers_of None = []
registers_of (Some hart) = flat_map register_text (drop 1 hart.arch.x)

-- the listing of a hart's registers: `regs`, its number, and x1 to x31
unfoldable pub regs_lines : ℕ → FlatState → List ℕ
regs_lines hart flat =
    line (codes "| regs " ++ decimal hart ++ registers_of (slice_get flat.harts hart))

-- the eight bytes at an address of a page of data, in their order, or `-` where there is no such
-- page
unfoldable pub bytes_text : ℕ → Option PageState → List ℕ
bytes_text va None = codes "-"
bytes_text va (Some page) =
    encode_lower (to_le_bytes w64 (number_in page.words (va % PAGE_SIZE) 8))

-- the line of the doubleword at an address: `mem`, the address, and its bytes
unfoldable pub doubleword_line : ℕ → FlatState → List ℕ
doubleword_line va flat =
    line (codes "| mem " ++ hex va ++ codes " " ++ bytes_text va (data_in flat.pages (page_of va)))

-- the listing of so many doublewords from an address on
unfoldable pub mem_lines : ℕ → ℕ → FlatState → List ℕ
mem_lines va zero flat = []
mem_lines va (suc n) flat = doubleword_line va flat ++ mem_lines (va + 8) n flat
