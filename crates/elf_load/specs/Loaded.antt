-- The image of a file, byte by byte (System V ABI, "Program Header").
use Rattle.std.specs.Prelude.{ℕ, List, Bool, not, ◌&&◌, ◌+◌, ◌-◌, ◌*◌, ◌/◌, ◌==◌, None, map, nat_lt, nat_le, slice_index, slice_range, drop}
use Rattle.std.specs.List.{filter, find, range_with_len, last_or}
use Rattle.std.specs.Option.{option_map_or}
use Rattle.byteorder.specs.Endian.{little_number}
use Rattle.elf_read.specs.declared.records.Segment.{Segment}
use Rattle.elf_read.specs.declared.records.Symbol.{Symbol}
use Rattle.elf_read.specs.Elf.{ElfValue}
use Rattle.wf_outside.specs.declared.image.Name.{Name}
use Rattle.wf_outside.specs.Pages.{PageValue, DataPageValue}
use Rattle.wf_outside.specs.Images.{ImageValue}
use Rattle.elf_read.specs.declared.constants.TheConstants.{SHN_UNDEF, SHN_COMMON, STB_LOCAL}
use Rattle.wf_outside.specs.declared.sizes.TheConstants.{PAGE_SIZE, PAGE_WORDS, DATA_END_PAGE}
use Rattle.elf_load.specs.Segments.{loads_of, is_met, is_text, is_data, may_write}

-- the address is one of the segment's part of the file
abbrev pub covers : Segment → ℕ → Bool
covers s a = nat_le s.p_vaddr a && nat_lt a (s.p_vaddr + s.p_filesz)

-- the byte that the segment gives to such an address
abbrev pub given : List ℕ → Segment → ℕ → ℕ
given file s a = slice_index file (s.p_offset + (a - s.p_vaddr))

-- the byte at an address: 0 where no segment gives one; where no rule is broken, no two do
abbrev pub byte_at : List ℕ → List Segment → ℕ → ℕ
byte_at file loads a = option_map_or (λ s. given file s a) (find (λ s. covers s a) loads) 0

-- so many bytes from an address on
unfoldable pub bytes_at : List ℕ → List Segment → ℕ → ℕ → List ℕ
bytes_at file loads a n = map (byte_at file loads) (range_with_len a n)

-- the first words in these bytes, the lowest byte of each first
unfoldable pub words_in : ℕ → List ℕ → List ℕ
words_in n bytes = map (λ k. little_number 8 (drop (8 * k) bytes)) (range_with_len 0 n)

-- the words of the page with this number
abbrev pub page_words : List ℕ → List Segment → ℕ → List ℕ
page_words file loads number =
    words_in PAGE_WORDS (bytes_at file loads (PAGE_SIZE * number) PAGE_SIZE)

-- the page of text with this number
abbrev pub loaded_text : List ℕ → List Segment → ℕ → PageValue
loaded_text file loads number = record { number = number; words = page_words file loads number }

-- the page of data with this number
abbrev pub loaded_data : List ℕ → List Segment → ℕ → DataPageValue
loaded_data file loads number =
    record { number = number; write = may_write loads number; words = page_words file loads number }

-- the pages below a number that pass a test, in their order
unfoldable pub pages_below : ℕ → (ℕ → Bool) → List ℕ
pages_below n test = filter test (range_with_len 0 n)

-- the first page behind all of these, which stand in their order
abbrev pub page_behind : List ℕ → ℕ
page_behind numbers = option_map_or (λ number. number + 1) (last_or None numbers) 0

-- the symbol has a name and is defined: st_shndx is neither SHN_UNDEF nor SHN_COMMON (System V ABI,
-- "Symbol Table")
abbrev pub is_defined : Symbol → Bool
is_defined symbol =
    nat_lt 0 symbol.st_name.len
    && not (symbol.st_shndx == SHN_UNDEF)
    && not (symbol.st_shndx == SHN_COMMON)

-- the name of a symbol; its binding is the upper half of st_info
abbrev pub name_of : List ℕ → Symbol → Name
name_of file symbol = record {
  name = slice_range file symbol.st_name.at (symbol.st_name.at + symbol.st_name.len);
  addr = symbol.st_value;
  size = symbol.st_size;
  global = not (symbol.st_info / 16 == STB_LOCAL);
}

-- what is loaded of these segments: the pages lie below the stacks, and stand by rising number; the
-- names stand in the order of the symbol table
abbrev pub image_with : ElfValue → List Segment → ImageValue
image_with elf loads = record {
  text = map (loaded_text elf.bytes loads) (pages_below DATA_END_PAGE (is_text loads));
  pages = map (loaded_data elf.bytes loads) (pages_below DATA_END_PAGE (is_data loads));
  entry = elf.entry;
  names = map (name_of elf.bytes) (filter is_defined elf.symbols);
  end = page_behind (pages_below DATA_END_PAGE (is_met loads));
}

-- the image of a file
unfoldable pub image_of : ElfValue → ImageValue
image_of elf = image_with elf (loads_of elf.segments)
