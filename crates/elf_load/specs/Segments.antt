-- The segments that are loaded, and the pages that they meet (System V ABI, "Program Header").
use Rattle.std.specs.Prelude.{ℕ, List, Bool, not, ◌&&◌, ◌||◌, ◌+◌, ◌-◌, ◌==◌, nat_lt, nat_le, bit_and}
use Rattle.std.specs.Bool.{beq}
use Rattle.std.specs.List.{filter, list_any}
use Rattle.elf_read.specs.declared.records.Segment.{Segment}
use Rattle.elf_read.specs.declared.constants.TheConstants.{PT_LOAD, PF_X, PF_W}
use Rattle.wf_outside.specs.declared.sizes.TheConstants.{PAGE_SIZE}
use Rattle.wf_outside.specs.Pages.{page_of}

-- the segment is to be loaded, PT_LOAD, and takes memory
abbrev pub is_load : Segment → Bool
is_load s = (s.p_type == PT_LOAD) && nat_lt 0 s.p_memsz

-- the segments that are loaded, in the order of the file
abbrev pub loads_of : List Segment → List Segment
loads_of segments = filter is_load segments

-- it may be run: the flag PF_X
abbrev pub is_executable : Segment → Bool
is_executable s = not (bit_and s.p_flags PF_X == 0)

-- it may be written: the flag PF_W
abbrev pub is_writable : Segment → Bool
is_writable s = not (bit_and s.p_flags PF_W == 0)

-- the first address behind its memory
abbrev pub segment_end : Segment → ℕ
segment_end s = s.p_vaddr + s.p_memsz

-- the first page that it meets
abbrev pub first_page : Segment → ℕ
first_page s = page_of s.p_vaddr

-- the first page behind those that it meets
abbrev pub page_after : Segment → ℕ
page_after s = page_of (segment_end s + (PAGE_SIZE - 1))

-- it meets the page with this number
abbrev pub meets : Segment → ℕ → Bool
meets s number = nat_le (first_page s) number && nat_lt number (page_after s)

-- how many pages it meets
abbrev pub pages_of : Segment → ℕ
pages_of s = page_after s - first_page s

-- the two share a byte of memory
abbrev pub share_byte : Segment → Segment → Bool
share_byte s t = nat_lt s.p_vaddr (segment_end t) && nat_lt t.p_vaddr (segment_end s)

-- the two meet one page
abbrev pub share_page : Segment → Segment → Bool
share_page s t = nat_lt (first_page s) (page_after t) && nat_lt (first_page t) (page_after s)

-- the two can't both be loaded: they share a byte, or a page that the one makes text and the other
-- data
abbrev pub clash : Segment → Segment → Bool
clash s t = share_byte s t || (share_page s t && not (beq (is_executable s) (is_executable t)))

-- a segment meets the page
abbrev pub is_met : List Segment → ℕ → Bool
is_met loads number = list_any (λ s. meets s number) loads

-- an executable segment meets the page: it is text
abbrev pub is_text : List Segment → ℕ → Bool
is_text loads number = list_any (λ s. meets s number && is_executable s) loads

-- the page is met by segments that are not executable alone: it is data
abbrev pub is_data : List Segment → ℕ → Bool
is_data loads number = is_met loads number && not (is_text loads number)

-- a writable segment meets the page
abbrev pub may_write : List Segment → ℕ → Bool
may_write loads number = list_any (λ s. meets s number && is_writable s) loads
