-- The rules of loading, and the first that a file breaks.
use Rattle.std.specs.Prelude.{◌≡◌, ℕ, List, [], ◌∷◌, ◌++◌, ◌&&◌, ◌+◌, ◌%◌, ◌==◌, Option, Some, None, if◌then◌else◌, length, sum_by, nat_lt}
use Rattle.std.specs.Bool.{then_some}
use Rattle.std.specs.List.{list_any}
use Rattle.std.specs.Option.{option_or, option_map}
use Rattle.elf_read.specs.declared.records.Segment.{Segment}
use Rattle.elf_read.specs.Elf.{ElfValue, segment_place}
use Rattle.wf_outside.specs.declared.rules.LoadRule.{LoadRule}
use Rattle.wf_outside.specs.declared.rules.LoadRule.TheVariants.{TlsSegment, Interp, Dynamic, WriteAndRun, HighAddress, TooLarge, SharedPage, NoEntry}
use Rattle.elf_read.specs.declared.constants.TheConstants.{PT_TLS, PT_INTERP, PT_DYNAMIC, E_ENTRY_PLACE}
use Rattle.wf_outside.specs.declared.sizes.TheConstants.{DATA_END, MOST_IMAGE_PAGES}
use Rattle.wf_outside.specs.Lists.{first_of}
use Rattle.wf_outside.specs.Pages.{page_of}
use Rattle.elf_load.specs.declared.fault.LoadFault.{LoadFault}
use Rattle.elf_load.specs.declared.fault.LoadFault.TheVariants.{Rule, Memory}
use Rattle.elf_load.specs.Segments.{is_load, loads_of, is_executable, is_writable, segment_end, is_text, pages_of, clash}

-- what a header breaks whose type asks for more than loading: PT_TLS, PT_INTERP or PT_DYNAMIC
abbrev pub linked : List Segment → Segment → Option LoadRule
linked before s =
    option_or (then_some (s.p_type == PT_TLS) TlsSegment)
    (option_or (then_some (s.p_type == PT_INTERP) Interp)
    (then_some (s.p_type == PT_DYNAMIC) Dynamic))

-- what a header breaks whose segment may be written and run
abbrev pub write_and_run : List Segment → Segment → Option LoadRule
write_and_run before s =
    then_some (is_load s && is_writable s && is_executable s) WriteAndRun

-- what a header breaks whose segment ends above the first address past data, where the stacks begin
abbrev pub high_address : List Segment → Segment → Option LoadRule
high_address before s =
    then_some (is_load s && nat_lt DATA_END (segment_end s)) HighAddress

-- what a header breaks at which the pages that segments meet pass those that an image may have,
-- each page counted once for each segment that meets it
abbrev pub too_large : List Segment → Segment → Option LoadRule
too_large before s =
    then_some
    (is_load s && nat_lt MOST_IMAGE_PAGES (sum_by pages_of (loads_of before) + pages_of s))
    TooLarge

-- what a header breaks that can't be loaded with one before it
abbrev pub shared_page : List Segment → Segment → Option LoadRule
shared_page before s =
    then_some (is_load s && list_any (λ t. clash t s) (loads_of before)) SharedPage

-- what the first header that breaks something breaks, and where that header stands in the file,
-- given the headers before
abbrev pub fault_among : (List Segment → Segment → Option LoadRule) → List ℕ → List Segment
    → List Segment → Option LoadFault
fault_among breaks bytes before [] = None
fault_among breaks bytes before (s ∷ ss) =
    option_or
    (option_map (λ rule. Rule rule (segment_place bytes (length before))) (breaks before s))
    (fault_among breaks bytes (before ++ s ∷ []) ss)

-- the same, of all headers of the file
abbrev pub header_fault : ElfValue → (List Segment → Segment → Option LoadRule) → Option LoadFault
header_fault elf breaks = fault_among breaks elf.bytes [] elf.segments

-- the fault is that of a rule on headers, or want of memory
abbrev pub IsFoundBy : ElfValue → (List Segment → Segment → Option LoadRule) → LoadFault → Type 0
IsFoundBy elf breaks (Rule rule at) = header_fault elf breaks ≡ Some (Rule rule at)
IsFoundBy elf breaks Memory = Unit {0}

-- the fault of a file whose e_entry is no multiple of 4, or is not in a page of text
abbrev pub entry_fault : ElfValue → Option LoadFault
entry_fault elf =
    if (elf.entry % 4 == 0) && is_text (loads_of elf.segments) (page_of elf.entry)
    then None
    else Some (Rule NoEntry E_ENTRY_PLACE)

-- the first rule that a file breaks, of all in their order
unfoldable pub fault_of : ElfValue → Option LoadFault
fault_of elf = first_of (
    header_fault elf linked
    ∷ header_fault elf write_and_run
    ∷ header_fault elf high_address
    ∷ header_fault elf too_large
    ∷ header_fault elf shared_page
    ∷ entry_fault elf
    ∷ [])

-- a file is not loaded for the first rule that it breaks, or for want of memory
abbrev pub IsFaultOf : ElfValue → LoadFault → Type 0
IsFaultOf elf (Rule rule at) = fault_of elf ≡ Some (Rule rule at)
IsFaultOf elf Memory = Unit {0}
