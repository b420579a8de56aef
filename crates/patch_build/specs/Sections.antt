-- The sections of an object that are loaded, and what keeps one from that (System V ABI,
-- "Sections").
use Rattle.std.specs.Prelude.{ℕ, ◌+◌, ◌==◌, ◌&&◌, Bool, not, if◌then◌else◌, List, [], ◌∷◌, Option, None, bit_and, max, nat_lt, nat_le}
use Rattle.std.specs.Bool.{then_some}
use Rattle.std.specs.Int.{is_power_of_two}
use Rattle.std.specs.Option.{option_map, option_or}
use Rattle.wf_outside.specs.declared.sizes.TheConstants.{PAGE_SIZE}
use Rattle.wf_outside.specs.Lists.{first_of}
use Rattle.elf_read.specs.declared.records.Section.{Section}
use Rattle.patch_build.specs.declared.constants.TheConstants.{SHF_WRITE, SHF_ALLOC, SHF_EXECINSTR, SHF_TLS, SHF_COMPRESSED}
use Rattle.patch_build.specs.declared.fault.BuildFault.{BuildFault}
use Rattle.patch_build.specs.declared.fault.BuildFault.TheVariants as build
use Rattle.patch_rules.specs.declared.sections.SectionRule.{SectionRule}
use Rattle.patch_rules.specs.declared.sections.SectionRule.TheVariants.{Tls, Compressed, Align, WriteAndRun}
use Rattle.patch_build.specs.declared.region.Region.{Region}
use Rattle.patch_build.specs.declared.region.Region.TheVariants.{Text, Constants, Data}

-- a section has a flag
abbrev pub has_flag : ℕ → Section → Bool
has_flag flag s = not (bit_and s.sh_flags flag == 0)

-- it is loaded: it takes memory, and has some bytes there
abbrev pub is_loaded : Section → Bool
is_loaded s = has_flag SHF_ALLOC s && nat_lt 0 s.sh_size

-- its alignment, where 0 counts as 1
abbrev pub alignment_of : Section → ℕ
alignment_of s = max s.sh_addralign 1

-- its region: text where it may be run, else data where it may be written, else constants
abbrev pub region_of : Section → Region
region_of s =
    if has_flag SHF_EXECINSTR s then Text else (if has_flag SHF_WRITE s then Data else Constants)

-- it is loaded, in this region
abbrev pub is_of : Region → Section → Bool
is_of Text s = is_loaded s && has_flag SHF_EXECINSTR s
is_of Constants s =
    is_loaded s && not (has_flag SHF_EXECINSTR s) && not (has_flag SHF_WRITE s)
is_of Data s = is_loaded s && not (has_flag SHF_EXECINSTR s) && has_flag SHF_WRITE s

-- what keeps a section from being loaded: the first of its rules that it breaks
abbrev pub broken_by : Section → Option SectionRule
broken_by s = first_of (
    then_some (has_flag SHF_TLS s) Tls
    ∷ then_some (has_flag SHF_COMPRESSED s) Compressed
    ∷ then_some (not (is_power_of_two (alignment_of s) && nat_le (alignment_of s) PAGE_SIZE)) Align
    ∷ then_some (has_flag SHF_WRITE s && has_flag SHF_EXECINSTR s) WriteAndRun
    ∷ [])

-- the first of these sections that is to be loaded and breaks a rule; the first one has this number
abbrev pub section_fault : ℕ → List Section → Option BuildFault
section_fault n [] = None
section_fault n (s ∷ ss) =
    option_or
    (if is_loaded s then option_map (build.Section n) (broken_by s) else None)
    (section_fault (n + 1) ss)
