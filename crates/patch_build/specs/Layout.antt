-- Where the sections of an object are placed: those of a region one behind the other, and each
-- region from a fresh page on (System V ABI, "Sections", sh_addralign).
use Rattle.std.specs.Prelude.{◌≡◌, ◌<◌, ◌≤◌, ℕ, ◌+◌, ◌-◌, ◌*◌, ◌^◌, ◌||◌, if◌then◌else◌, List, [], ◌∷◌, Option, Some, None, min, nat_lt}
use Rattle.std.specs.Int.{div_ceil, next_multiple_of}
use Rattle.std.specs.List.{fold}
use Rattle.wf_outside.specs.declared.sizes.TheConstants.{PAGE_SIZE, DATA_END_PAGE}
use Rattle.elf_read.specs.declared.records.Section.{Section}
use Rattle.patch_build.specs.declared.constants.TheConstants.{MOST_PATCH_PAGES}
use Rattle.patch_build.specs.declared.fault.BuildFault.{BuildFault}
use Rattle.patch_build.specs.declared.fault.BuildFault.TheVariants as build
use Rattle.patch_build.specs.declared.layout.Ends.{Ends}
use Rattle.patch_build.specs.declared.layout.Starts.{Starts}
use Rattle.patch_build.specs.declared.region.Region.{Region}
use Rattle.patch_build.specs.declared.region.Region.TheVariants.{Text, Constants, Data}
use Rattle.patch_build.specs.Sections.{is_loaded, is_of, region_of, alignment_of}

-- where a section begins behind sections of its region that end here, from the region's start
abbrev pub offset_behind : ℕ → Section → ℕ
offset_behind at s = next_multiple_of at (alignment_of s)

-- where the sections of a region end with one section more, which may be of another
abbrev pub end_with : Region → ℕ → Section → ℕ
end_with region at s = if is_of region s then offset_behind at s + s.sh_size else at

-- where the sections of a region end, from its start
abbrev pub region_end : Region → List Section → ℕ
region_end region sections = fold (end_with region) 0 sections

-- how many pages a region takes; one without sections takes none
abbrev pub pages_of : Region → List Section → ℕ
pages_of region sections = div_ceil (region_end region sections) PAGE_SIZE

-- how many pages a patch takes
abbrev pub all_pages : List Section → ℕ
all_pages sections = pages_of Text sections + pages_of Constants sections + pages_of Data sections

-- the patch has too many pages, or they pass those of data, which begin at this one
abbrev pub area_fault : ℕ → List Section → Option BuildFault
area_fault next sections =
    if nat_lt MOST_PATCH_PAGES (all_pages sections)
    || nat_lt DATA_END_PAGE (next + all_pages sections)
    then Some (build.Area (min (all_pages sections) (2 ^ 64 - 1)))
    else None

-- the first page of each region, text first, then constants, then data; and the first behind all
abbrev pub starts_of : ℕ → List Section → Starts
starts_of next sections = record {
  text = next;
  constants = next + pages_of Text sections;
  variables = next + pages_of Text sections + pages_of Constants sections;
  end = next + all_pages sections;
}

-- where the sections of a region end, from its start, where those of each end here
abbrev pub end_in : Ends → Region → ℕ
end_in ends Text = ends.text
end_in ends Constants = ends.constants
end_in ends Data = ends.variables

-- the sections of each region end here before the first
abbrev pub no_ends : Ends
no_ends = record { text = 0; constants = 0; variables = 0 }

-- where the sections of each region end with one section more
abbrev pub ends_with : Ends → Section → Ends
ends_with ends s = record {
  text = end_with Text ends.text s;
  constants = end_with Constants ends.constants s;
  variables = end_with Data ends.variables s;
}

-- the first page of a region
abbrev pub first_page : Starts → Region → ℕ
first_page starts Text = starts.text
first_page starts Constants = starts.constants
first_page starts Data = starts.variables

-- the address of a section behind those of its region that end here, if it is loaded
abbrev pub place_at : Starts → Ends → Section → Option ℕ
place_at starts ends s =
    if is_loaded s
    then Some (PAGE_SIZE * first_page starts (region_of s)
    + offset_behind (end_in ends (region_of s)) s)
    else None

-- the addresses of sections, in their order, behind those that end here
abbrev pub places_behind : Starts → Ends → List Section → List (Option ℕ)
places_behind starts ends [] = []
places_behind starts ends (s ∷ ss) =
    place_at starts ends s ∷ places_behind starts (ends_with ends s) ss

-- the address of each section that is loaded, by number
abbrev pub places_of : Starts → List Section → List (Option ℕ)
places_of starts sections = places_behind starts no_ends sections

-- a section more keeps the end of each region where numbers of 32 bits reach
abbrev pub HasRoom : Ends → Section → Type 0
HasRoom ends s = (region : Region) → end_with region (end_in ends region) s < 2 ^ 32

-- the regions of these sections have their pages here, one region behind the other, all among the
-- pages of data
pub record AreStarts (starts : Starts) (sections : List Section) : Type 0 where
  pub text : starts.text + pages_of Text sections ≡ starts.constants
  pub constants : starts.constants + pages_of Constants sections ≡ starts.variables
  pub variables : starts.variables + pages_of Data sections ≡ starts.end
  pub low : starts.end ≤ DATA_END_PAGE
