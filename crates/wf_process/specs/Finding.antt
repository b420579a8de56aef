-- What an access finds in the data, as the state says that words and records stand for.
use Rattle.std.specs.Prelude.{ℕ, Bool, true, Option, Some, None, ◌≡◌, ◌%◌, is_some, nat_lt, not, IsSomeAnd}
use Rattle.std.specs.Option.{option_map}
use Rattle.wf_outside.specs.declared.sizes.TheConstants.{PAGE_SIZE}
use Rattle.wf_outside.specs.Pages.{page_of}
use Rattle.wf_frames.specs.Layout.{WordsValue}
use Rattle.wf_views.specs.declared.records.Records.{Records}
use Rattle.wf_flat.specs.Accesses.{generation_text}
use Rattle.wf_flat.specs.Memory.{data_in, has_met, number_in, page_in}
use Rattle.wf_flat.specs.State.{FlatState, PageState}
use Rattle.wf_homes.specs.Homes.{Homes}
use Rattle.wf_homes.specs.Kept.{LiesIn, fields_at}
use Rattle.wf_homes.specs.Stands.{StandsFor}
use Rattle.wf_translation.specs.Translations.{IsMapped}
use Rattle.wf_process.specs.declared.finding.Found.{Found}

-- a page that lies in a frame, as that frame's word tells
abbrev pub found_in : WordsValue → ℕ → ℕ → ℕ → Bool → Bool → Found
found_in words last_writes page frame write met =
    record {
      page = page;
      frame = frame;
      write = write;
      writes = (fields_at words frame).writes;
      last = not (nat_lt (fields_at words frame).writes last_writes);
      met = met;
    }

-- this is found of a page of data: its number, its right, its count of writes and whether that is
-- the last
pub record IsFoundOf (s : FlatState) (found : Found) (page : PageState) : Type 0 where
  pub number : found.page ≡ page.number
  pub write : found.write ≡ page.write
  pub writes : found.writes ≡ page.writes
  pub last : found.last ≡ not (nat_lt page.writes s.limits.last_writes)

-- this is found at an address: the page of data, if there is one, and whether a generation has met
-- it
abbrev pub IsFoundAt : FlatState → ℕ → ℕ → Option Found → Type 0
IsFoundAt s generation va None = data_in s.pages (page_of va) ≡ None
IsFoundAt s generation va (Some found) =
    IsSomeAnd (data_in s.pages (page_of va)) (IsFoundOf s found)
    × (found.met ≡ has_met s.met generation (page_of va))

-- what is found lies in its frame
abbrev pub LiesWhereFound : WordsValue → Records → FlatState → ℕ → Option Found → Type 0
LiesWhereFound words r s va None = Unit {0}
LiesWhereFound words r s va (Some found) =
    IsSomeAnd (data_in s.pages (page_of va)) (λ page. LiesIn words r page found.frame)

-- a page of a generation's text is no page of data
abbrev pub IsApartFromText : FlatState → ℕ → ℕ → Type 0
IsApartFromText s generation page =
    is_some (page_in (generation_text s generation) page) ≡ true → data_in s.pages page ≡ None

-- whatever state words and records stand for, this is found in it at an address, and lies in its
-- frame
abbrev pub FoundIsRight : WordsValue → Records → ℕ → ℕ → Option Found → Type 0
FoundIsRight words r generation va found =
    (homes : Homes) (s : FlatState) → StandsFor words r homes s → IsMapped s
    → IsApartFromText s generation (page_of va)
    → IsFoundAt s generation va found × LiesWhereFound words r s va found

-- the bytes at an address of a generation's text, if its page is there
abbrev pub text_bytes : FlatState → ℕ → ℕ → ℕ → Option ℕ
text_bytes s generation va width =
    option_map (λ page. number_in page.words (va % PAGE_SIZE) width)
    (page_in (generation_text s generation) (page_of va))

-- whatever state words and records stand for, these are its bytes at an address of a generation's
-- text
abbrev pub TextIsRight : WordsValue → Records → ℕ → ℕ → ℕ → Option ℕ → Type 0
TextIsRight words r generation va width bytes =
    (homes : Homes) (s : FlatState) → StandsFor words r homes s → IsMapped s
    → bytes ≡ text_bytes s generation va width
