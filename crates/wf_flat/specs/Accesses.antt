-- What a hart's access finds: its own text, or a page of data, which it may reach or not.
use Rattle.std.specs.Prelude.{ℕ, Bool, true, false, Option, Some, None, List, [], ◌==◌, ◌&&◌, ◌||◌, not, if◌then◌else◌, is_some, slice_get}
use Rattle.rv_inst.specs.declared.want.Want.{Want}
use Rattle.rv_inst.specs.declared.want.Want.TheVariants as want
use Rattle.wf_outside.specs.Pages.{PageValue, page_of}
use Rattle.wf_flat.specs.declared.state.Stage.{Stage}
use Rattle.wf_flat.specs.declared.state.Stage.TheVariants.{Here, Going, Ending}
use Rattle.wf_flat.specs.declared.state.Reservation.{Reservation}
use Rattle.wf_flat.specs.State.{FlatState, GenState, HartState, PageState}
use Rattle.wf_flat.specs.Lists.{found_by}
use Rattle.wf_flat.specs.Memory.{page_in, data_in, has_met}

-- an access: its address, its width in bytes, and whether it writes
pub record Access : Type 0 where
  pub va : ℕ
  pub width : ℕ
  pub write : Bool

-- the access that an instruction wants, if it wants one
abbrev pub access_of : Option Want → Option Access
access_of (Some (want.Look va width)) = Some (record { va = va; width = width; write = false })
access_of (Some (want.Reserve va width)) = Some (record { va = va; width = width; write = false })
access_of (Some (want.Put va width value)) = Some (record { va = va; width = width; write = true })
access_of (Some (want.Swap va width op value)) =
    Some (record { va = va; width = width; write = true })
access_of (Some (want.PutIf va width value)) =
    Some (record { va = va; width = width; write = true })
access_of other = None

-- the text of a generation that was found
abbrev pub text_in : Option GenState → List PageValue
text_in None = []
text_in (Some gen) = gen.text

-- the text of the generation of a number
abbrev pub generation_text : FlatState → ℕ → List PageValue
generation_text s generation = text_in (slice_get s.gens generation)

-- the page of the access in the text of the hart's generation
abbrev pub accessed_text : FlatState → HartState → Access → Option PageValue
accessed_text s hart access = page_in (generation_text s hart.generation) (page_of access.va)

-- the page of the access in the data
abbrev pub accessed_data : FlatState → Access → Option PageState
accessed_data s access = data_in s.pages (page_of access.va)

-- no unmap of the page has begun
abbrev pub is_here : Stage → Bool
is_here Here = true
is_here stage = false

-- an unmap of the page is in hand
abbrev pub is_going : Stage → Bool
is_going Going = true
is_going stage = false

-- the page is left to its holder alone
abbrev pub is_ending : Stage → Bool
is_ending Ending = true
is_ending stage = false

-- the page may be written, or the access does not write
abbrev pub has_right : Access → PageState → Bool
has_right access page = not access.write || page.write

-- a page of data is in reach of a hart: it is Here or Going, and the hart's generation has met it
abbrev pub in_reach : FlatState → HartState → PageState → Bool
in_reach s hart page = not (is_ending page.stage) && has_met s.met hart.generation page.number

-- a page of data is in reach of a hart, with the right
abbrev pub is_reached : FlatState → HartState → Access → PageState → Bool
is_reached s hart access page = in_reach s hart page && has_right access page

-- the holder of a page, if it has one, is this hart
abbrev pub holder_is : Option ℕ → ℕ → Bool
holder_is None h = false
holder_is (Some holder) h = holder == h

-- a hart other than this holds the page
abbrev pub is_held_by_other : ℕ → PageState → Bool
is_held_by_other h page = is_some page.holder && not (holder_is page.holder h)

-- nobody holds the page
abbrev pub is_free : PageState → Bool
is_free page = not (is_some page.holder)

-- a hart holds the page that was found
abbrev pub holds_page : ℕ → Option PageState → Bool
holds_page h None = false
holds_page h (Some page) = holder_is page.holder h

-- a hart holds the page of an access
abbrev pub holds : FlatState → ℕ → Access → Bool
holds s h access = holds_page h (accessed_data s access)

-- the page of an access is one of data, is Here, and is in reach with the right
abbrev pub is_open : FlatState → HartState → Access → Option PageState → Bool
is_open s hart access None = false
is_open s hart access (Some page) = is_here page.stage && is_reached s hart access page

-- the page of a number has moved since the hart's fetch
abbrev pub has_moved : HartState → ℕ → Bool
has_moved hart number = is_some (found_by (λ page. page) hart.moved number)

-- An access is barred: its page is own text, and it writes; or its page has moved since the hart's
-- fetch, or is not open, as that of an address at or above 2 ^ 38, where no page of data is.
abbrev pub is_barred : FlatState → HartState → Access → Bool
is_barred s hart access =
    if is_some (accessed_text s hart access) then access.write
    else has_moved hart (page_of access.va) || not (is_open s hart access (accessed_data s access))

-- a reservation has this address and width
abbrev pub has_reserved : Option Reservation → ℕ → ℕ → Bool
has_reserved None va width = false
has_reserved (Some reservation) va width = (reservation.va == va) && (reservation.width == width)

-- a reservation stands for an access: it has its address and width, and the birth and writes of its
-- page
abbrev pub stands : Option Reservation → Access → PageState → Bool
stands None access page = false
stands (Some reservation) access page =
    has_reserved (Some reservation) access.va access.width && (reservation.birth == page.birth)
    && (reservation.writes == page.writes)
