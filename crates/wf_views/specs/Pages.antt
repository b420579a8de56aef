-- Data pages, as the kernel keeps them.
use Rattle.std.specs.Prelude.{◌-◌, ℕ, Option, true, false}
use Rattle.wf_views.specs.declared.pages.PageAt.{PageAt}
use Rattle.wf_views.specs.Lists.{RoomyValue, found_by, changed_by, inserted_by, without_by}

-- the number of a data page
abbrev pub page_number : PageAt → ℕ
page_number p = p.page

-- the data page of a number
abbrev pub page_at : RoomyValue PageAt → ℕ → Option PageAt
page_at pages page = found_by page_number pages.items page

-- one more data page, which takes room
abbrev pub page_added : PageAt → RoomyValue PageAt → RoomyValue PageAt
page_added p pages =
    record { items = inserted_by page_number p pages.items; room = pages.room - 1 }

-- a data page is taken out
abbrev pub page_removed : ℕ → RoomyValue PageAt → RoomyValue PageAt
page_removed page pages = record pages { items = without_by page_number pages.items page }

-- one data page changes
abbrev pub page_changed : ℕ → (PageAt → PageAt) → RoomyValue PageAt → RoomyValue PageAt
page_changed page change pages =
    record pages { items = changed_by page_number pages.items page change }

-- a page is Going: a call that unmaps it runs
abbrev pub made_going : PageAt → PageAt
made_going p = record p { going = true; ending = false }

-- a page is Ending: it is unmapped, and a hart holds it still
abbrev pub made_ending : PageAt → PageAt
made_ending p = record p { going = false; ending = true }
