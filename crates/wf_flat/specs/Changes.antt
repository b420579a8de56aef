-- What events change of harts and pages.
use Rattle.std.specs.Prelude.{ℕ, [], Bool, true, false, Option, Some, None, ◌+◌, ◌%◌, ◌==◌, ◌&&◌, if◌then◌else◌, is_some, nat_lt, slice_get}
use Rattle.wf_outside.specs.declared.sizes.TheConstants.{PAGE_SIZE}
use Rattle.wf_outside.specs.Pages.{page_of}
use Rattle.rv_inst.specs.declared.want.Want.{Want}
use Rattle.rv_inst.specs.declared.want.Want.TheVariants as want
use Rattle.wf_flat.specs.declared.event.Actor.{Actor}
use Rattle.wf_flat.specs.declared.event.Actor.TheVariants.{Hart}
use Rattle.wf_flat.specs.declared.state.Life.TheVariants.{Exited, Trapped}
use Rattle.wf_flat.specs.declared.state.Reservation.{Reservation}
use Rattle.wf_flat.specs.State.{FlatState, HartState, PageState}
use Rattle.wf_flat.specs.Lists.{changed_at, changed_by, others_changed, with_number}
use Rattle.wf_flat.specs.Memory.{data_in, words_with, with_met}
use Rattle.wf_flat.specs.Accesses.{Access, holds}
use Rattle.wf_flat.specs.Steps.{access_in, arch_after, is_conditional, is_inside, want_in}

-- who is inside when the actor has left
abbrev pub without : Option Actor → Actor → Option Actor
without inside actor = if is_inside inside actor then None else inside

-- one hart changes
abbrev pub change_hart : FlatState → ℕ → (HartState → HartState) → FlatState
change_hart s h f = record s { harts = changed_at s.harts h f }

-- one hart leaves the kernel, if it is inside, and changes
abbrev pub leave_hart : FlatState → ℕ → (HartState → HartState) → FlatState
leave_hart s h f = change_hart (record s { inside = without s.inside (Hart h) }) h f

-- a page of data changes
abbrev pub change_page : FlatState → ℕ → (PageState → PageState) → FlatState
change_page s number f = record s { pages = changed_by (λ page. page.number) s.pages number f }

-- a page that moved is noted by a hart that is in a try
abbrev pub noted : ℕ → HartState → HartState
noted page hart =
    if is_some hart.fetched then record hart { moved = with_number page hart.moved } else hart

-- a page that moved is noted by every hart but this that is in a try
abbrev pub note_page : FlatState → ℕ → ℕ → FlatState
note_page s h page = record s { harts = others_changed s.harts h (noted page) }

-- a try begins
abbrev pub fetched_with : ℕ → HartState → HartState
fetched_with word hart = record hart { fetched = Some word; looked = None; put = false; moved = [] }

-- a try ends, with the pc and registers after its instruction
abbrev pub ended : HartState → HartState
ended hart = record hart { fetched = None; arch = arch_after hart }

-- a try ends, and the hart stops with this code
abbrev pub exited_with : ℕ → HartState → HartState
exited_with code hart = record hart { fetched = None; life = Exited code }

-- a try ends, and is to be made again
abbrev pub tried : HartState → HartState
tried hart = record hart { fetched = None }

-- a try ends, and the hart stops with this trap
abbrev pub trapped_with : ℕ → ℕ → HartState → HartState
trapped_with cause value hart = record hart { fetched = None; life = Trapped cause value }

-- a call or an access has its answer
abbrev pub answered : ℕ → HartState → HartState
answered answer hart = record hart { looked = Some answer }

-- a load-reserved leaves a reservation on a page of data below the last count of writes, and else
-- none
abbrev pub reservation_of : FlatState → ℕ → ℕ → Option PageState → Option Reservation
reservation_of s va width None = None
reservation_of s va width (Some page) =
    if nat_lt page.writes s.limits.last_writes
    then Some (record { va = va; width = width; birth = page.birth; writes = page.writes })
    else None

-- the want is that of a load-reserved
abbrev pub reserves : Option Want → Bool
reserves (Some (want.Reserve va width)) = true
reserves want = false

-- a load has its answer, and a load-reserved leaves a reservation
abbrev pub looked_with : FlatState → ℕ → ℕ → ℕ → HartState → HartState
looked_with s va width value hart =
    record (answered value hart) {
      reservation = if reserves (want_in hart)
          then reservation_of s va width (data_in s.pages (page_of va)) else hart.reservation;
    }

-- a write is made; a store-conditional leaves no reservation
abbrev pub written_by : HartState → HartState
written_by hart =
    record (answered 0 hart) {
      put = true;
      reservation = if is_conditional (want_in hart) then None else hart.reservation;
    }

-- an atomic memory operation is made: its answer is what it read
abbrev pub swapped_by : ℕ → HartState → HartState
swapped_by old hart = record (answered old hart) { put = true }

-- a store-conditional misses: its answer is 1, and no reservation is left
abbrev pub missed : HartState → HartState
missed hart = record (answered 1 hart) { reservation = None }

-- a page is taken by a hart
abbrev pub taken_by : ℕ → PageState → PageState
taken_by h page = record page { holder = Some h }

-- bytes of a page are written
abbrev pub put_with : ℕ → ℕ → ℕ → PageState → PageState
put_with at width value page = record page { words = words_with page.words at width value }

-- a page is given back: its writes rise by one, as far as they go, where its hart wrote
abbrev pub given_back : ℕ → Bool → PageState → PageState
given_back last put page =
    record page {
      holder = None;
      writes = if put && nat_lt page.writes last then page.writes + 1 else page.writes;
    }

-- the page of this access, if it is one that the hart holds, is given back
abbrev pub give_back_of : FlatState → ℕ → HartState → Option Access → FlatState
give_back_of s h hart None = s
give_back_of s h hart (Some access) =
    if holds s h access
    then note_page
    (change_page s (page_of access.va) (given_back s.limits.last_writes hart.put))
    h (page_of access.va)
    else s

-- the page that a hart, if it is there, holds for its access is given back
abbrev pub give_back_by : FlatState → ℕ → Option HartState → FlatState
give_back_by s h None = s
give_back_by s h (Some hart) = give_back_of s h hart (access_in hart)

-- the page that the hart of a number holds for its access is given back
abbrev pub give_back : FlatState → ℕ → FlatState
give_back s h = give_back_by s h (slice_get s.harts h)

-- a generation has met a page, which is noted by the other harts that are in it and in a try
abbrev pub noted_in : ℕ → ℕ → HartState → HartState
noted_in generation page hart = if hart.generation == generation then noted page hart else hart

-- a page is taken by a hart, which the others note
abbrev pub page_taken : FlatState → ℕ → ℕ → FlatState
page_taken s h page = note_page (change_page s page (taken_by h)) h page

-- bytes at an address are written by a hart
abbrev pub bytes_put : FlatState → ℕ → ℕ → ℕ → ℕ → FlatState
bytes_put s h va width value =
    change_hart (change_page s (page_of va) (put_with (va % PAGE_SIZE) width value)) h written_by

-- bytes at an address are read and written by a hart in one
abbrev pub bytes_swapped : FlatState → ℕ → ℕ → ℕ → ℕ → ℕ → FlatState
bytes_swapped s h va width old new =
    change_hart (change_page s (page_of va) (put_with (va % PAGE_SIZE) width new)) h
    (swapped_by old)

-- a hart's instruction or call ends: the page that it holds is given back, and it leaves the
-- kernel, if it is inside
abbrev pub try_ended : FlatState → ℕ → FlatState
try_ended s h = leave_hart (give_back s h) h ended

-- a generation meets a page by a hart's call, which that ends; the others that are in the
-- generation note the page
abbrev pub page_met : FlatState → ℕ → ℕ → ℕ → FlatState
page_met s h generation page =
    record s {
      inside = without s.inside (Hart h);
      met = with_met s.met generation page;
      harts = others_changed s.harts h (noted_in generation page);
    }

-- an actor is inside the kernel
abbrev pub entered : FlatState → Actor → FlatState
entered s actor = record s { inside = Some actor }
