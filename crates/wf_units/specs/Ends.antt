-- How harts stand behind a whole unit, and what is left of pages that are gone.
use Rattle.std.specs.Prelude.{ℕ, List, [], ◌∷◌, ◌%◌, Bool, Option, Some, None, true, false, if◌then◌else◌}
use Rattle.rv_inst.specs.declared.inst.Inst.{Inst}
use Rattle.rv_inst.specs.Meanings.{called, meaning_of}
use Rattle.wf_outside.specs.declared.sizes.TheConstants.{PAGE_SIZE}
use Rattle.wf_outside.specs.Pages.{page_of}
use Rattle.wf_flat.specs.declared.state.Life.TheVariants.{Exited, Trapped}
use Rattle.wf_flat.specs.declared.state.Reservation.{Reservation}
use Rattle.wf_flat.specs.Changes.{change_page, given_back, page_met, put_with}
use Rattle.wf_flat.specs.Memory.{has_met}
use Rattle.wf_flat.specs.State.{FlatState, HartState, PageState}
use Rattle.wf_effects.specs.Effects.{page_gone}

-- a hart behind a try in which it had no answer, wrote nothing, and for which no page moved
abbrev pub try_passed : HartState → HartState
try_passed hart = record hart { fetched = None; looked = None; put = false; moved = [] }

-- a hart behind a call with this answer, which is in a0
abbrev pub hart_answered : ℕ → HartState → HartState
hart_answered answer hart =
    record (try_passed hart) { looked = Some answer; arch = called hart.arch answer }

-- a hart behind the call that tells its own generation
abbrev pub hart_told : HartState → HartState
hart_told hart = record (try_passed hart) { arch = called hart.arch hart.generation }

-- a hart behind a call that moved it to a generation, whose number is the answer
abbrev pub hart_sent : ℕ → HartState → HartState
hart_sent generation hart = record (hart_answered generation hart) { generation = generation }

-- a hart behind its exit with a code
abbrev pub hart_exited : ℕ → HartState → HartState
hart_exited code hart = record (try_passed hart) { life = Exited code }

-- a state after pages are gone, one after another, each with its frame worn or not
abbrev pub each_gone : FlatState → List (ℕ × Bool) → FlatState
each_gone s [] = s
each_gone s (page ∷ pages) = each_gone (page_gone s page.0 page.1) pages

-- a hart behind an instruction that asks for no access and no call
abbrev pub hart_ran : Inst → HartState → HartState
hart_ran inst hart = record (try_passed hart) { arch = meaning_of inst hart.arch 0 }

-- a hart that a trap stopped
abbrev pub hart_trapped : ℕ → ℕ → HartState → HartState
hart_trapped cause value hart = record (try_passed hart) { life = Trapped cause value }

-- a hart behind an instruction whose access had this answer, and wrote nothing
abbrev pub hart_read : Inst → ℕ → HartState → HartState
hart_read inst got hart =
    record (try_passed hart) { looked = Some got; arch = meaning_of inst hart.arch got }

-- a hart behind a load-reserved with this answer, which left this
abbrev pub hart_reserved : Inst → ℕ → Option Reservation → HartState → HartState
hart_reserved inst got reservation hart =
    record (hart_read inst got hart) { reservation = reservation }

-- a hart behind a store-conditional that missed: its answer is 1, and no reservation is left
abbrev pub hart_missed : Inst → HartState → HartState
hart_missed inst hart = hart_reserved inst 1 None hart

-- a hart behind a write with this answer: 0 of a store, what was read of an atomic memory operation
abbrev pub hart_wrote : Inst → ℕ → HartState → HartState
hart_wrote inst got hart = record (hart_read inst got hart) { put = true }

-- a hart behind a store-conditional that wrote: its answer is 0, and no reservation is left
abbrev pub hart_put_if : Inst → HartState → HartState
hart_put_if inst hart = record (hart_wrote inst 0 hart) { reservation = None }

-- a page in which bytes at a place are those of a number: it was written once more, as far as
-- writes are counted
abbrev pub page_written : ℕ → ℕ → ℕ → ℕ → PageState → PageState
page_written last at width value page = given_back last true (put_with at width value page)

-- a state in which bytes at an address are written
abbrev pub bytes_written : FlatState → ℕ → ℕ → ℕ → FlatState
bytes_written s va width value =
    change_page s (page_of va)
    (page_written s.limits.last_writes (va % PAGE_SIZE) width value)

-- a state in which the generation of a hart has met a page: it had, or meets it now
abbrev pub now_met : FlatState → ℕ → HartState → ℕ → FlatState
now_met s h hart page =
    if has_met s.met hart.generation page then s else page_met s h hart.generation page
