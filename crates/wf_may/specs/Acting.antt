-- What a hart may do outside the kernel, by cases on its event.
use Rattle.std.specs.Prelude.{ℕ, true, false, None, ◌≡◌, ◌≢◌}
use Rattle.wf_flat.specs.declared.event.Event.{Event}
use Rattle.wf_flat.specs.declared.event.Event.TheVariants.{Fetch, Look, Take, Put, Swap, Miss, End, Again, Wait, Enter, Idle}
use Rattle.wf_flat.specs.declared.state.Life.TheVariants.{Running}
use Rattle.wf_flat.specs.State.{FlatState, HartState}
use Rattle.wf_flat.specs.Accesses.{Access, generation_text, holds}
use Rattle.wf_flat.specs.Steps.{MayEnd, MayEnter, MayFetch, MayLook, MayMiss, MayPut, MaySwap, MayTake, MayTryAgain, MayWait, access_in}

-- it holds the page of the access, and its write is not made
abbrev pub MayWrite : FlatState → ℕ → HartState → Access → Type 0
MayWrite s h hart access =
    (holds s h access ≡ true) × (hart.looked ≡ None) × (hart.put ≡ false)

-- what hart h, which is this and runs, may do
abbrev pub MayStep : FlatState → ℕ → HartState → Event → Type 0
MayStep s h hart (Fetch pc word) = MayFetch (generation_text s hart.generation) hart pc word
MayStep s h hart (Look va width value) = MayLook s h hart va width value
MayStep s h hart (Take page) = MayTake s hart (access_in hart) page
MayStep s h hart (Put va width value) = MayPut s h hart va width value
MayStep s h hart (Swap va width old new) = MaySwap s h hart va width old new
MayStep s h hart (Miss va) = MayMiss s h hart (access_in hart) va
MayStep s h hart (End pc) = MayEnd hart pc
MayStep s h hart (Again page) = MayTryAgain s h hart (access_in hart) page
MayStep s h hart (Wait on) = MayWait s h hart on
MayStep s h hart Enter = MayEnter s h hart
MayStep s h hart event = ⊥

-- what hart h, which is this, may do: it idles where it does not run
abbrev pub MayDo : FlatState → ℕ → HartState → Event → Type 0
MayDo s h hart Idle = hart.life ≢ Running
MayDo s h hart event = (hart.life ≡ Running) × MayStep s h hart event
