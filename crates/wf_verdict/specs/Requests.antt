-- What is requested of the kernel: by a program, with a call, and by the kernel's own actor, for a
-- script.
use Rattle.std.specs.Prelude.{ℕ, List, ◌<◌, ◌%◌, ◌==◌, if◌then◌else◌, length, slice_index}
use Rattle.wf_outside.specs.Images.{DeltaValue}
use Rattle.wf_calls.specs.declared.numbers.TheConstants.{EXIT, PUT_BYTE, MAP, UNMAP, OWN_GENERATION, MIGRATE, QUIESCE, DELETE, CREATE}
use Rattle.wf_flat.specs.State.{HartState}
use Rattle.wf_verdict.specs.declared.requests.Request.{Request}
use Rattle.wf_verdict.specs.declared.requests.Request.TheVariants.{Exits, PutsByte, Maps, Unmaps, TellsGeneration, Migrates, Quiesces, Deletes, Clones, Patches, NoCall}
use Rattle.wf_verdict.specs.declared.verdict.TheConstants.{MOST_GENERATIONS}

-- The table of calls: what a program requests by the number of a call and its arguments; its own
-- generation is this.
abbrev pub request_of : ℕ → ℕ → ℕ → ℕ → ℕ → Request
request_of own number a0 a1 a2 =
    if number == EXIT then Exits a0
    else if number == PUT_BYTE then PutsByte (a0 % 256)
    else if number == MAP then Maps a0 a1 a2
    else if number == UNMAP then Unmaps a0 a1
    else if number == OWN_GENERATION then TellsGeneration
    else if number == MIGRATE then Migrates a0
    else if number == QUIESCE then Quiesces
    else if number == DELETE then Deletes a0
    else if number == CREATE then Clones own
    else NoCall number

-- What a hart requests by its ecall: the number of the call is in a7, which is x17, and its
-- arguments are in a0 to a2, which are x10 to x12 (RISC-V ELF psABI, "Integer Register
-- Convention").
abbrev pub requested_by : HartState → Request
requested_by hart =
    request_of hart.generation (slice_index hart.arch.x 17) (slice_index hart.arch.x 10)
    (slice_index hart.arch.x 11) (slice_index hart.arch.x 12)

-- What the kernel's own actor may request: to clone or to delete a generation, or to patch with a
-- patch of the run.
abbrev pub IsKernelRequest : List DeltaValue → Request → Type 0
IsKernelRequest deltas (Clones generation) = generation < MOST_GENERATIONS
IsKernelRequest deltas (Deletes generation) = generation < MOST_GENERATIONS
IsKernelRequest deltas (Patches patch) = patch < length deltas
IsKernelRequest deltas (Exits code) = ⊥
IsKernelRequest deltas (PutsByte byte) = ⊥
IsKernelRequest deltas (Maps va pages right) = ⊥
IsKernelRequest deltas (Unmaps va pages) = ⊥
IsKernelRequest deltas TellsGeneration = ⊥
IsKernelRequest deltas (Migrates generation) = ⊥
IsKernelRequest deltas Quiesces = ⊥
IsKernelRequest deltas (NoCall number) = ⊥
