-- What is done about a request: it is refused, or its work is done.
use Rattle.std.specs.Prelude.{ℕ, List, [], ◌∷◌, ◌++◌, ◌==◌, Option, Some, None, length, map}
use Rattle.wf_outside.specs.declared.refusal.Refusal.{Refusal}
use Rattle.wf_outside.specs.Images.{DeltaValue}
use Rattle.wf_outside.specs.Pages.{page_of}
use Rattle.wf_flat.specs.declared.event.Event.TheVariants.{Born, Dead, Exit, Going, Map, Move, Out, Refused}
use Rattle.wf_flat.specs.State.{FlatState}
use Rattle.wf_effects.specs.declared.ranges.PageRun.{PageRun}
use Rattle.wf_effects.specs.Generations.{newest}
use Rattle.wf_effects.specs.Ranges.{runs_of}
use Rattle.wf_verdict.specs.declared.requests.Request.{Request}
use Rattle.wf_verdict.specs.declared.requests.Request.TheVariants.{Exits, PutsByte, Maps, Unmaps, TellsGeneration, Migrates, Quiesces, Deletes, Clones, Patches, NoCall}
use Rattle.wf_verdict.specs.declared.work.Todo.{Todo}
use Rattle.wf_verdict.specs.declared.work.Todo.TheVariants.{Exactly, Leaves}
use Rattle.wf_verdict.specs.Verdict.{delta_at, pages_from, refusal_of}

-- a run of the pages of a patch is mapped
abbrev pub map_of : ℕ → PageRun → Todo
map_of patch run = Exactly (Map run.first run.count run.write (Some patch))

-- the patch of a number, which is this: the runs of its shared pages are mapped, and a generation
-- is born of the newest
abbrev pub delta_work : FlatState → ℕ → DeltaValue → List Todo
delta_work s patch delta =
    map (map_of patch) (runs_of delta.shared)
    ++ Exactly (Born (length s.gens) (newest s) (Some patch)) ∷ []

-- an unmap of the pages begins, and each of them leaves
abbrev pub unmap_work : ℕ → ℕ → List Todo
unmap_work va pages = Exactly (Going (page_of va) pages) ∷ map Leaves (pages_from va pages)

-- what is done about a request that is not refused
abbrev pub work_of : List DeltaValue → FlatState → Request → List Todo
work_of deltas s (Exits code) = Exactly (Exit code) ∷ []
work_of deltas s (PutsByte byte) = Exactly (Out byte) ∷ []
work_of deltas s (Maps va pages right) = Exactly (Map (page_of va) pages (right == 3) None) ∷ []
work_of deltas s (Unmaps va pages) = unmap_work va pages
work_of deltas s TellsGeneration = []
work_of deltas s (Migrates generation) = Exactly (Move generation) ∷ []
work_of deltas s Quiesces = Exactly (Move (newest s)) ∷ []
work_of deltas s (Deletes generation) = Exactly (Dead generation) ∷ []
work_of deltas s (Clones generation) = Exactly (Born (length s.gens) generation None) ∷ []
work_of deltas s (Patches patch) = delta_work s patch (delta_at deltas patch)
work_of deltas s (NoCall number) = []

-- it is refused, or its work is done
abbrev pub refused_or : Option Refusal → List Todo → List Todo
refused_or None work = work
refused_or (Some reason) work = Exactly (Refused reason) ∷ []

-- what is done about a request in a state
abbrev pub done_about : List DeltaValue → FlatState → ℕ → Request → List Todo
done_about deltas s next request =
    refused_or (refusal_of deltas s next request) (work_of deltas s request)
