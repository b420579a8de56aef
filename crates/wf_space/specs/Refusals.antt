-- What jobs are refused for is what the table of calls says.
use Rattle.std.specs.Prelude.{ℕ, List, None, ◌≡◌}
use Rattle.wf_outside.specs.Images.{DeltaValue}
use Rattle.wf_frames.specs.Layout.{WordsValue}
use Rattle.wf_views.specs.declared.records.Records.{Records}
use Rattle.wf_flat.specs.State.{FlatState}
use Rattle.wf_homes.specs.Homes.{Homes}
use Rattle.wf_homes.specs.Stands.{StandsFor}
use Rattle.wf_verdict.specs.declared.requests.Request.TheVariants.{Unmaps}
use Rattle.wf_verdict.specs.Verdict.{bad_range, refusal_of}
use Rattle.wf_space.specs.declared.job.Job.TheVariants.{Unmap}
use Rattle.wf_space.specs.Jobs.{refusal_in}

-- Beside a bad range, an unmap is refused by the records for what the table of calls refuses it for
-- in the state that words and records stand for.
abbrev pub RefusalsAgree : Type 0
RefusalsAgree =
    (words : WordsValue) (r : Records) (homes : Homes) (s : FlatState) (va pages : ℕ)
    (deltas : List DeltaValue) (next : ℕ)
    → StandsFor words r homes s → bad_range va pages ≡ None
    → refusal_in r (Unmap va pages) ≡ refusal_of deltas s next (Unmaps va pages)
