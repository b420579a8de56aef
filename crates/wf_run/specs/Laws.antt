-- What holds of all files of runs.
use Rattle.std.specs.Prelude.{ℕ, List, Option, ◌≡◌}
use Rattle.wf_status.specs.declared.status.Status.{Status}
use Rattle.wf_status.specs.declared.status.Status.TheVariants.{Done}
use Rattle.wf_follow.specs.Runs.{WearsNone}
use Rattle.wf_usage.specs.declared.sizes.Sizes.{Sizes}
use Rattle.wf_run.specs.Answers.{CallsFor, HoldsReport}

-- files call for at most one answer
abbrev pub AnswersAreOne : Type 0
AnswersAreOne =
    (sizes : Sizes) (held : List ℕ → Option (List ℕ)) (image script : List ℕ)
    (one other : Status) → CallsFor sizes held image script one
    → CallsFor sizes held image script other → one ≡ other

-- files have at most one report, where in the run of one no frame is worn
abbrev pub ReportsAreOne : Type 0
ReportsAreOne =
    (sizes : Sizes) (held : List ℕ → Option (List ℕ)) (image script : List ℕ)
    (one other : List ℕ) → (report : HoldsReport sizes held image script one)
    → WearsNone report.run → HoldsReport sizes held image script other → one ≡ other

-- files that have a report call for it
abbrev pub ReportsAreCalledFor : Type 0
ReportsAreCalledFor =
    (sizes : Sizes) (held : List ℕ → Option (List ℕ)) (image script text : List ℕ)
    → HoldsReport sizes held image script text → CallsFor sizes held image script Done
