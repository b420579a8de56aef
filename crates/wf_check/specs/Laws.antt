-- What holds of all files that are checked.
use Rattle.std.specs.Prelude.{◌≡◌, ℕ, List, Option}
use Rattle.wf_status.specs.declared.status.Status.{Status}
use Rattle.wf_status.specs.declared.status.Status.TheVariants.{Done}
use Rattle.wf_check.specs.Checking.{CheckCallsFor, IsAccepted}

-- files call for at most one answer
abbrev pub ChecksAreOne : Type 0
ChecksAreOne =
    (held : List ℕ → Option (List ℕ)) (image journal : List ℕ) (one other : Status)
    → CheckCallsFor held image journal one → CheckCallsFor held image journal other
    → one ≡ other

-- a journal that is accepted has one number of entries
abbrev pub CountsAreOne : Type 0
CountsAreOne =
    (held : List ℕ → Option (List ℕ)) (image journal : List ℕ) (one other : ℕ)
    → IsAccepted held image journal one → IsAccepted held image journal other → one ≡ other

-- files whose journal is accepted call for that
abbrev pub AcceptedAreCalledFor : Type 0
AcceptedAreCalledFor =
    (held : List ℕ → Option (List ℕ)) (image journal : List ℕ) (count : ℕ)
    → IsAccepted held image journal count → CheckCallsFor held image journal Done
