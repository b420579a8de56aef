-- Why a file was not read, or is no image.
use Rattle.std.specs.Prelude.{◌≡◌, ◌+◌, ℕ, List, Option, Some}
use Rattle.wf_status.specs.declared.status.Status.{Status}
use Rattle.wf_status.specs.declared.status.Status.TheVariants.{Image, Shelf, Memory, Limit}
use Rattle.wf_status.specs.declared.status.LimitKind.TheVariants.{File}
use Rattle.wf_fetch.specs.Held.{HoldsBytes, IsLongerThan, max_file}
use Rattle.wf_fetch.specs.Loaded.{image_fault}

-- of what is held under a name, the file is longer than so many bytes, which are allowed
abbrev pub IsLimitOf : ℕ → Option (List ℕ) → ℕ → ℕ → Type 0
IsLimitOf allowed held number most =
    (number ≡ allowed + 1) × (most ≡ allowed) × IsLongerThan allowed held

-- of what is held under a name, the file is longer than a file may be
abbrev pub IsLimit : Option (List ℕ) → ℕ → ℕ → Type 0
IsLimit held number most = IsLimitOf max_file held number most

-- the statuses of a read of at most so many bytes, and what they say of what is held
abbrev pub IsReadStatus : ℕ → Option (List ℕ) → Status → Type 0
IsReadStatus allowed held Shelf = Unit {0}
IsReadStatus allowed held Memory = Unit {0}
IsReadStatus allowed held (Limit File number most) = IsLimitOf allowed held number most
IsReadStatus allowed held status = ⊥

-- the statuses of an image, and what they say of what is held
abbrev pub IsImageStatus : Option (List ℕ) → Status → Type 0
IsImageStatus held Shelf = Unit {0}
IsImageStatus held Memory = Unit {0}
IsImageStatus held (Limit File number most) = IsLimit held number most
IsImageStatus held (Image rule at) =
    HoldsBytes held (λ bytes. image_fault bytes ≡ Some (rule, at))
IsImageStatus held status = ⊥

-- what a read may answer where nothing is known of what is held
abbrev pub MayRead : Status → Type 0
MayRead Shelf = Unit {0}
MayRead Memory = Unit {0}
MayRead (Limit File number most) = Unit {0}
MayRead status = ⊥

-- what the fetch of an image may answer where nothing is known of what is held
abbrev pub MayFetchImage : Status → Type 0
MayFetchImage Shelf = Unit {0}
MayFetchImage Memory = Unit {0}
MayFetchImage (Limit File number most) = Unit {0}
MayFetchImage (Image rule at) = Unit {0}
MayFetchImage status = ⊥
