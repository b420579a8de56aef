-- Looking for the first file of a name.
use Rattle.std.proofs.Common.{◌≡◌, ◌<◌, ◌+◌, ℕ, List, Some, Vec, length, get_or, drop, refl, add-one, cond}
use Rattle.std.proofs.Math.Seq.{drop-cons}
use Rattle.std.specs.Str.{bytes_eq}
use Rattle.std.specs.declared.alloc.Global.{Global}
use Rattle.wf_outside.specs.Files.{first_bytes}
use Rattle.wf_outside.specs.MemFiles.{files_of}

-- looking from a place on
pub first_bytes-drop : (name : List ℕ) (xs : List (List ℕ × Vec ℕ Global)) (i : ℕ) (d : List ℕ × Vec ℕ Global) → i < length xs
    → first_bytes name (files_of (drop i xs)) ≡ cond (bytes_eq (get_or xs i d).0 name) (Some (get_or xs i d).1.items) (first_bytes name (files_of (drop (i + 1) xs)))
first_bytes-drop name xs i d h = rw (drop-cons xs i d h, add-one) refl

pub ruleset first_file = first_bytes-drop
