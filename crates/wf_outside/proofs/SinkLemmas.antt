-- What a put leaves.
use Rattle.std.proofs.Common.{◌≡◌, ◌≤◌, ◌++◌, ℕ, List, Some, length, take, arith, ap}
use Rattle.std.proofs.Math.Seq.{take-length}
use Rattle.wf_outside.specs.Puts.{AppendsPrefix}

-- a front of the bytes came
pub front_came : (old new bytes : List ℕ) (n : ℕ) → n ≤ length bytes → new ≡ old ++ take n bytes → AppendsPrefix (Some old) (Some new) bytes
front_came old new bytes n h e = (n, h, ap Some e)

-- all came
pub all_came : (old new bytes : List ℕ) → new ≡ old ++ bytes → AppendsPrefix (Some old) (Some new) bytes
all_came old new bytes e = (length bytes, omega arith, rw (take-length bytes) (ap Some e))
