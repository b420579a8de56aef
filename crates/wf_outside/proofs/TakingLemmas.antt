-- Bytes taken from a reader in several reads.
use Rattle.std.proofs.Common.{◌+◌, ◌≤◌, ◌<◌, ◌++◌, ℕ, List, Option, Some, None, IfSome, length, arith, length-append, ap}
use Rattle.std.proofs.KnownBytes.{Consumes-trans}
use Rattle.std.specs.Io.KnownBytes.{Consumes}
use Rattle.wf_outside.specs.Taking.{TakesAtMost}

-- more was taken after what was taken before
pub more_takes : (a b c : Option (List ℕ)) (bytes : List ℕ) (some most : ℕ) → Consumes a b bytes → TakesAtMost b c some → length bytes + some ≤ most → TakesAtMost a c most
more_takes a b c bytes some most h t few = record {
  taken = bytes ++ t.taken;
  gone = Consumes-trans a b c bytes t.taken h t.gone;
  few = omega (arith, length-append bytes t.taken, t.few);
}

-- a reader had more than so many bytes, where more were taken
pub consumes_long : (a b : Option (List ℕ)) (bytes : List ℕ) (max : ℕ) → Consumes a b bytes → max < length bytes → IfSome a (λ rest. max < length rest)
consumes_long None b bytes max h less = tt
consumes_long (Some rest) None bytes max h less = absurd h
consumes_long (Some rest) (Some new) bytes max h less = omega (arith, ap length h, length-append bytes new)
