-- Pages of zeros.
use Rattle.std.specs.Prelude.{ℕ, List, replicate}

-- so many zeros
unfoldable pub zeros : ℕ → List ℕ
zeros n = replicate n 0

-- a page of zeros
abbrev pub blank : List ℕ
blank = zeros 512
