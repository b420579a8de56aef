-- What the words of instructions want.
use Rattle.std.specs.Prelude.{Option, Some, None}
use Rattle.wf_flat.specs.Accesses.{Access}
use Rattle.wf_flat.specs.Serving.{IsPlace}

-- the address of an access, if there is one, is a multiple of its width
abbrev pub HasPlace : Option Access → Type 0
HasPlace None = Unit {0}
HasPlace (Some access) = IsPlace access.va access.width
