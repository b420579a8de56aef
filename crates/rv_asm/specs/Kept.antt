-- What sizes keep.
use Rattle.std.specs.Prelude.{◌≤◌, ◌^◌}
use Rattle.rv_asm.specs.declared.sizes.SectionSizes.{SectionSizes}

-- no size is greater than one that is counted
pub record AreCounted (sizes : SectionSizes) : Type 0 where
  pub text : sizes.text ≤ 2 ^ 100
  pub rodata : sizes.rodata ≤ 2 ^ 100
  pub rwdata : sizes.rwdata ≤ 2 ^ 100
  pub bss : sizes.bss ≤ 2 ^ 100
