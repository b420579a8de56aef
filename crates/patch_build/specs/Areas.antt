-- Where patches are built, and what is built, without where it lies in memory.
use Rattle.std.specs.Prelude.{◌<◌, ◌≤◌, ℕ, List}
use Rattle.std.specs.List.{AllByRecursion}
use Rattle.wf_outside.specs.declared.image.Name.{Name}
use Rattle.wf_outside.specs.declared.sizes.TheConstants.{DATA_END_PAGE}
use Rattle.wf_outside.specs.Images.{DeltaValue}
use Rattle.wf_outside.specs.Lists.{IsRising}
use Rattle.elf_syms.specs.Names.{NamesValue}

-- what a patch is built over, as clauses see it: the first free page, the pages of text, and the
-- addresses of the jumps of earlier patches
pub record AreaValue : Type 0 where
  pub next : ℕ
  pub text : List ℕ
  pub jumps : List ℕ

-- what such an area keeps
pub record IsArea (next : ℕ) (text : List ℕ) : Type 0 where
  -- the free pages begin among those of data, or right behind them
  pub low : next ≤ DATA_END_PAGE
  -- the pages of text rise, and none is free
  pub rising : IsRising text
  pub used : AllByRecursion (λ n. n < next) text

-- a patch that was built, as clauses see it: what it brings, its names, and the first page behind
-- its own
pub record BuiltValue : Type 0 where
  pub delta : DeltaValue
  pub names : List Name
  pub next : ℕ

-- what lines of a patch's file are looked up in, as clauses see it: the functions of its object,
-- the names of the image and of the patches before, and the area
pub record LookupValue : Type 0 where
  pub functions : NamesValue
  pub names : NamesValue
  pub area : AreaValue
