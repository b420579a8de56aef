-- What a patch's file says.
use Rattle.std.specs.Prelude.{◌<◌, ◌≤◌, ℕ, suc, List, [], ◌∷◌, length}
use Rattle.std.specs.List.{AllByRecursion}
use Rattle.patch_file.specs.declared.patch.Replace.{Replace}

-- a patch's file, without where it lies in memory: the name of its object, and what it replaces, in
-- the order of the lines
pub record PatchValue : Type 0 where
  pub object : List ℕ
  pub replaces : List Replace

-- a name has a byte at least, and all are from 0x21 to 0x7E
abbrev pub IsName : List ℕ → Type 0
IsName name = (0 < length name) × AllByRecursion (λ byte. (33 ≤ byte) × (byte ≤ 126)) name

-- what is replaced, and what replaces it, have names
abbrev pub IsReplace : Replace → Type 0
IsReplace replace = IsName replace.old × IsName replace.new

-- each line is behind those before it, and the first is this one or behind it
abbrev pub AreRising : ℕ → List Replace → Type 0
AreRising least [] = Unit {0}
AreRising least (replace ∷ replaces) =
    (least ≤ replace.line) × AreRising (suc replace.line) replaces

-- what each patch's file keeps
pub record IsPatch (patch : PatchValue) : Type 0 where
  pub object : IsName patch.object
  pub replaces : AllByRecursion IsReplace patch.replaces
  -- the lines rise, behind the two that come first
  pub rising : AreRising 3 patch.replaces
