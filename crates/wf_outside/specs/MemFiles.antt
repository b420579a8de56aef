-- The shelf and the sink in memory.
use Rattle.std.specs.Prelude.{ℕ, List, [], ◌∷◌, Vec}
use Rattle.std.specs.declared.alloc.Global.{Global}
use Rattle.wf_outside.specs.Files.{File}

-- files without where they lie in memory
abbrev pub files_of : List (List ℕ × Vec ℕ Global) → List File
files_of [] = []
files_of (file ∷ files) = (file.0, file.1.items) ∷ files_of files

-- a shelf in memory as clauses see it: its files, the numbers of the reads that fail, how often it
-- was read, and how often that failed
pub record MemShelfValue : Type 0 where
  pub held : List File
  pub fail : List ℕ
  pub calls : ℕ
  pub faults : ℕ

-- a sink in memory as clauses see it: what it got, the numbers of the puts that fail, how often
-- something was put, and how often that failed
pub record MemSinkValue : Type 0 where
  pub got : List ℕ
  pub fail : List ℕ
  pub calls : ℕ
  pub faults : ℕ
