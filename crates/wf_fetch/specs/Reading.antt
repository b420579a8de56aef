-- Why bytes are no image.
use Rattle.std.specs.Prelude.{◌≡◌, ℕ, List, Some}
use Rattle.elf_read.specs.declared.elf.Kind.TheVariants.{Exec}
use Rattle.elf_read.specs.Rules.{first_fault}
use Rattle.wf_fetch.specs.declared.reading.ImageFault.{ImageFault}
use Rattle.wf_fetch.specs.declared.reading.ImageFault.TheVariants.{Rule, Memory}
use Rattle.wf_fetch.specs.Loaded.{file_rule, image_fault}

-- the fault is the first rule of the file format that is broken, or want of memory
abbrev pub IsFileFault : List ℕ → ImageFault → Type 0
IsFileFault bytes (Rule rule at) = file_rule (first_fault Exec bytes) ≡ Some (rule, at)
IsFileFault bytes Memory = Unit {0}

-- the fault is the first rule that is broken, or want of memory
abbrev pub IsImageFault : List ℕ → ImageFault → Type 0
IsImageFault bytes (Rule rule at) = image_fault bytes ≡ Some (rule, at)
IsImageFault bytes Memory = Unit {0}
