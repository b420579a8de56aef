-- The image that stands in bytes, or the first rule that they break: of the file format, else of
-- loading.
use Rattle.std.specs.Prelude.{◌≡◌, ℕ, List, Option, Some, None}
use Rattle.std.specs.Option.{option_or}
use Rattle.wf_outside.specs.Images.{ImageValue}
use Rattle.wf_status.specs.declared.rules.ImageRule.{ImageRule}
use Rattle.wf_status.specs.Rules.{of_file, of_loading}
use Rattle.elf_read.specs.declared.elf.Kind.TheVariants.{Exec}
use Rattle.elf_read.specs.declared.fault.ElfFault.{ElfFault}
use Rattle.elf_read.specs.declared.fault.ElfFault.TheVariants as elf
use Rattle.elf_read.specs.Records.{header_of, segments_of, sections_of, symbol_table, symbols_of, relas_of}
use Rattle.elf_read.specs.Elf.{ElfValue}
use Rattle.elf_read.specs.Rules.{first_fault}
use Rattle.elf_load.specs.declared.fault.LoadFault.{LoadFault}
use Rattle.elf_load.specs.declared.fault.LoadFault.TheVariants as load
use Rattle.elf_load.specs.Loaded.{image_of}
use Rattle.elf_load.specs.Rules.{fault_of}
use Rattle.wf_fetch.specs.Held.{HoldsBytes}

-- what stands in the bytes of an executable file
unfoldable pub elf_of : List ℕ → ElfValue
elf_of bytes = record {
  kind = Exec;
  bytes = bytes;
  entry = (header_of bytes).e_entry;
  segments = segments_of bytes (header_of bytes);
  sections = sections_of bytes (header_of bytes);
  symbols = symbols_of bytes (symbol_table (sections_of bytes (header_of bytes)));
  relas = relas_of Exec bytes (sections_of bytes (header_of bytes));
}

-- a rule of the file format that is broken, and its place
abbrev pub file_rule : Option ElfFault → Option (ImageRule × ℕ)
file_rule (Some (elf.Rule rule at)) = Some (of_file rule, at)
file_rule (Some elf.Memory) = None
file_rule None = None

-- a rule of loading that is broken, and its place
abbrev pub load_rule : Option LoadFault → Option (ImageRule × ℕ)
load_rule (Some (load.Rule rule at)) = Some (of_loading rule, at)
load_rule (Some load.Memory) = None
load_rule None = None

-- the first rule that the bytes break, and its place
unfoldable pub image_fault : List ℕ → Option (ImageRule × ℕ)
image_fault bytes =
    option_or (file_rule (first_fault Exec bytes)) (load_rule (fault_of (elf_of bytes)))

-- an image, where there is no fault
abbrev pub unless_fault : Option (ImageRule × ℕ) → ImageValue → Option ImageValue
unless_fault None image = Some image
unless_fault (Some fault) image = None

-- what is loaded of bytes that break no rule
unfoldable pub loaded : List ℕ → Option ImageValue
loaded bytes = unless_fault (image_fault bytes) (image_of (elf_of bytes))

-- an image is held
pub record HoldsImage (held : Option (List ℕ)) : Type 0 where
  pub image : ImageValue
  pub is : HoldsBytes held (λ bytes. loaded bytes ≡ Some image)
