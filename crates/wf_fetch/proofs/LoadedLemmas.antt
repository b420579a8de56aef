-- What is read and loaded of bytes, step by step.
use Rattle.std.proofs.Common.{◌≡◌, ◌∙◌, ℕ, List, [], Some, None, ap, refl, sym}
use Rattle.wf_outside.specs.Images.{ImageValue}
use Rattle.wf_outside.specs.declared.rules.LoadRule.{LoadRule}
use Rattle.wf_status.specs.Rules.{of_loading}
use Rattle.elf_read.specs.declared.elf.Kind.{Kind}
use Rattle.elf_read.specs.declared.elf.Kind.TheVariants.{Exec}
use Rattle.elf_read.specs.declared.records.Segment.{Segment}
use Rattle.elf_read.specs.declared.records.Section.{Section}
use Rattle.elf_read.specs.declared.records.Symbol.{Symbol}
use Rattle.elf_read.specs.Records.{header_of, segments_of, sections_of, symbol_table, symbols_of}
use Rattle.elf_read.specs.Elf.{ElfValue, IsElf}
use Rattle.elf_read.specs.Relas.{RelaGroupValue}
use Rattle.elf_read.specs.Rules.{first_fault}
use Rattle.elf_load.specs.declared.fault.LoadFault.TheVariants as load
use Rattle.elf_load.specs.Loaded.{image_of}
use Rattle.elf_load.specs.Rules.{fault_of}
use Rattle.wf_fetch.specs.declared.reading.ImageFault.{ImageFault}
use Rattle.wf_fetch.specs.declared.reading.ImageFault.TheVariants.{Rule, Memory}
use Rattle.wf_fetch.specs.Loaded.{elf_of, image_fault, loaded}
use Rattle.wf_fetch.specs.Reading.{IsFileFault, IsImageFault}

made : Kind → List ℕ → ℕ → List Segment → List Section → List Symbol → List RelaGroupValue → ElfValue
made kind bytes entry segments sections symbols relas =
    record { kind = kind; bytes = bytes; entry = entry; segments = segments; sections = sections; symbols = symbols; relas = relas }

-- what stands in bytes is one thing
pub elf_is : (bytes : List ℕ) (elf : ElfValue) → IsElf Exec bytes elf → elf ≡ elf_of bytes
unfolding elf_of made
elf_is bytes elf h =
    let told : elf.kind ≡ Exec = h.told in
    let relas : elf.relas ≡ [] = h.relas in
    let whole : elf.bytes ≡ bytes = h.whole in
    let entry : elf.entry ≡ (header_of bytes).e_entry = h.entry in
    let segments : elf.segments ≡ segments_of bytes (header_of bytes) = h.segments in
    let sections : elf.sections ≡ sections_of bytes (header_of bytes) = h.sections in
    let symbols : elf.symbols ≡ symbols_of bytes (symbol_table (sections_of bytes (header_of bytes))) =
    h.symbols ∙ ap (λ (s : List Section). symbols_of bytes (symbol_table s)) sections in
    let e : made elf.kind elf.bytes elf.entry elf.segments elf.sections elf.symbols elf.relas
    ≡ made Exec bytes (header_of bytes).e_entry (segments_of bytes (header_of bytes)) (sections_of bytes (header_of bytes))
    (symbols_of bytes (symbol_table (sections_of bytes (header_of bytes)))) [] = cc in
    e

-- a rule of the file format that is broken comes first
pub file_fault : (bytes : List ℕ) (fault : ImageFault) → IsFileFault bytes fault → IsImageFault bytes fault
unfolding image_fault
file_fault bytes (Rule rule at) h = rw h refl
file_fault bytes Memory h = tt

-- a rule of loading that is broken, where none of the file format is
pub load_fault : (bytes : List ℕ) (elf : ElfValue) (rule : LoadRule) (at : ℕ) → first_fault Exec bytes ≡ None → elf ≡ elf_of bytes
    → fault_of elf ≡ Some (load.Rule rule at) → image_fault bytes ≡ Some (of_loading rule, at)
unfolding image_fault
load_fault bytes elf rule at none is h = rw (none, sym is, h) refl

-- what is loaded where no rule is broken
pub loaded_is : (bytes : List ℕ) (elf : ElfValue) (image : ImageValue) → first_fault Exec bytes ≡ None → elf ≡ elf_of bytes
    → fault_of elf ≡ None → image ≡ image_of elf → loaded bytes ≡ Some image
unfolding image_fault loaded
loaded_is bytes elf image none is passed e = rw (none, sym is, passed, e) refl
