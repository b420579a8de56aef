-- What bytes mean.
use Rattle.std.proofs.Common.{◌≡◌, ◌∙◌, ℕ, List, Some, None, Ok, Err, ap, refl}
use Rattle.elf_read.specs.declared.elf.Kind.{Kind}
use Rattle.elf_read.specs.declared.elf.Kind.TheVariants.{Rel}
use Rattle.elf_read.specs.declared.fault.ElfFault.TheVariants as elf
use Rattle.elf_read.specs.declared.records.Segment.{Segment}
use Rattle.elf_read.specs.declared.records.Section.{Section}
use Rattle.elf_read.specs.declared.records.Symbol.{Symbol}
use Rattle.elf_read.specs.Elf.{ElfValue, IsElf}
use Rattle.elf_read.specs.Records.{header_of, relas_of, sections_of, segments_of, symbol_table, symbols_of}
use Rattle.elf_read.specs.Relas.{RelaGroupValue}
use Rattle.elf_read.specs.Rules.{first_fault}
use Rattle.patch_file.specs.Patches.{PatchValue}
use Rattle.patch_file.specs.Reading.{patch_of}
use Rattle.wf_outside.specs.declared.rules.ElfRule.{ElfRule}
use Rattle.wf_status.specs.declared.patches.PatchWhy.TheVariants as why
use Rattle.wf_status.specs.declared.status.Status.TheVariants.{Patch}
use Rattle.wf_patches.specs.Stages.{file_in, object_in, object_of}

made : Kind → List ℕ → ℕ → List Segment → List Section → List Symbol → List RelaGroupValue → ElfValue
made kind bytes entry segments sections symbols relas =
    record { kind = kind; bytes = bytes; entry = entry; segments = segments; sections = sections; symbols = symbols; relas = relas }

-- what stands in the bytes of an object is one thing
object_is : (bytes : List ℕ) (object : ElfValue) → IsElf Rel bytes object → object ≡ object_of bytes
unfolding object_of made
object_is bytes object h =
    let told : object.kind ≡ Rel = h.told in
    let whole : object.bytes ≡ bytes = h.whole in
    let entry : object.entry ≡ (header_of bytes).e_entry = h.entry in
    let segments : object.segments ≡ segments_of bytes (header_of bytes) = h.segments in
    let sections : object.sections ≡ sections_of bytes (header_of bytes) = h.sections in
    let symbols : object.symbols ≡ symbols_of bytes (symbol_table (sections_of bytes (header_of bytes))) =
    h.symbols ∙ ap (λ (s : List Section). symbols_of bytes (symbol_table s)) sections in
    let relas : object.relas ≡ relas_of Rel bytes (sections_of bytes (header_of bytes)) =
    h.relas ∙ ap (λ (s : List Section). relas_of Rel bytes s) sections in
    let e : made object.kind object.bytes object.entry object.segments object.sections object.symbols object.relas
    ≡ made Rel bytes (header_of bytes).e_entry (segments_of bytes (header_of bytes)) (sections_of bytes (header_of bytes))
    (symbols_of bytes (symbol_table (sections_of bytes (header_of bytes)))) (relas_of Rel bytes (sections_of bytes (header_of bytes))) = cc in
    e

pub object_ok : (patch : ℕ) (bytes : List ℕ) (object : ElfValue) → IsElf Rel bytes object → first_fault Rel bytes ≡ None → object_in patch bytes ≡ Ok object
unfolding object_in
object_ok patch bytes object is none = rw (none, object_is bytes object is) refl

pub object_bad : (patch : ℕ) (bytes : List ℕ) (rule : ElfRule) (at : ℕ) → first_fault Rel bytes ≡ Some (elf.Rule rule at)
    → object_in patch bytes ≡ Err (Patch patch (why.Elf rule at))
unfolding object_in
object_bad patch bytes rule at is = rw is refl

pub file_ok : (patch : ℕ) (bytes : List ℕ) (file : PatchValue) → patch_of bytes ≡ Ok file → file_in patch bytes ≡ Ok file
unfolding file_in
file_ok patch bytes file is = rw is refl

pub file_bad : (patch : ℕ) (bytes : List ℕ) (line : ℕ) → patch_of bytes ≡ Err line → file_in patch bytes ≡ Err (Patch patch (why.Text line))
unfolding file_in
file_bad patch bytes line is = rw is refl
