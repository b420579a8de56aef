-- The names of the sections: those of .rela.text, .rela.rodata and .rela.data are there where the
-- sections are, which have entries.
use Rattle.std.specs.Prelude.{ℕ, ◌+◌, ◌==◌, List, [], ◌∷◌, ◌++◌, codes, length, if◌then◌else◌}
use Rattle.elf_write.specs.declared.layout.Sizes.{Sizes}
use Rattle.elf_write.specs.declared.names.NamePlaces.{NamePlaces}

-- how many of three sections have entries
abbrev pub table_count : Sizes → ℕ
table_count s =
    (if s.text_relas == 0 then 0 else 1)
    + (if s.rodata_relas == 0 then 0 else 1)
    + (if s.rwdata_relas == 0 then 0 else 1)

-- the name of a section with so many entries, and its zero byte
abbrev pub name_if : ℕ → List ℕ → List ℕ
name_if count name = if count == 0 then [] else name ++ 0 ∷ []

-- the names of the sections of relocations
abbrev pub rela_names : Sizes → List ℕ
rela_names s =
    name_if s.text_relas (codes ".rela.text")
    ++ name_if s.rodata_relas (codes ".rela.rodata")
    ++ name_if s.rwdata_relas (codes ".rela.data")

-- .shstrtab: a zero byte, and the name of each section with its zero byte
abbrev pub section_names : Sizes → List ℕ
section_names s =
    (0 ∷ codes ".text" ++ 0 ∷ codes ".rodata" ++ 0 ∷ codes ".data" ++ 0 ∷ codes ".bss" ++ 0 ∷ [])
    ++ rela_names s
    ++ (codes ".symtab" ++ 0 ∷ codes ".strtab" ++ 0 ∷ codes ".shstrtab" ++ 0 ∷ [])

-- where the names of .rela.rodata, .rela.data and .symtab stand there; that of .rela.text at 26
abbrev pub name_places : Sizes → NamePlaces
name_places s =
    let rodata = 26 + length (name_if s.text_relas (codes ".rela.text")) in
    let rwdata = rodata + length (name_if s.rodata_relas (codes ".rela.rodata")) in
    record {
      rodata = rodata;
      rwdata = rwdata;
      symtab = rwdata + length (name_if s.rwdata_relas (codes ".rela.data"));
    }
