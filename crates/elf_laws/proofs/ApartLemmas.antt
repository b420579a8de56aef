-- No two modules have one file.
use Rattle.std.proofs.Common.{◌≡◌, ◌+◌, ◌*◌, ◌^◌, ◌++◌, ◌==◌, ℕ, ℤ, List, [], ◌∷◌, Bool, true, false, cond, length, map, drop, get_or, refl, sym, ap, subst, ◌∙◌, arith}
use Rattle.std.proofs.lemmas.Bool.Decides.{nat_tests}
use Rattle.std.proofs.lemmas.Grind.{flat_map-append}
use Rattle.std.proofs.lemmas.List.{append-nil, map-append}
use Rattle.std.proofs.lemmas.List.Elements.{recursion_from_All}
use Rattle.std.specs.List.{flat_map, AllByRecursion}
use Rattle.elf_read.specs.declared.records.Symbol.{Symbol}
use Rattle.elf_read.specs.declared.header.Header.{Header}
use Rattle.elf_read.specs.declared.records.Rela.{Rela}
use Rattle.elf_read.specs.Elf.{ElfValue}
use Rattle.elf_read.specs.Records.{header_of}
use Rattle.elf_read.specs.Relas.{RelaGroupValue}
use Rattle.elf_write.specs.declared.module.Form.{Form}
use Rattle.elf_write.specs.declared.module.Form.TheVariants.{Exec, Object}
use Rattle.elf_write.specs.declared.module.ModRela.{ModRela}
use Rattle.elf_write.specs.declared.module.ModSymbol.{ModSymbol}
use Rattle.elf_write.specs.Modules.{ModuleValue}
use Rattle.elf_write.specs.Layout.{present}
use Rattle.elf_write.specs.Parts.{info_of, name_bytes, relas_for, AreBySection}
use Rattle.elf_write.specs.Written.{type_of, written, IsWritable}
use Rattle.elf_laws.specs.Laws.{group_with, groups_in, header_in, kind_of, null_symbol, rela_with, symbol_with, symbols_in, symbols_with, FilesAreApart, HoldsModule, IsSized, IsSizedRela}
use Rattle.elf_laws.proofs.HoldsLemmas.{module_holds, read_of}

-- a symbol by its fields
abbrev symbol_by : List ℕ → ℕ → ℕ → ℕ → Bool → ModSymbol
symbol_by name section value size global = record { name = name; section = section; value = value; size = size; global = global }

same_symbol : (x y : ModSymbol) → x.name ≡ y.name → x.section ≡ y.section → x.value ≡ y.value → x.size ≡ y.size → x.global ≡ y.global → x ≡ y
same_symbol x y n h v s g =
    let same : symbol_by x.name x.section x.value x.size x.global ≡ symbol_by y.name y.section y.value y.size y.global = rw (n, h, v, s, g) refl in
    same

same_binding : (a b : Bool) → info_of a ≡ info_of b → a ≡ b
same_binding true true e = refl
same_binding true false e = cc
same_binding false true e = cc
same_binding false false e = refl

-- symbols that are told alike, and have the same names
same_symbols : (i j : ℕ) (xs ys : List ModSymbol) → symbols_with i xs ≡ symbols_with j ys → map (λ s. s.name) xs ≡ map (λ s. s.name) ys → xs ≡ ys
same_symbols i j [] [] e n = refl
same_symbols i j [] (y ∷ ys) e n = cc
same_symbols i j (x ∷ xs) [] e n = cc
same_symbols i j (x ∷ xs) (y ∷ ys) e n =
    let first : symbol_with i x ≡ symbol_with j y = ap (λ (l : List Symbol). get_or l 0 (null_symbol 0)) e in
    let name : x.name ≡ y.name = ap (λ (l : List (List ℕ)). get_or l 0 []) n in
    let same = same_symbol x y name (ap (λ (s : Symbol). s.st_shndx) first) (ap (λ (s : Symbol). s.st_value) first) (ap (λ (s : Symbol). s.st_size) first) (same_binding x.global y.global (ap (λ (s : Symbol). s.st_info) first)) in
    let rest = same_symbols (i + length (name_bytes x)) (j + length (name_bytes y)) xs ys (ap (drop 1) e) (ap (drop 1) n) in
    ap (λ (s : ModSymbol). s ∷ xs) same ∙ ap (λ (l : List ModSymbol). y ∷ l) rest

same_form : (a b : Form) → type_of a ≡ type_of b → a ≡ b
unfolding type_of
same_form Exec Exec e = refl
same_form Exec Object e = cc
same_form Object Exec e = cc
same_form Object Object e = refl

-- a relocation with its section
abbrev told : ModRela → ℕ × Rela
told r = (r.section, rela_with r)

-- the relocations in groups, each with the section that it changes
abbrev told_group : RelaGroupValue → List (ℕ × Rela)
told_group g = map (λ (r : Rela). (g.target, r)) g.relas

-- those of a section are told alike by their group and one by one
told_for : (section : ℕ) (relas : List ModRela) → AllByRecursion (λ r. r.section ≡ section) relas → map (λ (r : Rela). (section, r)) (map rela_with relas) ≡ map told relas
told_for section [] h = refl
told_for section (r ∷ rs) h = rw (h.0, told_for section rs h.1) refl

of_section : (section : ℕ) (relas : List ModRela) → AllByRecursion (λ r. r.section ≡ section) (relas_for section relas)
of_section section [] = tt
of_section section (r ∷ rs) = by_test (r.section == section) refl (of_section section rs)
  where
    by_test : (b : Bool) → (r.section == section) ≡ b → AllByRecursion (λ r. r.section ≡ section) (relas_for section rs) → AllByRecursion (λ r. r.section ≡ section) (cond b (r ∷ relas_for section rs) (relas_for section rs))
    by_test true e rest = (grind (arith, nat_tests), rest)
    by_test false e rest = rest

one_group : (i section : ℕ) (relas : List ModRela) → AllByRecursion (λ r. r.section ≡ section) relas → flat_map told_group (group_with i section relas) ≡ map told relas
one_group i section [] h = refl
one_group i section (r ∷ rs) h =
    let some : (length (r ∷ rs) == 0) ≡ false = grind (arith, nat_tests) in
    rw some (append-nil (map (λ (x : Rela). (section, x)) (map rela_with (r ∷ rs))) ∙ told_for section (r ∷ rs) h)

-- all groups tell all relocations
groups_tell : (relas : List ModRela) → AreBySection relas → flat_map told_group (groups_in relas) ≡ map told relas
groups_tell relas b =
    let text = relas_for 1 relas in
    let rodata = relas_for 2 relas in
    let rwdata = relas_for 3 relas in
    let second = 5 + present (length text) in
    let third = second + present (length rodata) in
    flat_map-append told_group (group_with 5 1 text ++ group_with second 2 rodata) (group_with third 3 rwdata)
    ∙ ap (λ (l : List (ℕ × Rela)). l ++ flat_map told_group (group_with third 3 rwdata)) (flat_map-append told_group (group_with 5 1 text) (group_with second 2 rodata))
    ∙ rw (one_group 5 1 text (of_section 1 relas), one_group second 2 rodata (of_section 2 relas), one_group third 3 rwdata (of_section 3 relas)) refl
    ∙ sym (ap (map told) b ∙ map-append told (text ++ rodata) rwdata ∙ ap (λ (l : List (ℕ × Rela)). l ++ map told rwdata) (map-append told text rodata))

-- a relocation by its fields
abbrev rela_by : ℕ → ℕ → ℕ → ℕ → ℤ → ModRela
rela_by section offset kind symbol addend = record { section = section; offset = offset; kind = kind; symbol = symbol; addend = addend }

same_rela : (x y : ModRela) → IsSizedRela x → IsSizedRela y → told x ≡ told y → x ≡ y
same_rela x y a b e =
    let section : x.section ≡ y.section = ap (λ (t : ℕ × Rela). t.0) e in
    let offset : x.offset ≡ y.offset = ap (λ (t : ℕ × Rela). t.1.r_offset) e in
    let addend : x.addend ≡ y.addend = ap (λ (t : ℕ × Rela). t.1.r_addend) e in
    let info : (x.symbol + 1) * 2 ^ 32 + x.kind ≡ (y.symbol + 1) * 2 ^ 32 + y.kind = ap (λ (t : ℕ × Rela). t.1.r_info) e in
    let symbol : x.symbol ≡ y.symbol = omega (arith, info, a.kind, b.kind) in
    let kind : x.kind ≡ y.kind = omega (arith, info, symbol) in
    let same : rela_by x.section x.offset x.kind x.symbol x.addend ≡ rela_by y.section y.offset y.kind y.symbol y.addend = rw (section, offset, kind, symbol, addend) refl in
    same

same_relas : (xs ys : List ModRela) → AllByRecursion IsSizedRela xs → AllByRecursion IsSizedRela ys → map told xs ≡ map told ys → xs ≡ ys
same_relas [] [] a b e = refl
same_relas [] (y ∷ ys) a b e = cc
same_relas (x ∷ xs) [] a b e = cc
same_relas (x ∷ xs) (y ∷ ys) a b e =
    let first : told x ≡ told y = ap (λ (l : List (ℕ × Rela)). get_or l 0 (told x)) e in
    ap (λ (r : ModRela). r ∷ xs) (same_rela x y a.0 b.0 first) ∙ ap (λ (l : List ModRela). y ∷ l) (same_relas xs ys a.1 b.1 (ap (drop 1) e))

-- a module by its parts
abbrev module_by : Form → ℕ → List ℕ → List ℕ → List ℕ → ℕ → List ModSymbol → List ModRela → ModuleValue
module_by form entry text rodata rwdata bss symbols relas = record { form = form; entry = entry; text = text; rodata = rodata; rwdata = rwdata; bss = bss; symbols = symbols; relas = relas }

-- two modules whose relocations are told alike
relas_agree : (m n : ModuleValue) → IsWritable m → IsSized m → IsWritable n → IsSized n → groups_in m.relas ≡ groups_in n.relas → m.relas ≡ n.relas
relas_agree m n wm zm wn zn e =
    same_relas m.relas n.relas (recursion_from_All IsSizedRela m.relas zm.relas) (recursion_from_All IsSizedRela n.relas zn.relas)
    (sym (groups_tell m.relas wm.by_section) ∙ ap (flat_map told_group) e ∙ groups_tell n.relas wn.by_section)

-- two modules that stand in one file
one_module : (m n : ModuleValue) (elf : ElfValue) → HoldsModule m elf → HoldsModule n elf → m.form ≡ n.form → m.relas ≡ n.relas → m ≡ n
one_module m n elf a b form relas =
    let told : symbols_in m ≡ symbols_in n = sym a.symbols ∙ b.symbols in
    let named : ([] ∷ map (λ s. s.name) m.symbols) ≡ [] ∷ map (λ s. s.name) n.symbols = sym a.names ∙ b.names in
    let symbols = same_symbols _ _ m.symbols n.symbols (ap (drop 1) told) (ap (drop 1) named) in
    let same : module_by m.form m.entry m.text m.rodata m.rwdata m.bss m.symbols m.relas ≡ module_by n.form n.entry n.text n.rodata n.rwdata n.bss n.symbols n.relas =
    rw (form, sym a.entry ∙ b.entry, sym a.text ∙ b.text, sym a.rodata ∙ b.rodata, sym a.rwdata ∙ b.rwdata, sym a.bss ∙ b.bss, symbols, relas) refl in
    same

-- two files that are one are of one form
form_agrees : (m n : ModuleValue) → IsWritable m → IsSized m → IsWritable n → IsSized n → written m ≡ written n → m.form ≡ n.form
form_agrees m n wm zm wn zn e =
    let headers : header_in m ≡ header_in n = sym (module_holds m wm zm).header ∙ ap header_of e ∙ (module_holds n wn zn).header in
    same_form m.form n.form (ap (λ (h : Header). h.e_type) headers)

pub files_are_apart : FilesAreApart
files_are_apart m n wm zm wn zn e =
    let form = form_agrees m n wm zm wn zn e in
    let one = module_holds m wm zm in
    let read : read_of (kind_of n.form) (written n) ≡ read_of (kind_of m.form) (written m) =
    ap (λ (k : Form). read_of (kind_of k) (written n)) (sym form) ∙ ap (λ (file : List ℕ). read_of (kind_of m.form) file) (sym e) in
    let two = subst (HoldsModule n) read (module_holds n wn zn) in
    one_module m n (read_of (kind_of m.form) (written m)) one two form (relas_agree m n wm zm wn zn (sym one.relas ∙ two.relas))
