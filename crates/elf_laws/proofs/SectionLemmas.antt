-- The sections of a module's file: those of the program, those of relocations, and the tables.
use Rattle.std.proofs.Common.{◌≡◌, ◌+◌, ◌*◌, ◌/◌, ◌++◌, ◌==◌, ℕ, suc, List, [], ◌∷◌, Bool, true, false, length, get_or, map, if◌then◌else◌, Option, Some, None, refl, sym, ap, ◌∙◌, add-zero, zero-add, arith}
use Rattle.std.proofs.lemmas.Grind.{flat_map-append}
use Rattle.std.proofs.lemmas.List.{append-nil, length-append}
use Rattle.std.proofs.lemmas.List.Folds.{find-append}
use Rattle.std.specs.Prelude.{find, slice_get}
use Rattle.std.specs.List.{enumerate_from, flat_map, position_or_len, AllByRecursion}
use Rattle.std.specs.Option.{option_or}
use Rattle.elf_read.specs.declared.records.Rela.{Rela}
use Rattle.elf_read.specs.declared.records.Section.{Section}
use Rattle.elf_read.specs.declared.constants.TheConstants.{RELAENTSIZE}
use Rattle.elf_read.specs.Records.{group_of, is_rela, is_symtab, rela_at, relas_in, table}
use Rattle.elf_read.specs.Relas.{RelaGroupValue}
use Rattle.elf_write.specs.declared.layout.Plan.{Plan}
use Rattle.elf_write.specs.declared.module.ModRela.{ModRela}
use Rattle.elf_write.specs.Layout.{present}
use Rattle.elf_write.specs.Names.{name_places, table_count}
use Rattle.elf_write.specs.Parts.{relas_for}
use Rattle.elf_write.specs.Places.{if_any}
use Rattle.elf_write.specs.Records.{program_sections, rela_section, rela_sections, symtab_section, table_sections}
use Rattle.elf_write.specs.Written.{sections_in}
use Rattle.elf_laws.specs.Laws.{group_with, groups_in, rela_with}
use Rattle.elf_laws.proofs.FileLemmas.{count_tables}
use Rattle.elf_laws.proofs.PlanLemmas.{both_hold, length-any, relas_hold, rodata_table, rwdata_table, text_table}

-- an element behind a list
pub get_behind : {X : Type 0} (xs ys : List X) (j : ℕ) (d : X) → get_or (xs ++ ys) (length xs + j) d ≡ get_or ys j d
get_behind [] ys j d = ap (λ (k : ℕ). get_or ys k d) (zero-add j)
get_behind (x ∷ xs) ys j d =
    let next : suc (length xs) + j ≡ suc (length xs + j) = omega arith in
    ap (λ (k : ℕ). get_or (x ∷ (xs ++ ys)) k d) next ∙ get_behind xs ys j d

pub slice_behind : {X : Type 0} (xs ys : List X) (j : ℕ) → slice_get (xs ++ ys) (length xs + j) ≡ slice_get ys j
slice_behind [] ys j = ap (slice_get ys) (zero-add j)
slice_behind (x ∷ xs) ys j =
    let next : suc (length xs) + j ≡ suc (length xs + j) = omega arith in
    ap (slice_get (x ∷ (xs ++ ys))) next ∙ slice_behind xs ys j

-- the first that passes is behind those that fail
pub position_behind : {X : Type 0} (p : X → Bool) (xs ys : List X) → AllByRecursion (λ x. p x ≡ false) xs → position_or_len p (xs ++ ys) ≡ length xs + position_or_len p ys
position_behind p [] ys h = sym (zero-add (position_or_len p ys))
position_behind p (x ∷ xs) ys h = rw (h.0, position_behind p xs ys h.1) (omega arith)

pub none_found : {X : Type 0} (p : X → Bool) (xs : List X) → AllByRecursion (λ x. p x ≡ false) xs → find p xs ≡ None
none_found p [] h = refl
none_found p (x ∷ xs) h = rw h.0 (none_found p xs h.1)

-- numbered lists, one behind the other
pub enumerate-append : {X : Type 0} (n : ℕ) (xs ys : List X) → enumerate_from n (xs ++ ys) ≡ enumerate_from n xs ++ enumerate_from (n + length xs) ys
enumerate-append n [] ys = ap (λ (k : ℕ). enumerate_from k ys) (sym (add-zero n))
enumerate-append {X} n (x ∷ xs) ys =
    let next : n + 1 + length xs ≡ n + suc (length xs) = omega arith in
    ap (λ (l : List (ℕ × X)). (n, x) ∷ l) (enumerate-append (n + 1) xs ys ∙ ap (λ (k : ℕ). enumerate_from (n + 1) xs ++ enumerate_from k ys) next)

-- what holds of elements with whatever number
pub all_numbered : {X : Type 0} (P : ℕ × X → Type 0) (n : ℕ) (xs : List X) → AllByRecursion (λ x. (i : ℕ) → P (i, x)) xs → AllByRecursion P (enumerate_from n xs)
all_numbered P n [] h = tt
all_numbered P n (x ∷ xs) h = (h.0 n, all_numbered P (n + 1) xs h.1)

-- the sections in front of the tables
abbrev pub front_sections : Plan → List Section
front_sections p = program_sections p.sizes p.layout p.bases ++ rela_sections p.sizes p.layout

pub count_front : (p : Plan) → length (front_sections p) ≡ 5 + table_count p.sizes
unfolding program_sections
count_front p = omega (arith, length-append (program_sections p.sizes p.layout p.bases) (rela_sections p.sizes p.layout), count_tables p)

-- none of them is a symbol table
pub not_symtab : (p : Plan) → AllByRecursion (λ s. is_symtab s ≡ false) (front_sections p)
unfolding program_sections
not_symtab p =
    both_hold (λ s. is_symtab s ≡ false) (program_sections p.sizes p.layout p.bases) (rela_sections p.sizes p.layout)
    (refl, (refl, (refl, (refl, (refl, tt)))))
    (relas_hold (λ s. is_symtab s ≡ false) p.sizes p.layout refl refl refl)

-- the symbol table of a module's file
abbrev pub symtab_in : Plan → ℕ → Section
symtab_in p n = symtab_section (table_count p.sizes) (name_places p.sizes).symtab p.layout.symtab (24 * (p.sizes.symbols + 1)) n

pub symtab_found : (p : Plan) (n : ℕ) → find is_symtab (sections_in p n) ≡ Some (symtab_in p n)
unfolding table_sections
symtab_found p n =
    find-append is_symtab (front_sections p) (table_sections p.sizes p.layout n)
    ∙ ap (λ (o : Option Section). option_or o (find is_symtab (table_sections p.sizes p.layout n))) (none_found is_symtab (front_sections p) (not_symtab p))

pub symtab_at : (p : Plan) (n : ℕ) → position_or_len is_symtab (sections_in p n) ≡ 5 + table_count p.sizes
unfolding table_sections
symtab_at p n =
    position_behind is_symtab (front_sections p) (table_sections p.sizes p.layout n) (not_symtab p) ∙ omega (arith, count_front p)

-- a section among the tables
pub at_table : (p : Plan) (n j : ℕ) → slice_get (sections_in p n) (5 + table_count p.sizes + j) ≡ slice_get (table_sections p.sizes p.layout n) j
at_table p n j =
    ap (λ (k : ℕ). slice_get (sections_in p n) (k + j)) (sym (count_front p)) ∙ slice_behind (front_sections p) (table_sections p.sizes p.layout n) j

-- the groups of sections that are none of relocations
no_groups : (file : List ℕ) (n : ℕ) (sections : List Section) → AllByRecursion (λ s. is_rela s ≡ false) sections → flat_map (group_of file) (enumerate_from n sections) ≡ []
no_groups file n [] h = refl
no_groups file n (s ∷ ss) h = rw (h.0, no_groups file (n + 1) ss h.1) refl

-- that of a section of relocations, if it is there
one_group : (file : List ℕ) (i tables name at count target : ℕ) (relas : List ModRela) → count ≡ length relas → table (rela_at file) at RELAENTSIZE (24 * count / RELAENTSIZE) ≡ map rela_with relas
    → flat_map (group_of file) (enumerate_from i (if_any count (rela_section tables name at count target))) ≡ group_with i target relas
one_group file i tables name at count target relas e read =
    by_test (count == 0) ∙ ap (λ (k : ℕ). if_any k (record { section = i; target = target; relas = map rela_with relas })) e
  where
    by_test : (b : Bool) → flat_map (group_of file) (enumerate_from i (if b then [] else (rela_section tables name at count target ∷ []))) ≡ (if b then [] else (record { section = i; target = target; relas = map rela_with relas } ∷ []))
    by_test true = refl
    by_test false = ap (λ (rs : List Rela). record { section = i; target = target; relas = rs } ∷ []) read

-- the relocations of a module in its file
pub record AreRelasRead (p : Plan) (relas : List ModRela) (file : List ℕ) : Type 0 where
  pub text_count : p.sizes.text_relas ≡ length (relas_for 1 relas)
  pub rodata_count : p.sizes.rodata_relas ≡ length (relas_for 2 relas)
  pub rwdata_count : p.sizes.rwdata_relas ≡ length (relas_for 3 relas)
  pub text : relas_in file (text_table p.sizes p.layout) ≡ map rela_with (relas_for 1 relas)
  pub rodata : relas_in file (rodata_table p.sizes p.layout) ≡ map rela_with (relas_for 2 relas)
  pub rwdata : relas_in file (rwdata_table p.sizes p.layout) ≡ map rela_with (relas_for 3 relas)

table_groups : (p : Plan) (relas : List ModRela) (file : List ℕ) → AreRelasRead p relas file → flat_map (group_of file) (enumerate_from 5 (rela_sections p.sizes p.layout)) ≡ groups_in relas
unfolding rela_sections
table_groups p relas file r =
    let s = p.sizes in
    let l = p.layout in
    let groups = flat_map (group_of file) in
    let text = if_any s.text_relas (text_table s l) in
    let rodata = if_any s.rodata_relas (rodata_table s l) in
    let rwdata = if_any s.rwdata_relas (rwdata_table s l) in
    let second : 5 + length text ≡ 5 + present (length (relas_for 1 relas)) = ap (λ (k : ℕ). 5 + k) (length-any s.text_relas (text_table s l) ∙ ap present r.text_count) in
    let third : 5 + length (text ++ rodata) ≡ 5 + present (length (relas_for 1 relas)) + present (length (relas_for 2 relas)) =
    let more : length rodata ≡ present (length (relas_for 2 relas)) = length-any s.rodata_relas (rodata_table s l) ∙ ap present r.rodata_count in
    omega (arith, length-append text rodata, second, more) in
    let split : enumerate_from 5 (text ++ rodata ++ rwdata) ≡ enumerate_from 5 text ++ enumerate_from (5 + length text) rodata ++ enumerate_from (5 + length (text ++ rodata)) rwdata =
    enumerate-append 5 (text ++ rodata) rwdata ∙ ap (λ (l : List (ℕ × Section)). l ++ enumerate_from (5 + length (text ++ rodata)) rwdata) (enumerate-append 5 text rodata) in
    let one = one_group file 5 (table_count s) 26 l.relas s.text_relas 1 (relas_for 1 relas) r.text_count r.text in
    let two = one_group file (5 + length text) (table_count s) (name_places s).rodata (l.relas + 24 * s.text_relas) s.rodata_relas 2 (relas_for 2 relas) r.rodata_count r.rodata in
    let three = one_group file (5 + length (text ++ rodata)) (table_count s) (name_places s).rwdata (l.relas + 24 * s.text_relas + 24 * s.rodata_relas) s.rwdata_relas 3 (relas_for 3 relas) r.rwdata_count r.rwdata in
    ap groups split
    ∙ flat_map-append (group_of file) (enumerate_from 5 text ++ enumerate_from (5 + length text) rodata) (enumerate_from (5 + length (text ++ rodata)) rwdata)
    ∙ ap (λ (g : List RelaGroupValue). g ++ groups (enumerate_from (5 + length (text ++ rodata)) rwdata)) (flat_map-append (group_of file) (enumerate_from 5 text) (enumerate_from (5 + length text) rodata))
    ∙ rw (one, two, three) refl
    ∙ ap (λ (k : ℕ). group_with 5 1 (relas_for 1 relas) ++ group_with k 2 (relas_for 2 relas) ++ group_with (5 + length (text ++ rodata)) 3 (relas_for 3 relas)) second
    ∙ ap (λ (k : ℕ). group_with 5 1 (relas_for 1 relas) ++ group_with (5 + present (length (relas_for 1 relas))) 2 (relas_for 2 relas) ++ group_with k 3 (relas_for 3 relas)) third

-- all groups of a module's file
pub groups_are : (p : Plan) (n : ℕ) (relas : List ModRela) (file : List ℕ) → AreRelasRead p relas file → flat_map (group_of file) (enumerate_from 0 (sections_in p n)) ≡ groups_in relas
unfolding program_sections table_sections
groups_are p n relas file r =
    let program = program_sections p.sizes p.layout p.bases in
    let middle = rela_sections p.sizes p.layout in
    let last = table_sections p.sizes p.layout n in
    let split : enumerate_from 0 (program ++ middle ++ last) ≡ enumerate_from 0 program ++ enumerate_from 5 middle ++ enumerate_from (0 + length (program ++ middle)) last =
    enumerate-append 0 (program ++ middle) last ∙ ap (λ (l : List (ℕ × Section)). l ++ enumerate_from (0 + length (program ++ middle)) last) (enumerate-append 0 program middle) in
    let none_first : flat_map (group_of file) (enumerate_from 0 program) ≡ [] = no_groups file 0 program (refl, (refl, (refl, (refl, (refl, tt))))) in
    let none_last : flat_map (group_of file) (enumerate_from (0 + length (program ++ middle)) last) ≡ [] = no_groups file (0 + length (program ++ middle)) last (refl, (refl, (refl, tt))) in
    ap (flat_map (group_of file)) split
    ∙ flat_map-append (group_of file) (enumerate_from 0 program ++ enumerate_from 5 middle) (enumerate_from (0 + length (program ++ middle)) last)
    ∙ ap (λ (g : List RelaGroupValue). g ++ flat_map (group_of file) (enumerate_from (0 + length (program ++ middle)) last)) (flat_map-append (group_of file) (enumerate_from 0 program) (enumerate_from 5 middle))
    ∙ rw (none_first, none_last, table_groups p relas file r) (append-nil (groups_in relas))
