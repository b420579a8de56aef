-- What a file keeps whose sections, symbols and relocations break no rule.
use Rattle.std.proofs.Common.{◌≡◌, ◌<◌, ◌≤◌, ℕ, ◌+◌, ◌*◌, ◌⊎◌, inl, inr, Bool, true, false, not, ◌==◌, ◌%◌, ◌&&◌, ◌||◌, cond, List, [], ◌∷◌, ◌++◌, Option, None, length, get_or, All, Result, Ok, Err, IfOk, refl, subst, sym, arith, nat_lt, nat_le}
use Rattle.std.proofs.lemmas.Bool.Decides.{nat_tests}
use Rattle.std.specs.List.{AllByRecursion, enumerate_from, flat_map}
use Rattle.elf_read.specs.declared.constants.TheConstants.{RELAENTSIZE, SHENTSIZE, SHN_LORESERVE, SHN_XINDEX, SHT_NOBITS, SHT_NULL, SHT_REL, SYMENTSIZE}
use Rattle.elf_read.specs.declared.elf.Kind.{Kind}
use Rattle.elf_read.specs.declared.elf.Kind.TheVariants.{Exec, Rel}
use Rattle.elf_read.specs.declared.fault.ElfFault.{ElfFault}
use Rattle.elf_read.specs.declared.header.Header.{Header}
use Rattle.elf_read.specs.declared.records.Section.{Section}
use Rattle.elf_read.specs.declared.records.Symbol.{Symbol}
use Rattle.elf_read.specs.declared.symbols.SymbolTable.{SymbolTable}
use Rattle.wf_outside.specs.Lists.{first_of}
use Rattle.wf_outside.specs.declared.rules.ElfRule.{ElfRule}
use Rattle.wf_outside.specs.declared.rules.ElfRule.TheVariants.{Range, Strings, Table}
use Rattle.elf_read.specs.Elf.{HasHome, LiesInFile}
use Rattle.elf_read.specs.Records.{group_of, is_rela, relas_in, relas_of}
use Rattle.elf_read.specs.Reading.{Answers}
use Rattle.elf_read.specs.Relas.{IsRooted, RelaGroupValue}
use Rattle.elf_read.specs.Rules.{ends_in, entry_rule, has_home, has_symbol, is_linked, is_symbols, lies_in_file, link_rules, rela_rules, section_rules, symbol_rules, unless, unless_each}
use Rattle.wf_outside.proofs.RisingLemmas.{all_at}
use Rattle.elf_read.proofs.RuleLemmas.{each_holds, none_first, sections_fit}

-- one of three tests that holds
one_of : (a b c : Bool) → (a || b || c) ≡ true → (a ≡ true) ⊎ (b ≡ true) ⊎ (c ≡ true)
one_of true b c e = inl refl
one_of false true c e = inr (inl refl)
one_of false false c e = inr (inr e)

lies_is : (size : ℕ) (s : Section) → lies_in_file size s ≡ true → LiesInFile size s
lies_is size s e = elim (one_of (s.sh_type == SHT_NULL) (s.sh_type == SHT_NOBITS) (nat_le (s.sh_offset + s.sh_size) size) e) [
  | inl null ↦ inl (grind (arith, nat_tests))
  | inr (inl nobits) ↦ inr (inl (grind (arith, nat_tests)))
  | inr (inr within) ↦ inr (inr (grind (arith, nat_tests)))
]

-- the sections of a file that breaks no rule about them lie in it
pub sections_lie : (size : ℕ) (h : Header) (sections : List Section) → None ≡ first_of (section_rules size h sections) → All (LiesInFile size) sections
sections_lie size h sections e k d l =
    lies_is size (get_or sections k d) (each_holds (lies_in_file size) Range h.e_shoff SHENTSIZE sections (sections_fit size h sections e).0 k d l)

home_by : (a b c : Bool) → (a || (b && c)) ≡ true → (a ≡ true) ⊎ (b ≡ true)
home_by true b c e = inl refl
home_by false true c e = inr refl
home_by false false c e = cc

home_is : (sections : ℕ) (s : Symbol) → has_home sections s ≡ true → HasHome sections s
home_is sections s e = elim (home_by (nat_lt s.st_shndx sections) (nat_le SHN_LORESERVE s.st_shndx) (not (s.st_shndx == SHN_XINDEX)) e) [
  | inl there ↦ inl (grind (arith, nat_tests))
  | inr reserved ↦ inr (grind (arith, nat_tests))
]

-- the symbols of a file that breaks no rule about them have their sections there
pub symbols_home : (h : Header) (t : SymbolTable) (symbols : List Symbol) → None ≡ first_of (symbol_rules h t symbols) → All (HasHome h.e_shnum) symbols
unfolding symbol_rules
symbols_home h t symbols e k d l =
    let homes = none_first (unless_each (has_home h.e_shnum) Table t.at SYMENTSIZE symbols) [] (none_first (unless_each (ends_in t.names) Strings t.at SYMENTSIZE symbols) (unless_each (has_home h.e_shnum) Table t.at SYMENTSIZE symbols ∷ []) e).1 in
    home_is h.e_shnum (get_or symbols k d) (each_holds (has_home h.e_shnum) Table t.at SYMENTSIZE symbols homes.0 k d l)

-- a rule that is not broken has its test hold
test_holds : (b : Bool) (rule : ElfRule) (at : ℕ) → None ≡ unless b rule at → b ≡ true
test_holds true rule at e = refl
test_holds false rule at e = cc

target_by : (rel rela a b c d : Bool) → (not rel && (not rela || (a && b && c && d))) ≡ true → rela ≡ true → d ≡ true
target_by true rela a b c d e is = cc
target_by false false a b c d e is = cc
target_by false true true true true d e is = e
target_by false true true true false d e is = cc
target_by false true true false c d e is = cc
target_by false true false b c d e is = cc

-- the group of one section, as its type is
rooted_cons : (bytes : List ℕ) (all : List Section) (symbols n : ℕ) (s : Section) (more : List RelaGroupValue) (t : Bool) → is_rela s ≡ t → n < length all → is_linked all s ≡ true → None ≡ cond t (unless_each (has_symbol symbols) Table s.sh_offset RELAENTSIZE (relas_in bytes s)) None → AllByRecursion (IsRooted (length all) symbols) more
    → AllByRecursion (IsRooted (length all) symbols) (cond t (record { section = n; target = s.sh_info; relas = relas_in bytes s } ∷ []) [] ++ more)
rooted_cons bytes all symbols n s more false is within linked named rest = rest
rooted_cons bytes all symbols n s more true is within linked named rest =
    let target : nat_lt s.sh_info (length all) ≡ true = target_by (s.sh_type == SHT_REL) (is_rela s) (s.sh_entsize == RELAENTSIZE) (s.sh_size % RELAENTSIZE == 0) (is_symbols all s.sh_link) (nat_lt s.sh_info (length all)) linked is in (
      record {
        section = within;
        target = grind (arith, nat_tests);
        named = λ k d l. (let e : has_symbol symbols (get_or (relas_in bytes s) k d) ≡ true = each_holds (has_symbol symbols) Table s.sh_offset RELAENTSIZE (relas_in bytes s) named k d l in grind (arith, nat_tests));
      },
      rest,
    )

rooted_from : (bytes : List ℕ) (h : Header) (all : List Section) (symbols n : ℕ) (xs : List Section) → n + length xs ≤ length all → None ≡ first_of (flat_map (link_rules bytes h all symbols) (enumerate_from n xs)) → AllByRecursion (IsRooted (length all) symbols) (flat_map (group_of bytes) (enumerate_from n xs))
rooted_from bytes h all symbols n [] room e = tt
rooted_from bytes h all symbols n (s ∷ ss) room e =
    let later : List (Option ElfFault) = flat_map (link_rules bytes h all symbols) (enumerate_from (n + 1) ss) in
    let first = none_first (unless (is_linked all s) Table (h.e_shoff + SHENTSIZE * n)) (entry_rule bytes symbols s ∷ later) e in
    let second = none_first (entry_rule bytes symbols s) later first.1 in
    rooted_cons bytes all symbols n s (flat_map (group_of bytes) (enumerate_from (n + 1) ss)) (is_rela s) refl (omega arith) (test_holds _ _ _ first.0) second.0
    (rooted_from bytes h all symbols (n + 1) ss (omega arith) second.1)

-- the relocations of a file that breaks no rule about them have their sections and symbols there
pub relas_rooted : (kind : Kind) (bytes : List ℕ) (h : Header) (sections : List Section) (symbols : ℕ) → None ≡ first_of (rela_rules kind bytes h sections symbols) → All (IsRooted (length sections) symbols) (relas_of kind bytes sections)
unfolding rela_rules
relas_rooted Exec bytes h sections symbols e k d l = absurd (omega arith)
relas_rooted Rel bytes h sections symbols e k d l =
    all_at (IsRooted (length sections) symbols) (relas_of Rel bytes sections) k d (rooted_from bytes h sections symbols 0 sections (omega arith) e) l

-- what is read of a relocatable file
pub read_rooted : {X : Type 0} (items : X → List RelaGroupValue) (r : Result X ElfFault) (bytes : List ℕ) (h : Header) (sections : List Section) (symbols : ℕ) → Answers r (rela_rules Rel bytes h sections symbols) (λ v. items v ≡ relas_of Rel bytes sections)
    → IfOk r (λ v. All (IsRooted (length sections) symbols) (items v))
read_rooted items (Ok v) bytes h sections symbols p =
    subst (All (IsRooted (length sections) symbols)) (sym p.1) (relas_rooted Rel bytes h sections symbols (sym p.0))
read_rooted items (Err fault) bytes h sections symbols p = tt
