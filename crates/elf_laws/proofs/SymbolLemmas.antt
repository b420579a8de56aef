-- Symbols that stand in a file, and their names, are read as they are.
use Rattle.std.proofs.Common.{◌≡◌, ◌≢◌, ◌<◌, ◌+◌, ◌*◌, ◌^◌, ◌++◌, ◌==◌, ℕ, List, [], ◌∷◌, false, length, map, drop, get_or, replicate, slice_index, refl, sym, ap, subst, ◌∙◌, arith}
use Rattle.std.proofs.lemmas.Bool.Decides.{nat_tests}
use Rattle.std.proofs.lemmas.List.{append_assoc, drop_at, get_or-drop, length-append}
use Rattle.std.specs.List.{flat_map, position_or_len, AllByRecursion}
use Rattle.elf_read.specs.declared.records.Span.{Span}
use Rattle.elf_read.specs.declared.constants.TheConstants.{SYMENTSIZE}
use Rattle.elf_read.specs.Records.{name_at, part, symbol_at}
use Rattle.elf_write.specs.declared.module.ModSymbol.{ModSymbol}
use Rattle.elf_write.specs.Parts.{info_of, name_bytes, symbol_bytes, symbols_from}
use Rattle.elf_write.specs.Places.{halves, words, xwords}
use Rattle.elf_laws.specs.Laws.{symbol_with, symbols_with}
use Rattle.elf_laws.proofs.RecordLemmas.{at_start, from_start, AreRead}
use Rattle.elf_laws.proofs.StandLemmas.{length-numbers, numbers_are, part_is, stands_back, stands_front, HasNumbers, Stands}

-- a symbol whose numbers have their sizes, and whose name has no zero byte
pub record IsPlain (s : ModSymbol) : Type 0 where
  pub home : s.section < 8
  pub numbers : AllByRecursion (λ x. x < 256 ^ 8) (s.value ∷ s.size ∷ [])
  pub named : AllByRecursion (λ b. b ≢ 0) s.name

-- symbol 0, as one of a module
abbrev pub null : ModSymbol
null = record { name = []; section = 0; value = 0; size = 0; global = false }

pub null_bytes : symbol_bytes 0 null ≡ replicate 24 0
unfolding symbol_bytes
null_bytes = refl

pub length-symbol : (name : ℕ) (s : ModSymbol) → length (symbol_bytes name s) ≡ SYMENTSIZE
unfolding symbol_bytes
length-symbol name s =
    let one : List ℕ = name ∷ [] in
    let two : List ℕ = info_of s.global ∷ 0 ∷ [] in
    let three : List ℕ = s.section ∷ [] in
    let four : List ℕ = s.value ∷ s.size ∷ [] in
    omega (arith, length-append (words one ++ two ++ halves three) (xwords four), length-append (words one ++ two) (halves three), length-append (words one) two, length-numbers 4 one, length-numbers 2 three, length-numbers 8 four)

-- where a name ends
name_ends : (name behind : List ℕ) → AllByRecursion (λ b. b ≢ 0) name → position_or_len (λ b. b == 0) (name ++ 0 ∷ [] ++ behind) ≡ length name
name_ends [] behind h = refl
name_ends (b ∷ name) behind h = let rest = name_ends name behind h.1 in let not_zero = h.0 in grind (arith, nat_tests, rest, not_zero)

-- the name at a place of a string table
name_is : (file : List ℕ) (names : Span) (name : ℕ) (front behind : List ℕ) (s : ModSymbol) → part file names ≡ front ++ (name_bytes s ++ behind) → length front ≡ name → AllByRecursion (λ b. b ≢ 0) s.name
    → name_at file names name ≡ record { at = names.at + name; len = length s.name }
unfolding name_at
name_is file names name front behind s are at named =
    let here : drop name (part file names) ≡ s.name ++ 0 ∷ [] ++ behind = ap (drop name) are ∙ drop_at front (name_bytes s ++ behind) name at in
    rw (here, name_ends s.name behind named) refl

-- a byte of a file
byte_is : (at i b : ℕ) (bytes file : List ℕ) → Stands (at + i) (b ∷ bytes) file → slice_index file (at + i) ≡ b
byte_is at i b bytes file s =
    let place : at + i ≡ at + i + 0 = omega arith in
    ap (λ (k : ℕ). get_or file k 0) place ∙ sym (get_or-drop (at + i) file 0 0) ∙ ap (λ (xs : List ℕ). get_or xs 0 0) s.here

-- the fields of a symbol
pub record HasSymbol (at name : ℕ) (s : ModSymbol) (file : List ℕ) : Type 0 where
  pub names : HasNumbers 4 at 0 (name ∷ []) file
  pub info : slice_index file (at + 4) ≡ info_of s.global
  pub other : slice_index file (at + 5) ≡ 0
  pub home : HasNumbers 2 at 6 (s.section ∷ []) file
  pub numbers : HasNumbers 8 at 8 (s.value ∷ s.size ∷ []) file

has_symbol : (at name : ℕ) (s : ModSymbol) (file : List ℕ) → name < 256 ^ 4 → IsPlain s → Stands at (symbol_bytes name s) file → HasSymbol at name s file
unfolding symbol_bytes
has_symbol at name s file low plain stands =
    let one : List ℕ = name ∷ [] in
    let two : List ℕ = info_of s.global ∷ 0 ∷ [] in
    let three : List ℕ = s.section ∷ [] in
    let four : List ℕ = s.value ∷ s.size ∷ [] in
    let s3 = stands_front at (words one ++ two ++ halves three) (xwords four) file stands in
    let s2 = stands_front at (words one ++ two) (halves three) file s3 in
    let s1 = stands_front at (words one) two file s2 in
    let at_4 = stands_back at 4 (words one) two file (length-numbers 4 one) s2 in
    let at_5 = stands_back (at + 4) 1 (info_of s.global ∷ []) (0 ∷ []) file refl at_4 in
    let length_6 : length (words one ++ two) ≡ 6 = omega (arith, length-append (words one) two, length-numbers 4 one) in
    let at_6 = stands_back at 6 (words one ++ two) (halves three) file length_6 s3 in
    let length_8 : length (words one ++ two ++ halves three) ≡ 8 = omega (arith, length_6, length-append (words one ++ two) (halves three), length-numbers 2 three) in
    let at_8 = stands_back at 8 (words one ++ two ++ halves three) (xwords four) file length_8 stands in
    let place : at + 4 + 1 ≡ at + 5 = omega arith in
    let home : s.section < 256 ^ 2 = omega (arith, plain.home) in
    record {
      names = numbers_are 4 at 0 one file (low, tt) (from_start at (words one) file s1);
      info = byte_is at 4 (info_of s.global) (0 ∷ []) file at_4;
      other = byte_is at 5 0 [] file (subst (λ (k : ℕ). Stands k (0 ∷ []) file) place at_5);
      home = numbers_are 2 at 6 three file (home, tt) at_6;
      numbers = numbers_are 8 at 8 four file plain.numbers at_8;
    }

symbol_is : (at name : ℕ) (names : Span) (s : ModSymbol) (file : List ℕ) → HasSymbol at name s file → name_at file names name ≡ record { at = names.at + name; len = length s.name } → symbol_at file names at ≡ symbol_with (names.at + name) s
unfolding symbol_at
symbol_is at name names s file h named = rw (at_start 4 at name file h.names.0, named, h.info, h.other, h.home.0, h.numbers.0, h.numbers.1.0) refl

-- a name and those behind it
names_step : (front : List ℕ) (s : ModSymbol) (ss : List ModSymbol) → front ++ flat_map name_bytes (s ∷ ss) ≡ (front ++ name_bytes s) ++ flat_map name_bytes ss
names_step front s ss = sym (append_assoc front (name_bytes s) (flat_map name_bytes ss))

-- the symbols in a table
pub symbols_are : (at k name : ℕ) (names : Span) (front : List ℕ) (symbols : List ModSymbol) (file : List ℕ) → AllByRecursion IsPlain symbols
    → part file names ≡ front ++ flat_map name_bytes symbols → length front ≡ name → length (part file names) < 2 ^ 32
    → Stands (at + SYMENTSIZE * k) (symbols_from name symbols) file
    → AreRead (λ i. symbol_at file names (at + SYMENTSIZE * i)) k (symbols_with (names.at + name) symbols)
symbols_are at k name names front [] file plain are here short stands = tt
symbols_are at k name names front (s ∷ ss) file plain are here short stands =
    let next : ℕ = name + length (name_bytes s) in
    let low : name < 256 ^ 4 = omega (arith, here, short, ap length are, length-append front (flat_map name_bytes (s ∷ ss))) in
    let first = stands_front (at + SYMENTSIZE * k) (symbol_bytes name s) (symbols_from next ss) file stands in
    let rest = stands_back (at + SYMENTSIZE * k) SYMENTSIZE (symbol_bytes name s) (symbols_from next ss) file (length-symbol name s) stands in
    let place : at + SYMENTSIZE * k + SYMENTSIZE ≡ at + SYMENTSIZE * (k + 1) = omega arith in
    let named = name_is file names name front (flat_map name_bytes ss) s are here plain.0.named in
    let behind = symbols_are at (k + 1) next names (front ++ name_bytes s) ss file plain.1 (are ∙ names_step front s ss) (omega (arith, here, length-append front (name_bytes s))) short (subst (λ (p : ℕ). Stands p (symbols_from next ss) file) place rest) in
    let same : names.at + next ≡ names.at + name + length (name_bytes s) = omega arith in
    (symbol_is (at + SYMENTSIZE * k) name names s file (has_symbol (at + SYMENTSIZE * k) name s file low plain.0 first) named, subst (λ (p : ℕ). AreRead (λ i. symbol_at file names (at + SYMENTSIZE * i)) (k + 1) (symbols_with p ss)) same behind)

-- the names of symbols that stand in a file
pub names_are : (at : ℕ) (symbols : List ModSymbol) (file : List ℕ) → Stands at (flat_map name_bytes symbols) file → map (λ s. part file s.st_name) (symbols_with at symbols) ≡ map (λ s. s.name) symbols
names_are at [] file stands = refl
names_are at (s ∷ ss) file stands =
    let front = stands_front at (name_bytes s) (flat_map name_bytes ss) file stands in
    let here = part_is at (length s.name) s.name file refl (stands_front at s.name (0 ∷ []) file front) in
    let behind = names_are (at + length (name_bytes s)) ss file (stands_back at (length (name_bytes s)) (name_bytes s) (flat_map name_bytes ss) file refl stands) in
    ap (λ (x : List ℕ). x ∷ map (λ t. part file t.st_name) (symbols_with (at + length (name_bytes s)) ss)) here ∙ ap (λ (xs : List (List ℕ)). s.name ∷ xs) behind
